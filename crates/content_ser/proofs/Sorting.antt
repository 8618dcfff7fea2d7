-- What holds of each entry holds of each sorted one.
use Rattle.std.proofs.Common.{List, [], ◌∷◌, Ordering, Less, Equal, Greater, nat_cmp}
use Rattle.std.specs.Ordering.{match_ordering}
use Rattle.std.specs.Cmp.Lexicographic.{slice_cmp}
use Rattle.content_tree.specs.Values.Tree.{Tree}
use Rattle.content_ser.specs.Sending.Loose.{KeyedTree, put, put_each, sorted}

-- what is at each key is such
abbrev pub EachHeld : (Tree → Type 0) → List KeyedTree → Type 0
EachHeld Held [] = Unit {0}
EachHeld Held (e ∷ es) = Held e.1 × EachHeld Held es

held_by : (Held : Tree → Type 0) (o : Ordering) (xs ys zs : List KeyedTree) → EachHeld Held xs → EachHeld Held ys → EachHeld Held zs → EachHeld Held (match_ordering o xs ys zs)
held_by Held Less xs ys zs a b c = a
held_by Held Equal xs ys zs a b c = b
held_by Held Greater xs ys zs a b c = c

put_held : (Held : Tree → Type 0) (es : List KeyedTree) (e : KeyedTree) → EachHeld Held es → Held e.1 → EachHeld Held (put es e)
put_held Held [] e h is = (is, tt)
put_held Held (f ∷ es) e h is = held_by Held (slice_cmp nat_cmp e.0 f.0) (e ∷ f ∷ es) ((f.0, e.1) ∷ es) (f ∷ put es e) (is, h) (is, h.1) (h.0, put_held Held es e h.1 is)

put_each-held : (Held : Tree → Type 0) (all es : List KeyedTree) → EachHeld Held all → EachHeld Held es → EachHeld Held (put_each all es)
put_each-held Held all [] a h = a
put_each-held Held all (e ∷ es) a h = put_each-held Held (put all e) es (put_held Held all e a h.0) h.1

pub sorted_held : (Held : Tree → Type 0) (es : List KeyedTree) → EachHeld Held es → EachHeld Held (sorted es)
sorted_held Held es h = put_each-held Held [] es tt h
