-- The tape of a partial tree is read as it.
use Rattle.std.proofs.Common.{◌≡◌, ℕ, ◌+◌, List, [], ◌∷◌, ◌++◌, take, drop, get_or, length}
use Rattle.std.proofs.Common.{refl, sym, ap, ◌∙◌, append-nil}
use Rattle.std.proofs.Math.Seq.{take-append_seam, drop-append-add, get_or-append_seam}
use Rattle.content_tree.specs.Values.Text.{Text, static_name}
use Rattle.content_tree.specs.Values.Tree.{Tree, Trees, no_trees, tree_then, Pairs, no_pairs}
use Rattle.content_tree.specs.Values.Tree.{pair_then, Fields, no_fields, field_then}
use Rattle.content_ser.specs.Calls.Head as calls
use Rattle.content_ser.specs.Calls.Head.{Head}
use Rattle.content_ser.specs.Grammar.Token as token
use Rattle.content_ser.specs.Grammar.Token.{Wrap, Series}
use Rattle.content_build.specs.Partial as partial
use Rattle.content_build.specs.Partial.{Partial, Slot, Compound}
use Rattle.content_build.specs.Inner.Cells.{key, Cell, cell, Wait, Open, opened, flat, flat_trees}
use Rattle.content_build.specs.Inner.Cells.{flat_pairs, flat_fields, names_of, wrap_label, series_label}
use Rattle.content_build.specs.Inner.Cells.{slot_label, slot_cells, slot_wait, slot_last}
use Rattle.content_build.specs.Inner.Cells.{compound_label, compound_cells, compound_wait}
use Rattle.content_build.specs.Inner.Cells.{compound_last}
use Rattle.content_build.specs.Inner.Cells.{slots_cells, slots_opens, cells, opens, Stood}
use Rattle.content_build.specs.Inner.Forest.{Grown, grown, no_key, read}
use Rattle.content_build.specs.Inner.Decoding.{all_trees, all_fields, all_pairs, odd_one, last_key}
use Rattle.content_build.specs.Inner.Decoding.{head_from, wrap_at, series_at, slot_of, nowhere}
use Rattle.content_build.specs.Inner.Decoding.{slots_of, standing, outermost, decode}
use Rattle.content_build.proofs.Reading.{of_trees, of_pairs, of_fields, read-trees, read-pairs}
use Rattle.content_build.proofs.Reading.{read-fields, read-whole}

all_of_trees : (ts : Trees) → all_trees (of_trees ts []) ≡ ts
all_of_trees no_trees = refl
all_of_trees (tree_then t ts) = ap (tree_then t) (all_of_trees ts)

all_of_fields : (ts : Fields) → all_fields (of_fields ts []) ≡ ts
all_of_fields no_fields = refl
all_of_fields (field_then k t ts) = ap (field_then k t) (all_of_fields ts)

all_of_pairs : (ps : Pairs) → all_pairs (of_pairs ps []) ≡ ps
all_of_pairs no_pairs = refl
all_of_pairs (pair_then k v ps) = ap (pair_then k v) (all_of_pairs ps)

all_but_one : (ps : Pairs) (g : Grown) → all_pairs (of_pairs ps (g ∷ [])) ≡ ps
all_but_one no_pairs g = refl
all_but_one (pair_then k v ps) g = ap (pair_then k v) (all_but_one ps g)

the_one : (ps : Pairs) (k : Text) (t : Tree) (n : ℕ) → odd_one (of_pairs ps (grown k t n ∷ [])) ≡ t
the_one no_pairs k t n = refl
the_one (pair_then a b ps) k t n = the_one ps k t n

only_trees : (ts : Trees) → all_trees (read (flat_trees ts) []) ≡ ts
only_trees ts = ap (λ l. all_trees (read l [])) (sym (append-nil (flat_trees ts))) ∙ (ap all_trees (read-trees ts [] []) ∙ all_of_trees ts)

only_fields : (ts : Fields) → all_fields (read (flat_fields ts) []) ≡ ts
only_fields ts = ap (λ l. all_fields (read l [])) (sym (append-nil (flat_fields ts))) ∙ (ap all_fields (read-fields ts [] []) ∙ all_of_fields ts)

only_pairs : (ps : Pairs) → all_pairs (read (flat_pairs ps) []) ≡ ps
only_pairs ps = ap (λ l. all_pairs (read l [])) (sym (append-nil (flat_pairs ps))) ∙ (ap all_pairs (read-pairs ps [] []) ∙ all_of_pairs ps)

with_key : (ps : Pairs) (k : Tree) → read (flat_pairs ps ++ flat k) [] ≡ of_pairs ps (grown no_key k (length (flat k)) ∷ [])
with_key ps k = read-pairs ps (flat k) [] ∙ ap (of_pairs ps) (read-whole k)

-- a key that waits for its tree is read as no field
before_key : (fs : Fields) (k : Text) → all_fields (read (flat_fields fs ++ cell (key k) 1 ∷ []) []) ≡ fs
before_key fs k = ap all_fields (read-fields fs (cell (key k) 1 ∷ []) []) ∙ all_of_fields fs

its_key : (cs : List Cell) (k : Text) → last_key (cs ++ cell (key k) 1 ∷ []) ≡ k.content
its_key [] k = refl
its_key (c ∷ []) k = refl
its_key (c ∷ d ∷ cs) k = its_key (d ∷ cs) k

head-back : (h : Head) → head_from (names_of h) ≡ h
head-back (calls.of_struct n) = refl
head-back (calls.of_variant n i v) = refl

wrap-back : (w : Wrap) → wrap_at (cell (wrap_label w) 0) ≡ w
wrap-back token.in_some = refl
wrap-back (token.in_head h) = ap token.in_head (head-back h)

series-back : (r : Series) → series_at (cell (series_label r) 0) ≡ r
series-back token.series_seq = refl
series-back token.series_tuple = refl
series-back (token.series_head h) = ap token.series_head (head-back h)

one_slot : (p : Slot) → slot_of (slot_wait p) (cell (slot_label p) 0) (slot_cells p) ≡ p
one_slot (partial.child w) = ap partial.child (wrap-back w)
one_slot (partial.element r ts) = ap (λ x. partial.element x (all_trees (read (flat_trees ts) []))) (series-back r) ∙ ap (partial.element r) (only_trees ts)
one_slot (partial.key ps) = ap Slot.key (only_pairs ps)
one_slot (partial.value ps) = ap Slot.value (only_pairs ps)
one_slot (partial.entry_key ps) = ap Slot.entry_key (only_pairs ps)
one_slot (partial.entry_value ps k) =
    ap (λ f. Slot.entry_value (all_pairs f) (odd_one f)) (with_key ps k)
    ∙ (ap (λ x. Slot.entry_value x (odd_one (of_pairs ps (grown no_key k (length (flat k)) ∷ [])))) (all_but_one ps _) ∙ ap (Slot.entry_value ps) (the_one ps no_key k _))
one_slot (partial.field_value h fs k) =
    let inside = flat_fields fs ++ cell (key (static_name k)) 1 ∷ [] in
    ap (λ x. partial.field_value x (all_fields (read inside [])) (last_key inside)) (head-back h)
    ∙ (ap (λ x. partial.field_value h x (last_key inside)) (before_key fs (static_name k)) ∙ ap (partial.field_value h fs) (its_key (flat_fields fs) (static_name k)))

module _ (front : List Cell) (c : Cell) (inside : List Cell) where
  front-take : take (length front) (front ++ (c ∷ inside)) ≡ front
  front-take = take-append_seam front (c ∷ inside)

  front-get : get_or (front ++ (c ∷ inside)) (length front) nowhere ≡ c
  front-get = get_or-append_seam front c inside nowhere

  front-drop : drop (length front + 1) (front ++ (c ∷ inside)) ≡ inside
  front-drop = drop-append-add front (c ∷ inside) 1

slots-decoded : (ps : List Slot) → slots_of (slots_cells ps) (slots_opens ps) ≡ ps
slots-decoded [] = refl
slots-decoded (p ∷ ps) =
    let front = slots_cells ps in
    let c = cell (slot_label p) 0 in
    let whole = front ++ (c ∷ slot_cells p) in
    ap (λ x. slot_of (slot_wait p) x (drop (length front + 1) whole) ∷ slots_of (take (length front) whole) (slots_opens ps)) (front-get front c (slot_cells p))
    ∙ (ap (λ x. slot_of (slot_wait p) c x ∷ slots_of (take (length front) whole) (slots_opens ps)) (front-drop front c (slot_cells p))
    ∙ (ap (λ x. slot_of (slot_wait p) c (slot_cells p) ∷ slots_of x (slots_opens ps)) (front-take front c (slot_cells p))
    ∙ (ap (λ x. x ∷ slots_of front (slots_opens ps)) (one_slot p) ∙ ap (λ x. p ∷ x) (slots-decoded ps))))

-- the innermost open head
opened-decoded : (front inside : List Cell) (c : Cell) (last : ℕ) (w : Wait) (os : List Open) → decode (front ++ (c ∷ inside)) (opened (length front) last w ∷ os) ≡ standing w c inside (slots_of front os)
opened-decoded front inside c last w os =
    let whole = front ++ (c ∷ inside) in
    ap (λ x. standing w x (drop (length front + 1) whole) (slots_of (take (length front) whole) os)) (front-get front c inside)
    ∙ (ap (λ x. standing w c x (slots_of (take (length front) whole) os)) (front-drop front c inside)
    ∙ ap (λ x. standing w c inside (slots_of x os)) (front-take front c inside))

waits_on : (p : Slot) (c : Cell) (inside : List Cell) (ps : List Slot) → standing (slot_wait p) c inside ps ≡ partial.due (slot_of (slot_wait p) c inside ∷ ps)
waits_on (partial.child w) c inside ps = refl
waits_on (partial.element r ts) c inside ps = refl
waits_on (partial.key prs) c inside ps = refl
waits_on (partial.value prs) c inside ps = refl
waits_on (partial.entry_key prs) c inside ps = refl
waits_on (partial.entry_value prs k) c inside ps = refl
waits_on (partial.field_value h fs k) c inside ps = refl

one_compound : (c : Compound) (ps : List Slot) → standing (compound_wait c) (cell (compound_label c) 0) (compound_cells c) ps ≡ partial.between c ps
one_compound (partial.in_series r ts) ps = ap (λ x. partial.between (partial.in_series x (all_trees (read (flat_trees ts) []))) ps) (series-back r) ∙ ap (λ x. partial.between (partial.in_series r x) ps) (only_trees ts)
one_compound (partial.in_map prs) ps = ap (λ x. partial.between (partial.in_map x) ps) (only_pairs prs)
one_compound (partial.in_record h fs) ps = ap (λ x. partial.between (partial.in_record x (all_fields (read (flat_fields fs) []))) ps) (head-back h) ∙ ap (λ x. partial.between (partial.in_record h x) ps) (only_fields fs)

pub decoded : (s : Partial) → decode (cells s) (opens s) ≡ s
decoded (partial.due []) = refl
decoded (partial.due (p ∷ ps)) =
    let c = cell (slot_label p) 0 in
    opened-decoded (slots_cells ps) (slot_cells p) c (slot_last (length (slots_cells ps) + 1) p) (slot_wait p) (slots_opens ps)
    ∙ (waits_on p c (slot_cells p) _ ∙ (ap (λ x. partial.due (x ∷ slots_of (slots_cells ps) (slots_opens ps))) (one_slot p) ∙ ap (λ x. partial.due (p ∷ x)) (slots-decoded ps)))
decoded (partial.between c ps) =
    opened-decoded (slots_cells ps) (compound_cells c) (cell (compound_label c) 0) (compound_last (length (slots_cells ps) + 1) c) (compound_wait c) (slots_opens ps)
    ∙ (one_compound c _ ∙ ap (partial.between c) (slots-decoded ps))
decoded (partial.done t) = ap outermost (read-whole t)

-- what represents a partial tree is read as it
pub decoded-from : (cs : List Cell) (os : List Open) (s : Partial) → Stood cs os s → decode cs os ≡ s
decoded-from cs os s (c, o) = ap (λ x. decode x os) c ∙ (ap (decode (cells s)) o ∙ decoded s)
