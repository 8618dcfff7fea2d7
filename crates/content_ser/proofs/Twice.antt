-- The loose form of a loose form is itself.
use Rattle.std.proofs.Common.{◌≡◌, ℕ, Bool, true, false, ◌&&◌, List, [], ◌∷◌, cond, refl, sym, ap}
use Rattle.std.proofs.Common.{◌∙◌}
use Rattle.content_tree.specs.Values.Text.{Text}
use Rattle.content_tree.specs.Values.Tree.{Tree, unit, boolean, number, character, text, octets}
use Rattle.content_tree.specs.Values.Tree.{seq, map, absent, present, structure, enumeration, tuple}
use Rattle.content_tree.specs.Values.Tree.{TreeData, no_data, one, many, named, Trees, no_trees}
use Rattle.content_tree.specs.Values.Tree.{tree_then, Pairs, no_pairs, pair_then, Fields, no_fields}
use Rattle.content_tree.specs.Values.Tree.{field_then}
use Rattle.content_ser.specs.Sending.Loose.{KeyedTree, sorted, text_pairs, single, loose}
use Rattle.content_ser.specs.Sending.Loose.{loose_struct, loose_variant, loose_data, loose_each}
use Rattle.content_ser.specs.Sending.Loose.{loose_pairs, loose_field_pairs, loose_fields, keyed}
use Rattle.content_ser.proofs.Sorting.{EachHeld, sorted_held}

-- a tree that is its own loose form
abbrev IsLoose : Tree → Type 0
IsLoose t = loose t ≡ t

text_pairs-loose : (es : List KeyedTree) → EachHeld IsLoose es → loose_pairs (text_pairs es) ≡ text_pairs es
text_pairs-loose [] h = refl
text_pairs-loose (e ∷ es) h = rw (h.0, text_pairs-loose es h.1)

struct_twice : (b : Bool) (n : Text) (p : TreeData) → n.borrowed ≡ b → loose_data (loose_data p) ≡ loose_data p → loose (loose_struct p) ≡ loose_struct p
    → loose (loose (structure n p)) ≡ loose (structure n p)
struct_twice true n p e h k = rw (e, h)
struct_twice false n p e h k = rw (e, k)

enum_twice : (b : Bool) (n : Text) (i : ℕ) (v : Text) (p : TreeData) → (n.borrowed && v.borrowed) ≡ b → loose_data (loose_data p) ≡ loose_data p
    → loose (loose_variant v p) ≡ loose_variant v p → loose (loose (enumeration n i v p)) ≡ loose (enumeration n i v p)
enum_twice true n i v p e h k =
    let once : loose (enumeration n i v p) ≡ enumeration n i v (loose_data p) = ap (λ b. cond b (enumeration n i v (loose_data p)) (loose_variant v p)) e in
    let again : loose (enumeration n i v (loose_data p)) ≡ enumeration n i v (loose_data (loose_data p)) =
    ap (λ b. cond b (enumeration n i v (loose_data (loose_data p))) (loose_variant v (loose_data p))) e in
    ap loose once ∙ (again ∙ (ap (enumeration n i v) h ∙ sym once))
enum_twice false n i v p e h k =
    let once : loose (enumeration n i v p) ≡ loose_variant v p = ap (λ b. cond b (enumeration n i v (loose_data p)) (loose_variant v p)) e in
    ap loose once ∙ (k ∙ sym once)

mutual
  pub twice : (t : Tree) → loose (loose t) ≡ loose t
  twice unit = refl
  twice (boolean b) = refl
  twice (number n) = refl
  twice (character c) = refl
  twice (text t) = refl
  twice (octets t) = refl
  twice (seq ts) = ap seq (twice_each ts)
  twice (map ps) = ap map (twice_pairs ps)
  twice absent = refl
  twice (present t) = ap present (twice t)
  twice (structure n p) = struct_twice n.borrowed n p refl (twice_data p) (twice_struct p)
  twice (enumeration n i v p) = enum_twice (n.borrowed && v.borrowed) n i v p refl (twice_data p) (twice_variant v p)
  twice (tuple ts) = ap tuple (twice_each ts)

  twice_struct : (p : TreeData) → loose (loose_struct p) ≡ loose_struct p
  twice_struct no_data = refl
  twice_struct (one t) = twice t
  twice_struct (many ts) = ap seq (twice_each ts)
  twice_struct (named fs) = ap map (twice_field_pairs fs)

  twice_variant : (v : Text) (p : TreeData) → loose (loose_variant v p) ≡ loose_variant v p
  twice_variant v no_data = refl
  twice_variant v (one t) = ap (single v) (twice t)
  twice_variant v (many ts) = ap (λ us. single v (seq us)) (twice_each ts)
  twice_variant v (named fs) = ap (λ ps. single v (map ps)) (text_pairs-loose (sorted (keyed fs)) (sorted_held IsLoose (keyed fs) (keyed_loose fs)))

  twice_data : (p : TreeData) → loose_data (loose_data p) ≡ loose_data p
  twice_data no_data = refl
  twice_data (one t) = ap one (twice t)
  twice_data (many ts) = ap many (twice_each ts)
  twice_data (named fs) = ap named (twice_fields fs)

  twice_each : (ts : Trees) → loose_each (loose_each ts) ≡ loose_each ts
  twice_each no_trees = refl
  twice_each (tree_then t ts) = rw (twice t, twice_each ts)

  twice_pairs : (ps : Pairs) → loose_pairs (loose_pairs ps) ≡ loose_pairs ps
  twice_pairs no_pairs = refl
  twice_pairs (pair_then k t ps) = rw (twice k, twice t, twice_pairs ps)

  twice_field_pairs : (fs : Fields) → loose_pairs (loose_field_pairs fs) ≡ loose_field_pairs fs
  twice_field_pairs no_fields = refl
  twice_field_pairs (field_then k t fs) = rw (twice t, twice_field_pairs fs)

  twice_fields : (fs : Fields) → loose_fields (loose_fields fs) ≡ loose_fields fs
  twice_fields no_fields = refl
  twice_fields (field_then k t fs) = rw (twice t, twice_fields fs)

  keyed_loose : (fs : Fields) → EachHeld IsLoose (keyed fs)
  keyed_loose no_fields = tt
  keyed_loose (field_then k t fs) = (twice t, keyed_loose fs)
