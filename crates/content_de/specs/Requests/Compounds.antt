-- Requests for what has parts. The names of structs are never compared.
use Rattle.std.specs.Prelude.{ℕ, suc, List, [], ◌∷◌, Option, Some, None, option_map, if◌then◌else◌}
use Rattle.content_tree.specs.Values.Tree as tree
use Rattle.content_tree.specs.Values.Tree.{Tree, Trees, Pairs, Fields}
use Rattle.content_tree.specs.Errors.Cause.{nameless}
use Rattle.content_tree.specs.declared.expected.Expected.TheVariants as want
use Rattle.content_tree.specs.declared.expected.DataType.TheVariants as kind
use Rattle.content_de.specs.Sources.Origin.{Origin, of_tree, of_identifier, Subject, tree_under}
use Rattle.content_de.specs.Outcomes.{Outcome, taken, misfit}
use Rattle.content_de.specs.Requests.Data.{is_nothing, one_in, many_in, named_in, or_else}
use Rattle.content_de.specs.Requests.Names.{a_struct}

-- a unit struct; the bare unit is one too
abbrev pub unit_struct_from : List ℕ → Origin → Outcome (Unit {0})
unit_struct_from name (of_tree tree.unit) = taken tt
unit_struct_from name (of_tree (tree.structure n d)) =
    if is_nothing d then taken tt else misfit (of_tree (tree.structure n d)) (a_struct name kind.Unit)
unit_struct_from name o = misfit o (a_struct name kind.Unit)

-- the one value of a struct
abbrev pub newtype_in : Tree → Option Tree
newtype_in (tree.structure n d) = one_in d
newtype_in t = None

-- what a newtype struct holds; any other tree is read itself
abbrev pub newtype_from : List ℕ → Subject → Outcome Subject
newtype_from name s = elim s.origin [
  | of_tree t ↦ elim (newtype_in t) [ Some u ↦ taken (tree_under s.flags u) | None ↦ taken s ]
  | of_identifier n i ↦ misfit s.origin (a_struct name kind.NewType)
]

-- the items of a sequence
abbrev pub items_from : Origin → Outcome Trees
items_from (of_tree (tree.seq ts)) = taken ts
items_from o = misfit o (nameless want.Seq)

-- the items of a tuple or of a sequence, however many
abbrev pub tuple_from : ℕ → Origin → Outcome Trees
tuple_from len (of_tree (tree.seq ts)) = taken ts
tuple_from len (of_tree (tree.tuple ts)) = taken ts
tuple_from len o = misfit o (nameless (want.Tuple len))

-- the items of a tuple struct or of a sequence
abbrev pub tuple_struct_from : List ℕ → Origin → Outcome Trees
tuple_struct_from name (of_tree (tree.seq ts)) = taken ts
tuple_struct_from name (of_tree (tree.structure n d)) =
    or_else (many_in d) (misfit (of_tree (tree.structure n d)) (a_struct name kind.Tuple))
tuple_struct_from name o = misfit o (a_struct name kind.Tuple)

-- the pairs of a map, each key a tree
abbrev pub entries_of_pairs : Pairs → List (Origin × Tree)
entries_of_pairs tree.no_pairs = []
entries_of_pairs (tree.pair_then k t ps) = (of_tree k, t) ∷ entries_of_pairs ps

-- the fields of a struct from this place on, each key an identifier with its place
abbrev pub entries_of_fields : ℕ → Fields → List (Origin × Tree)
entries_of_fields place tree.no_fields = []
entries_of_fields place (tree.field_then k t fs) = (of_identifier k place, t) ∷ entries_of_fields (suc place) fs

-- the entries of a map
abbrev pub entries_from : Origin → Outcome (List (Origin × Tree))
entries_from (of_tree (tree.map ps)) = taken (entries_of_pairs ps)
entries_from o = misfit o (nameless want.Map)

-- the entries of a struct with fields, or of a map
abbrev pub struct_from : List ℕ → Origin → Outcome (List (Origin × Tree))
struct_from name (of_tree (tree.map ps)) = taken (entries_of_pairs ps)
struct_from name (of_tree (tree.structure n d)) =
    or_else (option_map (entries_of_fields 0) (named_in d))
    (misfit (of_tree (tree.structure n d)) (a_struct name kind.Struct))
struct_from name o = misfit o (a_struct name kind.Struct)
