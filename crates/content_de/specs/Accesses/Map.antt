-- What a map has left.
use Rattle.std.specs.Prelude.{ℕ, List, [], ◌∷◌, Bool, true, false, Option, Some, None, codes, ⊤}
use Rattle.content_tree.specs.Values.Tree.{Tree, unit}
use Rattle.content_tree.specs.Values.Value.{pairs_view, fields_view}
use Rattle.content_tree.specs.Errors.Cause.{custom}
use Rattle.content_de.specs.Sources.Origin.{Origin, of_tree, Flags, Subject, tree_under}
use Rattle.content_de.specs.Sources.Origin.{subject_under}
use Rattle.content_de.specs.Sources.Deserializer.{flags_of}
use Rattle.content_de.specs.Outcomes.{Outcome, taken, refused, outcome_map}
use Rattle.content_de.specs.Requests.Compounds.{entries_of_pairs, entries_of_fields}
use Rattle.content_de.specs.Requests.Compounds.{entries_from, struct_from}
use Rattle.content_de.specs.declared.map.Map.{Map}
use Rattle.content_de.specs.declared.map.Entries.{Entries}
use Rattle.content_de.specs.declared.map.Entries.TheVariants as entries

-- the entries that are left, each a key and a value, with the flags
pub record MapLeft : Type 0 where
  pub entries : List (Origin × Tree)
  pub flags : Flags

-- entries under these flags
abbrev pub entries_under : Flags → List (Origin × Tree) → MapLeft
entries_under f es = record { entries = es; flags = f }

-- the first key, once handed out, is a unit
abbrev pub without_key : List (Origin × Tree) → List (Origin × Tree)
without_key [] = []
without_key (e ∷ es) = (of_tree unit, e.1) ∷ es

-- all but the first
abbrev pub without_entry : List (Origin × Tree) → List (Origin × Tree)
without_entry [] = []
without_entry (e ∷ es) = es

-- the entries that are left; a pair whose key was handed out has a unit there already
abbrev pub entries_view : Entries → (key_taken : Bool) → List (Origin × Tree)
entries_view (entries.Pairs q) key_taken = entries_of_pairs (pairs_view q.items)
entries_view (entries.Fields f) false = entries_of_fields f.place (fields_view f.left.items)
entries_view (entries.Fields f) true =
    without_key (entries_of_fields f.place (fields_view f.left.items))

-- they are the pairs of a map
abbrev pub ArePairs : Entries → Type 0
ArePairs (entries.Pairs q) = ⊤
ArePairs (entries.Fields f) = ⊥

-- what contracts see of a `Map`
abbrev pub map_view : Map → MapLeft
map_view m = entries_under (flags_of m.flags) (entries_view m.entries m.key_taken)

-- the first key
abbrev pub first_key : MapLeft → Option Subject
first_key m = elim m.entries [ [] ↦ None | e ∷ es ↦ Some (subject_under m.flags e.0) ]

-- the first value; at the end it is missing
abbrev pub first_value : MapLeft → Outcome Subject
first_value m = elim m.entries [
  | [] ↦ refused (custom (codes "[BUG] value is missing"))
  | e ∷ es ↦ taken (tree_under m.flags e.1)
]

-- the first entry
abbrev pub first_entry : MapLeft → Option (Subject × Subject)
first_entry m = elim m.entries [
  | [] ↦ None
  | e ∷ es ↦ Some (subject_under m.flags e.0, tree_under m.flags e.1)
]

-- with the first key handed out
abbrev pub after_key : MapLeft → MapLeft
after_key m = entries_under m.flags (without_key m.entries)

-- without the first entry
abbrev pub after_entry : MapLeft → MapLeft
after_entry m = entries_under m.flags (without_entry m.entries)

-- a map
abbrev pub map_at : Subject → Outcome MapLeft
map_at s = outcome_map (entries_under s.flags) (entries_from s.origin)

-- an object-like struct of this name
abbrev pub struct_at : (name : List ℕ) → Subject → Outcome MapLeft
struct_at name s = outcome_map (entries_under s.flags) (struct_from name s.origin)
