-- What is left to be taken by name.
use Rattle.std.specs.Prelude.{ℕ, List, [], ◌∷◌, ◌++◌, map, Option, Some, None, option_map}
use Rattle.std.specs.Prelude.{◌≡◌, Bool, true, ⊤}
use Rattle.std.specs.Map.{lookup, remove_entry}
use Rattle.content_tree.specs.Values.Text.{text_of}
use Rattle.content_tree.specs.Values.Tree.{Tree, text, unit}
use Rattle.content_tree.specs.Values.Tree as tree
use Rattle.content_tree.specs.Values.Value.{tree_of, pair_tree, pairs_of}
use Rattle.content_tree.specs.Values.Lookups.{is_text}
use Rattle.content_tree.specs.declared.cow.CowStr.{CowStr}
use Rattle.content_tree.specs.declared.value.NamedValue.{NamedValue}
use Rattle.content_de.specs.Sources.Origin.{Origin, of_tree, of_identifier, Flags, Subject}
use Rattle.content_de.specs.Sources.Origin.{tree_under, buffering, in_buffer}
use Rattle.content_de.specs.Sources.Deserializer.{flags_of}
use Rattle.content_de.specs.Accesses.Map.{MapLeft}
use Rattle.content_de.specs.declared.by_name.Left.{Left}
use Rattle.content_de.specs.declared.by_name.Left.TheVariants as left
use Rattle.content_de.specs.declared.by_name.FieldsByName.{FieldsByName}

-- the entries that are left, each a key and a value, with the flags
pub record FieldsLeft : Type 0 where
  pub entries : List (Tree × Tree)
  pub flags : Flags

-- a key as a tree: a field's name is a text
abbrev pub key_tree : Origin → Tree
key_tree (of_tree t) = t
key_tree (of_identifier n i) = text n

-- the entries of a map, each key as a tree
abbrev pub by_name : MapLeft → FieldsLeft
by_name m = record { entries = map (λ e. (key_tree e.0, e.1)) m.entries; flags = m.flags }

-- the value of the first entry whose key is this text
abbrev pub field_named : List ℕ → FieldsLeft → Option Subject
field_named name f = option_map (tree_under f.flags) (lookup (is_text name) f.entries)

-- the other entries, in order
abbrev pub without_field : List ℕ → FieldsLeft → FieldsLeft
without_field name f = record { entries = remove_entry (is_text name) f.entries; flags = f.flags }

-- the same entries, read out of a buffer
abbrev pub buffered_fields : FieldsLeft → FieldsLeft
buffered_fields f = record { entries = f.entries; flags = buffering f.flags }

-- the key of the first entry passes the test
abbrev pub PassesFirst : {K X : Type 0} → (K → Bool) → List (K × X) → Type 0
PassesFirst test [] = ⊥
PassesFirst test (e ∷ es) = test e.0 ≡ true

-- a field as an entry
abbrev pub field_entry : CowStr × NamedValue → Tree × Tree
field_entry f = (text (text_of f.0), tree_of f.1)

-- the value whose key was handed out: its key is a unit
abbrev pub keyless_entry : Option NamedValue → List (Tree × Tree)
keyless_entry None = []
keyless_entry (Some v) = (unit, tree_of v) ∷ []

-- pairs or fields as entries
abbrev pub entries_of : Left → List (Tree × Tree)
entries_of (left.Pairs q) = map pair_tree q.items
entries_of (left.Fields q) = map field_entry q.items

-- what contracts see of a `FieldsByName`
abbrev pub fields_left : FieldsByName → FieldsLeft
fields_left f = record { entries = keyless_entry f.keyless ++ entries_of f.left; flags = flags_of f.flags }

-- they are the pairs of a map
abbrev pub HoldsPairs : Left → Type 0
HoldsPairs (left.Pairs q) = ⊤
HoldsPairs (left.Fields q) = ⊥

-- and none is left without its key
abbrev pub ArePairsLeft : FieldsByName → Type 0
ArePairsLeft f = (f.keyless ≡ None) × HoldsPairs f.left

-- the entries that are left as a map
abbrev pub rest_of : FieldsLeft → Subject
rest_of f = tree_under f.flags (tree.map (pairs_of f.entries))

-- the same, read out of a buffer
abbrev pub left_over : FieldsLeft → Subject
left_over f = in_buffer (rest_of f)
