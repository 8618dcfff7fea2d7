-- What a value gives when it is taken apart.
use Rattle.std.specs.Prelude.{◌≡◌, Option, Some, None, MatchResult}
use Rattle.std.specs.declared.result.Result.{Result}
use Rattle.content_tree.specs.Values.Text.{Text}
use Rattle.content_tree.specs.Values.Tree.{Tree, text, octets, seq, map, absent, present, structure}
use Rattle.content_tree.specs.Values.Tree.{enumeration, tuple, TreeData, many, named, Trees, no_trees}
use Rattle.content_tree.specs.Values.Tree.{Pairs, no_pairs, Fields, no_fields}
use Rattle.content_tree.specs.declared.value.NamedValue.{NamedValue}

-- the part, or the value itself where it has none
abbrev pub GivesPart : {A B : Type 0} → (A → B) → Option B → NamedValue → Result A NamedValue → Type 0
GivesPart view part value given = MatchResult given (λ own. part ≡ Some (view own)) (λ back. (part ≡ None) × (back ≡ value))

-- the text
abbrev pub whole_text : Tree → Option Text
whole_text (text t) = Some t
whole_text t = None

-- the bytes
abbrev pub whole_bytes : Tree → Option Text
whole_bytes (octets t) = Some t
whole_bytes t = None

-- an optional value, as it is
abbrev pub optional : Tree → Option Tree
optional absent = Some absent
optional (present t) = Some (present t)
optional t = None

-- the items of what a struct or a variant holds by place
abbrev pub items_inside : TreeData → Trees
items_inside (many ts) = ts
items_inside d = no_trees

-- the items of a sequence, a tuple, or a struct or a variant of items; else none
abbrev pub items_of : Tree → Trees
items_of (seq ts) = ts
items_of (tuple ts) = ts
items_of (structure n d) = items_inside d
items_of (enumeration n i v d) = items_inside d
items_of t = no_trees

-- the entries of a map; else none
abbrev pub entries_of : Tree → Pairs
entries_of (map ps) = ps
entries_of t = no_pairs

-- the fields of what a struct or a variant holds
abbrev pub fields_inside : TreeData → Fields
fields_inside (named fs) = fs
fields_inside d = no_fields

-- the fields of a struct or a variant; else none
abbrev pub fields_in : Tree → Fields
fields_in (structure n d) = fields_inside d
fields_in (enumeration n i v d) = fields_inside d
fields_in t = no_fields
