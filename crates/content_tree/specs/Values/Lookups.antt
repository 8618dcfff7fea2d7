-- What a tree contains, and the value of a key.
use Rattle.std.specs.Prelude.{ℕ, ℤ, List, Bool, false, Option, Some, None, if◌then◌else◌}
use Rattle.std.specs.Str.{bytes_eq}
use Rattle.content_tree.specs.Values.Tree.{Tree, boolean, number, character, text, octets, seq}
use Rattle.content_tree.specs.Values.Tree.{map, structure, enumeration, TreeData, named, Trees, Pairs}
use Rattle.content_tree.specs.Values.Tree.{no_pairs, pair_then, Fields, no_fields, field_then}
use Rattle.content_tree.specs.Values.Ranges.{NumberKind, in_range, number_value}
use Rattle.content_tree.specs.Orders.Trees.{same_tree}
use Rattle.content_tree.specs.declared.number.Number.{Number}

-- the boolean
abbrev pub boolean_in : Tree → Option Bool
boolean_in (boolean b) = Some b
boolean_in t = None

-- the number
abbrev pub number_in : Tree → Option Number
number_in (number n) = Some n
number_in t = None

-- the number's value, where it lies in the range of this kind
abbrev pub value_as : NumberKind → Number → Option ℤ
value_as k n = if in_range k (number_value n) then Some (number_value n) else None

-- the value of a number, where it lies in the range of this kind
abbrev pub value_in : NumberKind → Tree → Option ℤ
value_in k (number n) = value_as k n
value_in k t = None

-- the character
abbrev pub character_in : Tree → Option ℕ
character_in (character c) = Some c
character_in t = None

-- the text's content
abbrev pub text_in : Tree → Option (List ℕ)
text_in (text t) = Some t.content
text_in t = None

-- the bytes
abbrev pub bytes_in : Tree → Option (List ℕ)
bytes_in (octets t) = Some t.content
bytes_in t = None

-- the items of a sequence
abbrev pub items_in : Tree → Option Trees
items_in (seq ts) = Some ts
items_in t = None

-- the pairs of a map
abbrev pub pairs_in : Tree → Option Pairs
pairs_in (map ps) = Some ps
pairs_in t = None

-- the first of the two that is there
abbrev pub or_else : {A : Type 0} → Option A → Option A → Option A
or_else (Some a) o = Some a
or_else None o = o

-- the value of the last key that passes this test
abbrev pub last_value : (Tree → Bool) → Pairs → Option Tree
last_value test no_pairs = None
last_value test (pair_then k t ps) = or_else (last_value test ps) (if test k then Some t else None)

-- the value of the last field of this key
abbrev pub last_field : List ℕ → Fields → Option Tree
last_field key no_fields = None
last_field key (field_then k t fs) = or_else (last_field key fs) (if bytes_eq k.content key then Some t else None)

-- the tree is a text of this content
abbrev pub is_text : List ℕ → Tree → Bool
is_text key (text t) = bytes_eq t.content key
is_text key t = false

-- the value of a field of data
abbrev pub field_in : List ℕ → TreeData → Option Tree
field_in key (named fs) = last_field key fs
field_in key d = None

-- the value of this text as key, in a map, a struct or a variant with fields
abbrev pub lookup_text : List ℕ → Tree → Option Tree
lookup_text key (map ps) = last_value (is_text key) ps
lookup_text key (structure n d) = field_in key d
lookup_text key (enumeration n i v d) = field_in key d
lookup_text key t = None

-- the value of a key: in a map that of the last key that equals it, in a struct or a variant
-- with fields that of the last field of that name
abbrev pub lookup : Tree → Tree → Option Tree
lookup key (map ps) = last_value (λ k. same_tree k key) ps
lookup (text key) (structure n d) = field_in key.content d
lookup (text key) (enumeration n i v d) = field_in key.content d
lookup key t = None
