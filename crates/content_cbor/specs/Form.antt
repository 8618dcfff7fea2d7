-- What of a tree its data item keeps.
use Rattle.std.specs.Prelude.{◌≡◌, ℕ, suc, ◌^◌, ◌<◌, ◌≤◌, pos, Bool, true, List, length, encode_utf8, max}
use Rattle.std.specs.Str.{IsUtf8}
use Rattle.content_tree.specs.Values.Text.{static_name}
use Rattle.content_tree.specs.Values.Tree as tree
use Rattle.content_tree.specs.Values.Tree.{Tree, TreeData, Trees, Pairs, Fields, count}
use Rattle.content_tree.specs.Values.Ranges.{number_value, in_range}
use Rattle.content_tree.specs.Values.Ranges as kind
use Rattle.content_tree.specs.declared.number.Number.{Number}
use Rattle.content_tree.specs.declared.number.Number.TheVariants as n
use Rattle.content_ser.specs.Sending.TreeScript.{count_pairs, count_fields}
use Rattle.content_cbor.specs.Codes.{Codes, number_of}

-- a text that is borrowed
abbrev pub text_form : List ℕ → Tree
text_form content = tree.text (static_name content)

-- a map of one pair
abbrev pub entry_form : List ℕ → Tree → Tree
entry_form name t = tree.map (tree.pair_then (text_form name) t tree.no_pairs)

abbrev mutual
  -- numbers by value, texts borrowed, no name but those of fields and variants
  pub form : Tree → Tree
  form tree.unit = tree.absent
  form (tree.boolean b) = tree.boolean b
  form (tree.number n) = tree.number (number_of (number_value n))
  form (tree.character c) = text_form (encode_utf8 c)
  form (tree.text t) = text_form t.content
  form (tree.octets t) = tree.octets (static_name t.content)
  form (tree.seq ts) = tree.seq (each_form ts)
  form (tree.map ps) = tree.map (pair_forms ps)
  form tree.absent = tree.absent
  form (tree.present t) = form t
  form (tree.structure n d) = data_form d
  form (tree.enumeration n i v d) = variant_form v.content d
  form (tree.tuple ts) = tree.seq (each_form ts)

  -- of what a struct holds
  pub data_form : TreeData → Tree
  data_form tree.no_data = tree.absent
  data_form (tree.one t) = form t
  data_form (tree.many ts) = tree.seq (each_form ts)
  data_form (tree.named fs) = tree.map (field_forms fs)

  -- of a variant of this name
  pub variant_form : List ℕ → TreeData → Tree
  variant_form v tree.no_data = text_form v
  variant_form v (tree.one t) = entry_form v (form t)
  variant_form v (tree.many ts) = entry_form v (tree.seq (each_form ts))
  variant_form v (tree.named fs) = entry_form v (tree.map (field_forms fs))

  -- one by one
  pub each_form : Trees → Trees
  each_form tree.no_trees = tree.no_trees
  each_form (tree.tree_then t ts) = tree.tree_then (form t) (each_form ts)

  -- of each pair, key and value
  pub pair_forms : Pairs → Pairs
  pair_forms tree.no_pairs = tree.no_pairs
  pair_forms (tree.pair_then k t ps) = tree.pair_then (form k) (form t) (pair_forms ps)

  -- of each field, the key as a text
  pub field_forms : Fields → Pairs
  field_forms tree.no_fields = tree.no_pairs
  field_forms (tree.field_then k t fs) = tree.pair_then (text_form k.content) (form t) (field_forms fs)

abbrev mutual
  -- how deep items stand in one another in a form; its own depth is 1
  pub depth : Tree → ℕ
  depth (tree.seq ts) = suc (each_depth ts)
  depth (tree.map ps) = suc (pair_depths ps)
  depth t = 1

  -- the greatest, or 0
  pub each_depth : Trees → ℕ
  each_depth tree.no_trees = 0
  each_depth (tree.tree_then t ts) = max (depth t) (each_depth ts)

  -- the greatest of keys and values, or 0
  pub pair_depths : Pairs → ℕ
  pair_depths tree.no_pairs = 0
  pair_depths (tree.pair_then k t ps) = max (max (depth k) (depth t)) (pair_depths ps)

-- the bytes code the tree's form, within each limit that it keeps
abbrev pub CodesForm : Tree → List ℕ → Type 0
CodesForm t bs = (limit : ℕ) → depth (form t) ≤ limit → Codes limit (form t) bs

-- a length that a head can say
abbrev pub IsLength : ℕ → Type 0
IsLength n = n < 2 ^ 64

-- a text
abbrev pub IsText : List ℕ → Type 0
IsText content = IsUtf8 content × IsLength (length content)

-- a number that lies in the range of its kind
abbrev pub in_own_range : Number → Bool
in_own_range (n.I8 x) = in_range kind.i8 x
in_own_range (n.U8 x) = in_range kind.u8 (pos x)
in_own_range (n.I16 x) = in_range kind.i16 x
in_own_range (n.U16 x) = in_range kind.u16 (pos x)
in_own_range (n.I32 x) = in_range kind.i32 x
in_own_range (n.U32 x) = in_range kind.u32 (pos x)
in_own_range (n.I64 x) = in_range kind.i64 x
in_own_range (n.U64 x) = in_range kind.u64 (pos x)
in_own_range (n.I128 x) = in_range kind.i128 x
in_own_range (n.U128 x) = in_range kind.u128 (pos x)

abbrev mutual
  -- what the tree of any value is: texts are UTF-8, lengths have room, and numbers are in their kinds' ranges
  pub Fits : Tree → Type 0
  Fits tree.unit = Unit {0}
  Fits (tree.boolean b) = Unit {0}
  Fits (tree.number n) = in_own_range n ≡ true
  Fits (tree.character c) = IsText (encode_utf8 c)
  Fits (tree.text t) = IsText t.content
  Fits (tree.octets t) = IsLength (length t.content)
  Fits (tree.seq ts) = IsLength (count ts) × EachFits ts
  Fits (tree.map ps) = IsLength (count_pairs ps) × PairsFit ps
  Fits tree.absent = Unit {0}
  Fits (tree.present t) = Fits t
  Fits (tree.structure n d) = DataFits d
  Fits (tree.enumeration n i v d) = IsText v.content × DataFits d
  Fits (tree.tuple ts) = IsLength (count ts) × EachFits ts

  -- the same of what a struct or a variant holds
  pub DataFits : TreeData → Type 0
  DataFits tree.no_data = Unit {0}
  DataFits (tree.one t) = Fits t
  DataFits (tree.many ts) = IsLength (count ts) × EachFits ts
  DataFits (tree.named fs) = IsLength (count_fields fs) × FieldsFit fs

  -- of each tree
  pub EachFits : Trees → Type 0
  EachFits tree.no_trees = Unit {0}
  EachFits (tree.tree_then t ts) = Fits t × EachFits ts

  -- of each key and value
  pub PairsFit : Pairs → Type 0
  PairsFit tree.no_pairs = Unit {0}
  PairsFit (tree.pair_then k t ps) = Fits k × Fits t × PairsFit ps

  -- of each field, and its key is a text
  pub FieldsFit : Fields → Type 0
  FieldsFit tree.no_fields = Unit {0}
  FieldsFit (tree.field_then k t fs) = IsText k.content × Fits t × FieldsFit fs
