-- The tree of a `Value`.
use Rattle.std.specs.Prelude.{List, [], ◌∷◌, map, Option, Some, None}
use Rattle.std.specs.declared.alloc.Global.{Global}
use Rattle.std.specs.declared.boxed.Box.{Box}
use Rattle.content_tree.specs.Values.Text.{Text, text_of, bytes_of}
use Rattle.content_tree.specs.Values.Tree as tree
use Rattle.content_tree.specs.Values.Tree.{Tree, TreeData, Trees, Pairs, Fields}
use Rattle.content_tree.specs.declared.cow.CowStr.{CowStr}
use Rattle.content_tree.specs.declared.value.NamedValue.{NamedValue, fold-NamedValue}
use Rattle.content_tree.specs.declared.value.NamedData.{NamedData, fold-NamedData}
use Rattle.content_tree.specs.declared.value.NamedStruct.{NamedStruct, fold-NamedStruct}
use Rattle.content_tree.specs.declared.value.NamedEnum.{NamedEnum, fold-NamedEnum}
use Rattle.content_tree.specs.declared.value.NamedData.TheOpen as open_
use Rattle.content_tree.specs.declared.value.NamedData.TheOpen.{NamedData-F, NamedValue-F}
use Rattle.content_tree.specs.declared.value.NamedData.TheOpen.{NamedEnum-F, NamedStruct-F}

-- trees, in order
abbrev pub trees_of : List Tree → Trees
trees_of [] = tree.no_trees
trees_of (t ∷ ts) = tree.tree_then t (trees_of ts)

-- pairs, in order
abbrev pub pairs_of : List (Tree × Tree) → Pairs
pairs_of [] = tree.no_pairs
pairs_of (p ∷ ps) = tree.pair_then p.0 p.1 (pairs_of ps)

-- fields, in order
abbrev pub fields_of : List (Text × Tree) → Fields
fields_of [] = tree.no_fields
fields_of (f ∷ fs) = tree.field_then f.0 f.1 (fields_of fs)

-- one level of what a struct or a variant holds, with what is inside seen already
abbrev pub tree_data_step : NamedData-F TreeData Tree Tree Tree → TreeData
tree_data_step open_.NamedData::Unit = tree.no_data
tree_data_step (open_.NewType t) = tree.one t
tree_data_step (open_.NamedData::Tuple v) = tree.many (trees_of v.items)
tree_data_step (open_.NamedData::Struct v) = tree.named (fields_of (map (λ f. (text_of f.0, f.1)) v.items))

-- one level of a value
abbrev pub tree_step : NamedValue-F TreeData Tree Tree Tree → Tree
tree_step open_.NamedValue::Unit = tree.unit
tree_step (open_.Bool b) = tree.boolean b
tree_step (open_.Number n) = tree.number n
tree_step (open_.Char c) = tree.character c
tree_step (open_.String s) = tree.text (text_of s)
tree_step (open_.Bytes s) = tree.octets (bytes_of s)
tree_step (open_.Seq v) = tree.seq (trees_of v.items)
tree_step (open_.Map v) = tree.map (pairs_of v.items)
tree_step (open_.Option None) = tree.absent
tree_step (open_.Option (Some b)) = tree.present b.value
tree_step (open_.NamedValue::Struct b) = b.value
tree_step (open_.Enum b) = b.value
tree_step (open_.NamedValue::Tuple v) = tree.tuple (trees_of v.items)

-- one level of a struct
abbrev pub struct_step : NamedStruct-F TreeData Tree Tree Tree → Tree
struct_step s = tree.structure (text_of s.name) s.«data»

-- one level of a variant
abbrev pub enum_step : NamedEnum-F TreeData Tree Tree Tree → Tree
enum_step e = tree.enumeration (text_of e.name) e.variant_index (text_of e.variant) e.«data»

-- the tree of a value
abbrev pub tree_of : NamedValue → Tree
tree_of = fold-NamedValue TreeData Tree Tree Tree tree_data_step tree_step enum_step struct_step

-- what a struct or a variant holds
abbrev pub tree_data_of : NamedData → TreeData
tree_data_of = fold-NamedData TreeData Tree Tree Tree tree_data_step tree_step enum_step struct_step

-- the tree of a struct
abbrev pub struct_tree : NamedStruct → Tree
struct_tree = fold-NamedStruct TreeData Tree Tree Tree tree_data_step tree_step enum_step struct_step

-- the tree of a variant
abbrev pub enum_tree : NamedEnum → Tree
enum_tree = fold-NamedEnum TreeData Tree Tree Tree tree_data_step tree_step enum_step struct_step

-- the trees of values
abbrev pub trees_view : List NamedValue → Trees
trees_view vs = trees_of (map tree_of vs)

-- the trees of a pair
abbrev pub pair_tree : NamedValue × NamedValue → Tree × Tree
pair_tree p = (tree_of p.0, tree_of p.1)

-- the key and the tree of a field
abbrev pub field_tree : CowStr × NamedValue → Text × Tree
field_tree f = (text_of f.0, tree_of f.1)

-- the tree of an optional value
abbrev pub held_view : Option (Box NamedValue Global) → Tree
held_view None = tree.absent
held_view (Some b) = tree.present (tree_of b.value)

-- the pairs of a map
abbrev pub pairs_view : List (NamedValue × NamedValue) → Pairs
pairs_view ps = pairs_of (map pair_tree ps)

-- the fields of a struct or a variant
abbrev pub fields_view : List (CowStr × NamedValue) → Fields
fields_view fs = fields_of (map field_tree fs)
