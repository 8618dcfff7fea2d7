-- The tree of each case of a value.
use Rattle.std.proofs.Common.{◌≡◌, ℕ, Bool, List, [], ◌∷◌, map, Option, Some, None, Vec, Box}
use Rattle.std.proofs.Common.{Global, refl, ap, rules}
use Rattle.content_tree.specs.Values.Text.{Text, text_of, bytes_of}
use Rattle.content_tree.specs.Values.Tree as tree
use Rattle.content_tree.specs.Values.Tree.{Tree}
use Rattle.content_tree.specs.Values.Value.{tree_of, tree_data_of, struct_tree, enum_tree}
use Rattle.content_tree.specs.Values.Value.{held_view, trees_view, pairs_view, fields_view}
use Rattle.content_tree.specs.Values.Value.{field_tree}
use Rattle.content_tree.specs.declared.cow.CowStr.{CowStr}
use Rattle.content_tree.specs.declared.cow.CowBytes.{CowBytes}
use Rattle.content_tree.specs.declared.number.Number.{Number}
use Rattle.content_tree.specs.declared.value.NamedValue as value
use Rattle.content_tree.specs.declared.value.NamedValue.{NamedValue, the_lemmas}
use Rattle.content_tree.specs.declared.value.NamedData as held
use Rattle.content_tree.specs.declared.value.NamedStruct.{NamedStruct, out-NamedStruct}
use Rattle.content_tree.specs.declared.value.NamedEnum.{NamedEnum, out-NamedEnum}

pub tree_of-Unit : tree_of value.Unit ≡ tree.unit
tree_of-Unit = search (rules, the_lemmas)

pub tree_of-Bool : (b : Bool) → tree_of (value.Bool b) ≡ tree.boolean b
tree_of-Bool b = search (rules, the_lemmas)

pub tree_of-Number : (n : Number) → tree_of (value.Number n) ≡ tree.number n
tree_of-Number n = search (rules, the_lemmas)

pub tree_of-Char : (c : ℕ) → tree_of (value.Char c) ≡ tree.character c
tree_of-Char c = search (rules, the_lemmas)

pub tree_of-String : (t : CowStr) → tree_of (value.String t) ≡ tree.text (text_of t)
tree_of-String t = search (rules, the_lemmas)

pub tree_of-Bytes : (t : CowBytes) → tree_of (value.Bytes t) ≡ tree.octets (bytes_of t)
tree_of-Bytes t = search (rules, the_lemmas)

pub tree_of-Seq : (v : Vec NamedValue Global) → tree_of (value.Seq v) ≡ tree.seq (trees_view v.items)
tree_of-Seq v = search (rules, the_lemmas)

pub tree_of-Tuple : (v : Vec NamedValue Global) → tree_of (value.Tuple v) ≡ tree.tuple (trees_view v.items)
tree_of-Tuple v = search (rules, the_lemmas)

pub tree_of-Map : (v : Vec (NamedValue × NamedValue) Global) → tree_of (value.Map v) ≡ tree.map (pairs_view v.items)
tree_of-Map v = search (rules, the_lemmas)

pub tree_of-None : tree_of (value.Option None) ≡ tree.absent
tree_of-None = search (rules, the_lemmas)

pub tree_of-Some : (b : Box NamedValue Global) → tree_of (value.Option (Some b)) ≡ tree.present (tree_of b.value)
tree_of-Some b = search (rules, the_lemmas)

pub tree_of-Option : (o : Option (Box NamedValue Global)) → tree_of (value.Option o) ≡ held_view o
tree_of-Option None = tree_of-None
tree_of-Option (Some b) = tree_of-Some b

pub tree_of-Struct : (b : Box NamedStruct Global) → tree_of (value.Struct b) ≡ struct_tree b.value
tree_of-Struct b = search (rules, the_lemmas)

pub tree_of-Enum : (b : Box NamedEnum Global) → tree_of (value.Enum b) ≡ enum_tree b.value
tree_of-Enum b = search (rules, the_lemmas)

pub tree_data_of-Unit : tree_data_of held.Unit ≡ tree.no_data
tree_data_of-Unit = search (rules, the_lemmas)

pub tree_data_of-Tuple : (v : Vec NamedValue Global) → tree_data_of (held.Tuple v) ≡ tree.many (trees_view v.items)
tree_data_of-Tuple v = search (rules, the_lemmas)

pub tree_data_of-NewType : (v : NamedValue) → tree_data_of (held.NewType v) ≡ tree.one (tree_of v)
tree_data_of-NewType v = search (rules, the_lemmas)

fused : (fs : List (CowStr × NamedValue)) →
    map {B = Text × Tree} (λ f. (text_of f.0, f.1)) (map {B = CowStr × Tree} (λ f. (f.0, tree_of f.1)) fs) ≡ map field_tree fs
fused [] = refl
fused (f ∷ fs) = ap (λ r. field_tree f ∷ r) (fused fs)

pub tree_data_of-Struct : (v : Vec (CowStr × NamedValue) Global) → tree_data_of (held.Struct v) ≡ tree.named (fields_view v.items)
tree_data_of-Struct v = search (rules, the_lemmas, fused)

pub struct_tree-is : (s : NamedStruct) → struct_tree s ≡ tree.structure (text_of (out-NamedStruct s).name) (tree_data_of (out-NamedStruct s).«data»)
struct_tree-is s = search (rules, the_lemmas)

pub enum_tree-is : (e : NamedEnum) → enum_tree e ≡ tree.enumeration (text_of (out-NamedEnum e).name) (out-NamedEnum e).variant_index (text_of (out-NamedEnum e).variant) (tree_data_of (out-NamedEnum e).«data»)
enum_tree-is e = search (rules, the_lemmas)
