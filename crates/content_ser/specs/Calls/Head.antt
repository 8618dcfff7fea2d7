-- The static names of a struct or a variant.
use Rattle.std.specs.Prelude.{ℕ, List}
use Rattle.content_tree.specs.Values.Text.{static_name}
use Rattle.content_tree.specs.Values.Tree as tree
use Rattle.content_tree.specs.Values.Tree.{Tree, TreeData}
use Rattle.content_ser.specs.declared.head.Head.{Head as Names}
use Rattle.content_ser.specs.declared.head.Head.TheVariants as names

-- the name of a struct, or the name of an enum with the index and the name of a variant
pub data Head : Type 0 where
  of_struct : List ℕ → Head
  of_variant : List ℕ → ℕ → List ℕ → Head

-- the tree under this head that holds this
abbrev pub headed : Head → TreeData → Tree
headed (of_struct n) p = tree.structure (static_name n) p
headed (of_variant n i v) p = tree.enumeration (static_name n) i (static_name v) p

-- what contracts see of a `Head`
abbrev pub head_of : Names → Head
head_of (names.Struct n) = of_struct n.now
head_of (names.Variant n i v) = of_variant n.now i v.now
