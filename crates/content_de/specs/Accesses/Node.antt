-- What any source is, whatever is expected.
use Rattle.std.specs.Prelude.{ℕ, Bool}
use Rattle.content_tree.specs.Values.Text.{Text, text_of, bytes_of}
use Rattle.content_tree.specs.Values.Tree as tree
use Rattle.content_tree.specs.Values.Tree.{Tree, TreeData}
use Rattle.content_tree.specs.declared.number.Number.{Number}
use Rattle.content_de.specs.Sources.Origin.{of_tree, of_identifier, Flags, Subject, tree_under}
use Rattle.content_de.specs.Sources.Deserializer.{subject}
use Rattle.content_de.specs.Requests.Compounds.{entries_of_pairs, entries_of_fields}
use Rattle.content_de.specs.Accesses.Seq.{SeqLeft, items_under, seq_view}
use Rattle.content_de.specs.Accesses.Map.{MapLeft, entries_under, map_view}
use Rattle.content_de.specs.Accesses.Enum.{EnumLeft, enum_with, a_node, enum_view}
use Rattle.content_de.specs.declared.node.Node.{Node}
use Rattle.content_de.specs.declared.node.Node.TheVariants as node

-- a datum, or its parts
pub data Shape : Type 0 where
  unit : Shape
  boolean : Bool → Shape
  number : Number → Shape
  character : ℕ → Shape
  text : Text → Shape
  octets : Text → Shape
  absent : Shape
  present : Subject → Shape
  newtype : Subject → Shape
  seq : SeqLeft → Shape
  map : MapLeft → Shape
  variant : EnumLeft → Shape

-- what contracts see of a `Node`
abbrev pub shape_of : Node → Shape
shape_of node.Unit = unit
shape_of (node.Bool b) = boolean b
shape_of (node.Number n) = number n
shape_of (node.Char c) = character c
shape_of (node.Str t) = text (text_of t)
shape_of (node.Bytes t) = octets (bytes_of t)
shape_of node.NoneNode = absent
shape_of (node.SomeNode d) = present (subject d)
shape_of (node.Newtype d) = newtype (subject d)
shape_of (node.Seq s) = seq (seq_view s)
shape_of (node.Map m) = map (map_view m)
shape_of (node.Enum e) = variant (enum_view e)

-- a struct by what it holds
abbrev pub data_shape : Flags → TreeData → Shape
data_shape f tree.no_data = unit
data_shape f (tree.one t) = newtype (tree_under f t)
data_shape f (tree.many ts) = seq (items_under f ts)
data_shape f (tree.named fs) = map (entries_under f (entries_of_fields 0 fs))

-- a tree: a tuple is a sequence, a struct is what it holds, and a variant is one of its own enum
abbrev pub tree_shape : Flags → Tree → Shape
tree_shape f tree.unit = unit
tree_shape f (tree.boolean b) = boolean b
tree_shape f (tree.number n) = number n
tree_shape f (tree.character c) = character c
tree_shape f (tree.text t) = text t
tree_shape f (tree.octets t) = octets t
tree_shape f (tree.seq ts) = seq (items_under f ts)
tree_shape f (tree.map ps) = map (entries_under f (entries_of_pairs ps))
tree_shape f tree.absent = absent
tree_shape f (tree.present t) = present (tree_under f t)
tree_shape f (tree.structure n d) = data_shape f d
tree_shape f (tree.enumeration n i v d) =
    variant (enum_with n.content f (of_identifier v i) (a_node (tree.enumeration n i v d)))
tree_shape f (tree.tuple ts) = seq (items_under f ts)

-- a tree by its case, an identifier as the text of its name
abbrev pub shape_at : Subject → Shape
shape_at s = elim s.origin [ of_tree t ↦ tree_shape s.flags t | of_identifier n i ↦ text n ]
