-- Images: what contracts see of a `Found`, and the image of a tree.
use Rattle.std.specs.Prelude.{ℕ, Bool, List}
use Rattle.content_tree.specs.Values.Tree as tree
use Rattle.content_tree.specs.Values.Tree.{Tree, TreeData, Trees, Pairs, Fields}
use Rattle.content_tree.specs.declared.number.Number.{Number}

mutual
  -- an image: a value with no case, no static mark and no variant index
  pub data Image : Type 0 where
    unit : Image
    boolean : Bool → Image
    number : Number → Image
    character : ℕ → Image
    text : List ℕ → Image
    octets : List ℕ → Image
    seq : Images → Image
    map : ImagePairs → Image
    absent : Image
    present : Image → Image
    structure : List ℕ → ImageData → Image
    enumeration : List ℕ → List ℕ → ImageData → Image
    tuple : Images → Image
    identifier : List ℕ → Image

  -- what a struct or a variant holds
  pub data ImageData : Type 0 where
    no_data : ImageData
    one : Image → ImageData
    many : Images → ImageData
    named : ImageFields → ImageData

  -- images, in order
  pub data Images : Type 0 where
    no_images : Images
    image_then : Image → Images → Images

  -- pairs of images, in order
  pub data ImagePairs : Type 0 where
    no_image_pairs : ImagePairs
    image_pair_then : Image → Image → ImagePairs → ImagePairs

  -- keys with images, in order
  pub data ImageFields : Type 0 where
    no_image_fields : ImageFields
    image_field_then : List ℕ → Image → ImageFields → ImageFields

-- the image of a tree: the same shape, with no marks and no variant index
abbrev mutual
  pub image : Tree → Image
  image tree.unit = unit
  image (tree.boolean b) = boolean b
  image (tree.number n) = number n
  image (tree.character c) = character c
  image (tree.text t) = text t.content
  image (tree.octets t) = octets t.content
  image (tree.seq ts) = seq (image_each ts)
  image (tree.map ps) = map (image_pairs ps)
  image tree.absent = absent
  image (tree.present t) = present (image t)
  image (tree.structure n p) = structure n.content (image_data p)
  image (tree.enumeration n i v p) = enumeration n.content v.content (image_data p)
  image (tree.tuple ts) = tuple (image_each ts)

  -- in what a struct or a variant holds
  pub image_data : TreeData → ImageData
  image_data tree.no_data = no_data
  image_data (tree.one t) = one (image t)
  image_data (tree.many ts) = many (image_each ts)
  image_data (tree.named fs) = named (image_fields fs)

  -- one by one
  pub image_each : Trees → Images
  image_each tree.no_trees = no_images
  image_each (tree.tree_then t ts) = image_then (image t) (image_each ts)

  -- of each pair, key and then value
  pub image_pairs : Pairs → ImagePairs
  image_pairs tree.no_pairs = no_image_pairs
  image_pairs (tree.pair_then k t ps) = image_pair_then (image k) (image t) (image_pairs ps)

  -- of each field, key and then value
  pub image_fields : Fields → ImageFields
  image_fields tree.no_fields = no_image_fields
  image_fields (tree.field_then k t fs) = image_field_then k.content (image t) (image_fields fs)
