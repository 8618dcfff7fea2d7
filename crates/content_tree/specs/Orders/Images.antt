-- The order of images: cases first, as they are listed, then contents from left to right.
use Rattle.std.specs.Prelude.{ℕ, Bool, List, string_bytes}
use Rattle.std.specs.Ordering.{nat_cmp, bool_cmp, ordering_then, eq_by_cmp}
use Rattle.std.specs.Cmp.Lexicographic.{slice_cmp}
use Rattle.std.specs.declared.alloc.Global.{Global}
use Rattle.std.specs.declared.string.String.{String}
use Rattle.std.specs.declared.cmp.Ordering.{Ordering}
use Rattle.std.specs.declared.cmp.Ordering.TheVariants.{Less, Equal, Greater}
use Rattle.content_tree.specs.Orders.Trees.{number_cmp}
use Rattle.content_tree.specs.Images.Image.{Image, unit, boolean, number, character, text, octets}
use Rattle.content_tree.specs.Images.Image.{seq, map, absent, present, structure, enumeration}
use Rattle.content_tree.specs.Images.Image.{tuple, identifier, ImageData, no_data, one, many, named}
use Rattle.content_tree.specs.Images.Image.{Images, no_images, image_then, ImagePairs}
use Rattle.content_tree.specs.Images.Image.{no_image_pairs, image_pair_then, ImageFields}
use Rattle.content_tree.specs.Images.Image.{no_image_fields, image_field_then}

-- texts and bytes go byte by byte, a proper beginning first
abbrev pub bytes_cmp : List ℕ → List ℕ → Ordering
bytes_cmp = slice_cmp nat_cmp

-- strings go by their bytes
abbrev pub string_cmp : String Global → String Global → Ordering
string_cmp a b = bytes_cmp (string_bytes a) (string_bytes b)

-- the place of an image's case among the thirteen
abbrev pub image_rank : Image → ℕ
image_rank unit = 0
image_rank (boolean b) = 1
image_rank (number n) = 2
image_rank (character c) = 3
image_rank (text t) = 4
image_rank (octets t) = 5
image_rank (seq is) = 6
image_rank (map es) = 7
image_rank absent = 8
image_rank (present i) = 8
image_rank (structure n c) = 9
image_rank (enumeration n v c) = 10
image_rank (tuple is) = 11
image_rank (identifier t) = 12

-- the place of a content's case among the four
abbrev pub image_data_rank : ImageData → ℕ
image_data_rank no_data = 0
image_data_rank (one i) = 1
image_data_rank (many is) = 2
image_data_rank (named ms) = 3

-- images; a struct goes by name, then content, a variant by name, variant, then content
abbrev mutual
  pub image_cmp : Image → Image → Ordering
  image_cmp unit unit = Equal
  image_cmp (boolean a) (boolean b) = bool_cmp a b
  image_cmp (number a) (number b) = number_cmp a b
  image_cmp (character a) (character b) = nat_cmp a b
  image_cmp (text a) (text b) = bytes_cmp a b
  image_cmp (octets a) (octets b) = bytes_cmp a b
  image_cmp (seq a) (seq b) = images_cmp a b
  image_cmp (map a) (map b) = image_pairs_cmp a b
  image_cmp absent absent = Equal
  image_cmp absent (present b) = Less
  image_cmp (present a) absent = Greater
  image_cmp (present a) (present b) = image_cmp a b
  image_cmp (structure n c) (structure m d) = ordering_then (bytes_cmp n m) (image_data_cmp c d)
  image_cmp (enumeration n v c) (enumeration m w d) =
      ordering_then (bytes_cmp n m) (ordering_then (bytes_cmp v w) (image_data_cmp c d))
  image_cmp (tuple a) (tuple b) = images_cmp a b
  image_cmp (identifier a) (identifier b) = bytes_cmp a b
  image_cmp a b = nat_cmp (image_rank a) (image_rank b)

  -- what is held: by its case, and then from left to right
  pub image_data_cmp : ImageData → ImageData → Ordering
  image_data_cmp no_data no_data = Equal
  image_data_cmp (one a) (one b) = image_cmp a b
  image_data_cmp (many a) (many b) = images_cmp a b
  image_data_cmp (named a) (named b) = image_fields_cmp a b
  image_data_cmp a b = nat_cmp (image_data_rank a) (image_data_rank b)

  -- item by item, a proper beginning first
  pub images_cmp : Images → Images → Ordering
  images_cmp no_images no_images = Equal
  images_cmp no_images (image_then j js) = Less
  images_cmp (image_then i is) no_images = Greater
  images_cmp (image_then i is) (image_then j js) = ordering_then (image_cmp i j) (images_cmp is js)

  -- pairs: key and then value
  pub image_pairs_cmp : ImagePairs → ImagePairs → Ordering
  image_pairs_cmp no_image_pairs no_image_pairs = Equal
  image_pairs_cmp no_image_pairs (image_pair_then l j fs) = Less
  image_pairs_cmp (image_pair_then k i es) no_image_pairs = Greater
  image_pairs_cmp (image_pair_then k i es) (image_pair_then l j fs) =
      ordering_then (image_cmp k l) (ordering_then (image_cmp i j) (image_pairs_cmp es fs))

  -- fields: key and then value
  pub image_fields_cmp : ImageFields → ImageFields → Ordering
  image_fields_cmp no_image_fields no_image_fields = Equal
  image_fields_cmp no_image_fields (image_field_then l j ns) = Less
  image_fields_cmp (image_field_then k i ms) no_image_fields = Greater
  image_fields_cmp (image_field_then k i ms) (image_field_then l j ns) =
      ordering_then (bytes_cmp k l) (ordering_then (image_cmp i j) (image_fields_cmp ms ns))

-- two images are the same if the order finds neither less
abbrev pub same_image : Image → Image → Bool
same_image = eq_by_cmp image_cmp

-- two contents are the same if the order finds neither less
abbrev pub same_image_data : ImageData → ImageData → Bool
same_image_data = eq_by_cmp image_data_cmp
