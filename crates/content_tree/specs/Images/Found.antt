-- The image of a `Found`.
use Rattle.std.specs.Prelude.{ℕ, List, [], ◌∷◌, map, Option, Some, None, string_bytes}
use Rattle.std.specs.declared.alloc.Global.{Global}
use Rattle.std.specs.declared.boxed.Box.{Box}
use Rattle.std.specs.declared.string.String.{String}
use Rattle.content_tree.specs.Images.Image as image
use Rattle.content_tree.specs.Images.Image.{Image, ImageData, Images, ImagePairs, ImageFields}
use Rattle.content_tree.specs.declared.found.Found.{Found, fold-Found}
use Rattle.content_tree.specs.declared.found.FoundData.{FoundData, fold-FoundData}
use Rattle.content_tree.specs.declared.found.Found.TheOpen as open_
use Rattle.content_tree.specs.declared.found.Found.TheOpen.{Found-F, FoundData-F}

-- images, in order
abbrev pub images_of : List Image → Images
images_of [] = image.no_images
images_of (i ∷ is) = image.image_then i (images_of is)

-- pairs of images, in order
abbrev pub image_pairs_of : List (Image × Image) → ImagePairs
image_pairs_of [] = image.no_image_pairs
image_pairs_of (p ∷ ps) = image.image_pair_then p.0 p.1 (image_pairs_of ps)

-- keys with images, in order
abbrev pub image_fields_of : List (List ℕ × Image) → ImageFields
image_fields_of [] = image.no_image_fields
image_fields_of (m ∷ ms) = image.image_field_then m.0 m.1 (image_fields_of ms)

-- one level of a `Found`, with what is inside seen already
abbrev pub image_step : Found-F Image ImageData → Image
image_step open_.Found::Unit = image.unit
image_step (open_.Bool b) = image.boolean b
image_step (open_.Number n) = image.number n
image_step (open_.Char c) = image.character c
image_step (open_.String s) = image.text (string_bytes s)
image_step (open_.Bytes v) = image.octets v.items
image_step (open_.Seq v) = image.seq (images_of v.items)
image_step (open_.Map v) = image.map (image_pairs_of v.items)
image_step (open_.Option None) = image.absent
image_step (open_.Option (Some b)) = image.present b.value
image_step (open_.Found::Struct n b) = image.structure (string_bytes n) b.value
image_step (open_.Enum n v b) = image.enumeration (string_bytes n) (string_bytes v) b.value
image_step (open_.Found::Tuple v) = image.tuple (images_of v.items)
image_step (open_.Identifier s) = image.identifier (string_bytes s)

-- one level of a `FoundData`
abbrev pub image_data_step : FoundData-F Image ImageData → ImageData
image_data_step open_.FoundData::Unit = image.no_data
image_data_step (open_.NewType i) = image.one i
image_data_step (open_.FoundData::Tuple v) = image.many (images_of v.items)
image_data_step (open_.FoundData::Struct v) = image.named (image_fields_of (map (λ f. (string_bytes f.0, f.1)) v.items))

-- the image of a `Found`
abbrev pub image_view : Found → Image
image_view = fold-Found Image ImageData image_step image_data_step

-- the content of a `FoundData`
abbrev pub image_data_view : FoundData → ImageData
image_data_view = fold-FoundData Image ImageData image_step image_data_step

-- the images of several
abbrev pub images_view : List Found → Images
images_view fs = images_of (map image_view fs)

-- the images of a pair
abbrev pub pair_image : Found × Found → Image × Image
pair_image p = (image_view p.0, image_view p.1)

-- the images of pairs
abbrev pub image_pairs_view : List (Found × Found) → ImagePairs
image_pairs_view ps = image_pairs_of (map pair_image ps)

-- the key and the image of a field
abbrev pub field_image : String Global × Found → List ℕ × Image
field_image m = (string_bytes m.0, image_view m.1)

-- the keys and the images of fields
abbrev pub image_fields_view : List (String Global × Found) → ImageFields
image_fields_view ms = image_fields_of (map field_image ms)

-- the image of an optional one
abbrev pub held_image : Option (Box Found Global) → Image
held_image None = image.absent
held_image (Some b) = image.present (image_view b.value)
