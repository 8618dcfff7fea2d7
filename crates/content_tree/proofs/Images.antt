-- Lists of values, each as its image.
use Rattle.std.proofs.Common.{◌≡◌, ℕ, List, [], ◌∷◌, String, Global, string_bytes, map, refl, ap, rules}
use Rattle.content_tree.specs.Values.Text.{text_of}
use Rattle.content_tree.specs.Values.Value.{tree_of, trees_view, pairs_view, fields_view}
use Rattle.content_tree.specs.declared.cow.CowStr.{CowStr}
use Rattle.content_tree.specs.declared.found.Found as found
use Rattle.content_tree.specs.declared.number.Number.{Number}
use Rattle.content_tree.specs.declared.value.NamedValue as value
use Rattle.content_tree.specs.declared.value.NamedValue.{NamedValue}
use Rattle.content_tree.specs.Images.Image as image
use Rattle.content_tree.specs.Images.Image.{Image, Images, ImagePairs, ImageFields, image}
use Rattle.content_tree.specs.Images.Image.{image_each, image_pairs, image_fields}
use Rattle.content_tree.specs.Images.Found.{image_view, images_of, image_pairs_of, image_fields_of}

-- the image of a value
abbrev pub value_image : NamedValue → Image
value_image v = image (tree_of v)

-- the images of a pair
abbrev pub value_pair_image : NamedValue × NamedValue → Image × Image
value_pair_image p = (image (tree_of p.0), image (tree_of p.1))

-- the key and the image of a field
abbrev pub value_field_image : CowStr × NamedValue → List ℕ × Image
value_field_image f = ((text_of f.0).content, image (tree_of f.1))

-- the images of values
abbrev pub items_image : List NamedValue → Images
items_image vs = image_each (trees_view vs)

-- the images of pairs of values
abbrev pub pairs_image : List (NamedValue × NamedValue) → ImagePairs
pairs_image ps = image_pairs (pairs_view ps)

-- the keys and the images of fields of values
abbrev pub fields_image : List (CowStr × NamedValue) → ImageFields
fields_image fs = image_fields (fields_view fs)

-- the images of values, one by one
pub items_found : (vs : List NamedValue) → images_of (map value_image vs) ≡ image_each (trees_view vs)
items_found [] = refl
items_found (v ∷ vs) = ap (image.image_then (image (tree_of v))) (items_found vs)

-- the images of pairs, one by one
pub pairs_found : (ps : List (NamedValue × NamedValue)) → image_pairs_of (map value_pair_image ps) ≡ image_pairs (pairs_view ps)
pairs_found [] = refl
pairs_found (p ∷ ps) = ap (image.image_pair_then (image (tree_of p.0)) (image (tree_of p.1))) (pairs_found ps)

-- the images of fields, one by one
pub fields_found : (fs : List (CowStr × NamedValue)) → image_fields_of (map value_field_image fs) ≡ image_fields (fields_view fs)
fields_found [] = refl
fields_found (f ∷ fs) = ap (image.image_field_then (text_of f.0).content (image (tree_of f.1))) (fields_found fs)

-- the image of a number
pub number_found : (n : Number) → image_view (found.Number n) ≡ value_image (value.Number n)
number_found n = search (rules, value.the_lemmas, found.the_lemmas)

-- the image of a text
pub text_found : (t : CowStr) (s : String Global) → string_bytes s ≡ (text_of t).content → image_view (found.String s) ≡ value_image (value.String t)
text_found t s same = search (rules, value.the_lemmas, found.the_lemmas, same)
