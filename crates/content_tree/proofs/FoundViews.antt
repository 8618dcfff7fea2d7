-- The fields that were found, as members.
use Rattle.std.proofs.Common.{◌≡◌, ℕ, List, [], ◌∷◌, map, Vec, Global, String, refl, ap, rules}
use Rattle.std.proofs.Common.{string_bytes}
use Rattle.content_tree.specs.Images.Image as image
use Rattle.content_tree.specs.Images.Image.{Image}
use Rattle.content_tree.specs.Images.Found.{image_view, image_data_view, image_fields_view}
use Rattle.content_tree.specs.Images.Found.{field_image}
use Rattle.content_tree.specs.declared.found.Found.{Found, the_lemmas}
use Rattle.content_tree.specs.declared.found.FoundData as held

-- two passes over the fields are one
fused : (ms : List (String Global × Found)) →
    map {B = List ℕ × Image} (λ m. (string_bytes m.0, m.1)) (map {B = String Global × Image} (λ m. (m.0, image_view m.1)) ms)
    ≡ map field_image ms
fused [] = refl
fused (m ∷ ms) = ap (λ r. field_image m ∷ r) (fused ms)

-- what an object-like struct or variant was found to hold
pub image_data_view-Struct : (v : Vec (String Global × Found) Global) → image_data_view (held.Struct v) ≡ image.named (image_fields_view v.items)
image_data_view-Struct v = search (rules, the_lemmas, fused)
