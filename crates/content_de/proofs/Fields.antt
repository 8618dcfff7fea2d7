-- The fields of a struct or a variant, as they are seen one by one.
use Rattle.std.proofs.Common.{◌≡◌, List, [], ◌∷◌, map, refl, ap}
use Rattle.content_tree.specs.Values.Text.{Text, text_of}
use Rattle.content_tree.specs.Values.Tree.{Tree}
use Rattle.content_tree.specs.Values.Value.{tree_of, field_tree}
use Rattle.content_tree.specs.declared.cow.CowStr.{CowStr}
use Rattle.content_tree.specs.declared.value.NamedValue.{NamedValue}

-- first the trees and then the keys, or both at once
pub fields_fused : (fs : List (CowStr × NamedValue)) →
    map {B = Text × Tree} (λ f. (text_of f.0, f.1)) (map {B = CowStr × Tree} (λ f. (f.0, tree_of f.1)) fs) ≡ map field_tree fs
fields_fused [] = refl
fields_fused (f ∷ fs) = ap (λ r. field_tree f ∷ r) (fields_fused fs)
