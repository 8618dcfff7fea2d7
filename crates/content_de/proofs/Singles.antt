-- A map of another number of entries than one is no variant.
use Rattle.std.proofs.Common.{◌≡◌, ◌≢◌, ℕ, List, [], ◌∷◌, length, refl}
use Rattle.content_tree.specs.Values.Tree.{map}
use Rattle.content_tree.specs.Values.Value.{pairs_view}
use Rattle.content_tree.specs.declared.value.NamedValue.{NamedValue}
use Rattle.content_de.specs.Outcomes.{misfit}
use Rattle.content_de.specs.Sources.Origin.{of_tree, Flags}
use Rattle.content_de.specs.Requests.Names.{an_enum}
use Rattle.content_de.specs.Accesses.Enum.{enum_from}

-- such a map is refused
pub not_single : (name : List ℕ) (f : Flags) (ps : List (NamedValue × NamedValue)) → length ps ≢ 1 → enum_from name f (of_tree (map (pairs_view ps))) ≡ misfit (of_tree (map (pairs_view ps))) (an_enum name)
not_single name f [] h = refl
not_single name f (p ∷ []) h = absurd (h refl)
not_single name f (p ∷ q ∷ ps) h = refl
