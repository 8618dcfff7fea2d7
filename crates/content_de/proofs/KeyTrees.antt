-- The entries of a map, each key as a tree.
use Rattle.std.proofs.Common.{◌≡◌, ℕ, suc, List, [], ◌∷◌, map, refl, ap}
use Rattle.content_tree.specs.Values.Value.{pair_tree, pairs_view, fields_view}
use Rattle.content_tree.specs.declared.cow.CowStr.{CowStr}
use Rattle.content_tree.specs.declared.value.NamedValue.{NamedValue}
use Rattle.content_de.specs.Requests.Compounds.{entries_of_pairs, entries_of_fields}
use Rattle.content_de.specs.Accesses.ByName.{key_tree, field_entry}

-- of pairs
pub pair_keys : (ps : List (NamedValue × NamedValue)) → map pair_tree ps ≡ map (λ e. (key_tree e.0, e.1)) (entries_of_pairs (pairs_view ps))
pair_keys [] = refl
pair_keys (p ∷ ps) = ap (λ es. pair_tree p ∷ es) (pair_keys ps)

-- of fields
pub field_keys : (place : ℕ) (fs : List (CowStr × NamedValue)) → map field_entry fs ≡ map (λ e. (key_tree e.0, e.1)) (entries_of_fields place (fields_view fs))
field_keys place [] = refl
field_keys place (f ∷ fs) = ap (λ es. field_entry f ∷ es) (field_keys (suc place) fs)
