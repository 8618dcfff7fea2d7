-- How many items and entries are left.
use Rattle.std.proofs.Common.{◌≡◌, ℕ, List, [], ◌∷◌, length, suc, refl, arith}
use Rattle.content_tree.specs.Values.Tree.{Tree, count}
use Rattle.content_tree.specs.Values.Value.{trees_view, pairs_view, fields_view}
use Rattle.content_tree.specs.declared.cow.CowStr.{CowStr}
use Rattle.content_tree.specs.declared.value.NamedValue.{NamedValue}
use Rattle.content_de.specs.Sources.Origin.{Origin}
use Rattle.content_de.specs.Requests.Compounds.{entries_of_pairs, entries_of_fields}
use Rattle.content_de.specs.Accesses.Map.{without_key}

-- as many as there are values
pub count_values : (vs : List NamedValue) → count (trees_view vs) ≡ length vs
count_values [] = refl
count_values (v ∷ vs) = omega (arith, count_values vs)

-- as many entries as pairs
pub count_pairs : (ps : List (NamedValue × NamedValue)) → length (entries_of_pairs (pairs_view ps)) ≡ length ps
count_pairs [] = refl
count_pairs (p ∷ ps) = omega (arith, count_pairs ps)

-- as many entries as fields
pub count_fields : (place : ℕ) (fs : List (CowStr × NamedValue)) → length (entries_of_fields place (fields_view fs)) ≡ length fs
count_fields place [] = refl
count_fields place (f ∷ fs) = omega (arith, count_fields (suc place) fs)

-- an entry whose key was read counts
pub keyless : (es : List (Origin × Tree)) → length (without_key es) ≡ length es
keyless [] = refl
keyless (e ∷ es) = refl
