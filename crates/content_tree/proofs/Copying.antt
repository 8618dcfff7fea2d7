-- One more pair of a map, copied.
use Rattle.std.proofs.Common.{◌≡◌, ℕ, ◌+◌, ◌<◌, List, [], ◌∷◌, ◌++◌, length, get_or, take, map, sym}
use Rattle.std.proofs.Common.{ap, ◌∙◌}
use Rattle.std.proofs.lemmas.List.{map-append, map_more}
use Rattle.content_tree.specs.Values.Value.{tree_of, pair_tree}
use Rattle.content_tree.specs.declared.value.NamedValue.{NamedValue}

pub copied_more : (pairs copies : List (NamedValue × NamedValue)) (i : ℕ) (none : NamedValue × NamedValue) (key value : NamedValue)
    → i < length pairs → tree_of key ≡ tree_of (get_or pairs i none).0 → tree_of value ≡ tree_of (get_or pairs i none).1
    → map pair_tree copies ≡ map pair_tree (take i pairs)
    → map pair_tree (copies ++ (key, value) ∷ []) ≡ map pair_tree (take (i + 1) pairs)
copied_more pairs copies i none key value below keys values before =
    map-append pair_tree copies ((key, value) ∷ [])
    ∙ ap (λ done. done ++ (tree_of key, tree_of value) ∷ []) before
    ∙ ap (λ k. map pair_tree (take i pairs) ++ (k, tree_of value) ∷ []) keys
    ∙ ap (λ v. map pair_tree (take i pairs) ++ (tree_of (get_or pairs i none).0, v) ∷ []) values
    ∙ sym (map_more pair_tree pairs i none below)
