-- Trees of lists, one more at the end.
use Rattle.std.proofs.Common.{◌≡◌, List, [], ◌∷◌, ◌++◌, refl, ap}
use Rattle.content_tree.specs.Values.Text.{text_of}
use Rattle.content_tree.specs.Values.Tree as tree
use Rattle.content_tree.specs.Values.Value.{tree_of, trees_view, pairs_view, fields_view}
use Rattle.content_tree.specs.declared.cow.CowStr.{CowStr}
use Rattle.content_tree.specs.declared.value.NamedValue.{NamedValue}
use Rattle.content_build.specs.Partial.{push_tree, push_pair, push_field}

pub trees_view-push : (vs : List NamedValue) (v : NamedValue) → trees_view (vs ++ v ∷ []) ≡ push_tree (trees_view vs) (tree_of v)
trees_view-push [] v = refl
trees_view-push (u ∷ us) v = ap (tree.tree_then (tree_of u)) (trees_view-push us v)

pub pairs_view-push : (ps : List (NamedValue × NamedValue)) (p : NamedValue × NamedValue) →
    pairs_view (ps ++ p ∷ []) ≡ push_pair (pairs_view ps) (tree_of p.0) (tree_of p.1)
pairs_view-push [] p = refl
pairs_view-push (q ∷ qs) p = ap (tree.pair_then (tree_of q.0) (tree_of q.1)) (pairs_view-push qs p)

pub fields_view-push : (fs : List (CowStr × NamedValue)) (f : CowStr × NamedValue) →
    fields_view (fs ++ f ∷ []) ≡ push_field (fields_view fs) (text_of f.0) (tree_of f.1)
fields_view-push [] f = refl
fields_view-push (g ∷ gs) f = ap (tree.field_then (text_of g.0) (tree_of g.1)) (fields_view-push gs f)

pub ruleset pushes = (trees_view-push, pairs_view-push, fields_view-push)
