-- Lists of values, each owned.
use Rattle.std.proofs.Common.{◌≡◌, List, [], ◌∷◌, ◌++◌, map, length, refl, ap, ◌∙◌, arith}
use Rattle.std.proofs.Common.{append-nil}
use Rattle.content_tree.specs.Values.Text.{Text, text_of, to_owned}
use Rattle.content_tree.specs.Values.Tree as tree
use Rattle.content_tree.specs.Values.Tree.{Tree, owned, at_texts_each, at_texts_pairs}
use Rattle.content_tree.specs.Values.Tree.{at_texts_fields}
use Rattle.content_tree.specs.Values.Value.{tree_of, trees_of, pairs_of, fields_of, trees_view}
use Rattle.content_tree.specs.Values.Value.{pairs_view, fields_view}
use Rattle.content_tree.specs.declared.cow.CowStr.{CowStr}
use Rattle.content_tree.specs.declared.value.NamedValue.{NamedValue}

-- the trees of a pair, owned
abbrev pub owned_pair : NamedValue × NamedValue → Tree × Tree
owned_pair p = (owned (tree_of p.0), owned (tree_of p.1))

-- a key as it is, and the tree of its value, owned
abbrev pub owned_field : CowStr × NamedValue → Text × Tree
owned_field f = (text_of f.0, owned (tree_of f.1))

pub trees_owned : (vs : List NamedValue) → trees_of (map (λ v. owned (tree_of v)) vs) ≡ at_texts_each to_owned (λ n. n) (trees_view vs)
trees_owned [] = refl
trees_owned (v ∷ vs) = ap (tree.tree_then (owned (tree_of v))) (trees_owned vs)

pub pairs_owned : (ps : List (NamedValue × NamedValue)) → pairs_of (map owned_pair ps) ≡ at_texts_pairs to_owned (λ n. n) (pairs_view ps)
pairs_owned [] = refl
pairs_owned (p ∷ ps) = ap (tree.pair_then (owned (tree_of p.0)) (owned (tree_of p.1))) (pairs_owned ps)

pub fields_owned : (fs : List (CowStr × NamedValue)) → fields_of (map owned_field fs) ≡ at_texts_fields to_owned (λ n. n) (fields_view fs)
fields_owned [] = refl
fields_owned (f ∷ fs) = ap (tree.field_then (text_of f.0) (owned (tree_of f.1))) (fields_owned fs)

pub nothing_left : {A : Type 0} (xs ys zs : List A) → xs ≡ ys ++ zs → length zs ≡ 0 → xs ≡ ys
nothing_left xs ys [] all none = all ∙ append-nil ys
nothing_left xs ys (z ∷ zs) all none = absurd (omega arith)
