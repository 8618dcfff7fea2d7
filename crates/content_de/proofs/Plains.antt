-- Lists of values, each made plain.
use Rattle.std.proofs.Common.{◌≡◌, List, [], ◌∷◌, map, refl, ap}
use Rattle.content_tree.specs.Values.Text.{text_of}
use Rattle.content_tree.specs.Values.Tree as tree
use Rattle.content_tree.specs.Values.Tree.{Tree}
use Rattle.content_tree.specs.Values.Value.{tree_of, trees_of, pairs_of, trees_view, pairs_view}
use Rattle.content_tree.specs.Values.Value.{fields_view}
use Rattle.content_tree.specs.declared.cow.CowStr.{CowStr}
use Rattle.content_tree.specs.declared.value.NamedValue.{NamedValue}
use Rattle.content_de.specs.Plain.{name_text, plain, plain_each, plain_pairs, plain_fields}

-- the plain forms of a pair
abbrev pub plain_pair : NamedValue × NamedValue → Tree × Tree
plain_pair p = (plain (tree_of p.0), plain (tree_of p.1))

-- a key as a text, and the plain form of its value
abbrev pub plain_field : CowStr × NamedValue → Tree × Tree
plain_field f = (name_text (text_of f.0), plain (tree_of f.1))

pub trees_plain : (vs : List NamedValue) → trees_of (map (λ v. plain (tree_of v)) vs) ≡ plain_each (trees_view vs)
trees_plain [] = refl
trees_plain (v ∷ vs) = ap (tree.tree_then (plain (tree_of v))) (trees_plain vs)

pub pairs_plain : (ps : List (NamedValue × NamedValue)) → pairs_of (map plain_pair ps) ≡ plain_pairs (pairs_view ps)
pairs_plain [] = refl
pairs_plain (p ∷ ps) = ap (tree.pair_then (plain (tree_of p.0)) (plain (tree_of p.1))) (pairs_plain ps)

pub fields_plain : (fs : List (CowStr × NamedValue)) → pairs_of (map plain_field fs) ≡ plain_fields (fields_view fs)
fields_plain [] = refl
fields_plain (f ∷ fs) = ap (tree.pair_then (name_text (text_of f.0)) (plain (tree_of f.1))) (fields_plain fs)
