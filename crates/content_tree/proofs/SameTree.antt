-- The order finds neither of two trees less exactly if they are equal with the marks taken off.
use Rattle.std.proofs.Common.{◌≡◌, refl, ap, nat_cmp}
use Rattle.content_tree.proofs.Decide.{Ties, along, both, nats_tie, bools_tie, texts_tie}
use Rattle.content_tree.proofs.Decide.{numbers_tie}
use Rattle.content_tree.specs.Values.Text.{to_owned}
use Rattle.content_tree.specs.Values.Tree.{unmarked, unmarked_data, at_texts_each, at_texts_pairs}
use Rattle.content_tree.specs.Values.Tree.{at_texts_fields, Tree, unit, boolean, number, character}
use Rattle.content_tree.specs.Values.Tree.{text, octets, seq, map, absent, present, structure}
use Rattle.content_tree.specs.Values.Tree.{enumeration, tuple, TreeData, no_data, one, many, named}
use Rattle.content_tree.specs.Values.Tree.{Trees, no_trees, tree_then, Pairs, no_pairs, pair_then}
use Rattle.content_tree.specs.Values.Tree.{Fields, no_fields, field_then}
use Rattle.content_tree.specs.Orders.Trees.{text_cmp, tree_cmp, tree_data_cmp, trees_cmp, pairs_cmp}
use Rattle.content_tree.specs.Orders.Trees.{fields_cmp}

-- trees, data, and the lists in them
mutual
  pub trees_tie : (t u : Tree) → Ties (tree_cmp t u) (unmarked t ≡ unmarked u)
  trees_tie unit unit = (λ e. refl, λ e. refl)
  trees_tie (boolean a) (boolean b) = along _ (bools_tie a b) (ap boolean) (λ e. cc)
  trees_tie (number a) (number b) = along _ (numbers_tie a b) (ap number) (λ e. cc)
  trees_tie (character a) (character b) = along _ (nats_tie a b) (ap character) (λ e. cc)
  trees_tie (text a) (text b) = along _ (texts_tie a b) (ap text) (λ e. cc)
  trees_tie (octets a) (octets b) = along _ (texts_tie a b) (ap octets) (λ e. cc)
  trees_tie (seq a) (seq b) = along _ (lists_tie a b) (ap seq) (λ e. cc)
  trees_tie (map a) (map b) = along _ (pairs_tie a b) (ap map) (λ e. cc)
  trees_tie absent absent = (λ e. refl, λ e. refl)
  trees_tie (present a) (present b) = along _ (trees_tie a b) (ap present) (λ e. cc)
  trees_tie (structure n p) (structure m q) =
      along _ (both (text_cmp n m) (tree_data_cmp p q) (texts_tie n m) (tree_data_tie p q)) (λ e. cc) (λ e. (cc, cc))
  trees_tie (enumeration n i v p) (enumeration m j w q) =
      let held = both (text_cmp v w) (tree_data_cmp p q) (texts_tie v w) (tree_data_tie p q) in
      let placed = both (nat_cmp i j) _ (nats_tie i j) held in
      along _ (both (text_cmp n m) _ (texts_tie n m) placed) (λ e. cc) (λ e. (cc, (cc, (cc, cc))))
  trees_tie (tuple a) (tuple b) = along _ (lists_tie a b) (ap tuple) (λ e. cc)
  trees_tie t u = (λ e. absurd (cc e), λ e. absurd (cc e))

  pub tree_data_tie : (p q : TreeData) → Ties (tree_data_cmp p q) (unmarked_data p ≡ unmarked_data q)
  tree_data_tie no_data no_data = (λ e. refl, λ e. refl)
  tree_data_tie (one a) (one b) = along _ (trees_tie a b) (ap one) (λ e. cc)
  tree_data_tie (many a) (many b) = along _ (lists_tie a b) (ap many) (λ e. cc)
  tree_data_tie (named a) (named b) = along _ (fields_tie a b) (ap named) (λ e. cc)
  tree_data_tie p q = (λ e. absurd (cc e), λ e. absurd (cc e))

  lists_tie : (ts us : Trees) → Ties (trees_cmp ts us) (at_texts_each to_owned to_owned ts ≡ at_texts_each to_owned to_owned us)
  lists_tie no_trees no_trees = (λ e. refl, λ e. refl)
  lists_tie (tree_then t ts) (tree_then u us) =
      along _ (both (tree_cmp t u) (trees_cmp ts us) (trees_tie t u) (lists_tie ts us)) (λ e. cc) (λ e. (cc, cc))
  lists_tie ts us = (λ e. absurd (cc e), λ e. absurd (cc e))

  pairs_tie : (ps qs : Pairs) → Ties (pairs_cmp ps qs) (at_texts_pairs to_owned to_owned ps ≡ at_texts_pairs to_owned to_owned qs)
  pairs_tie no_pairs no_pairs = (λ e. refl, λ e. refl)
  pairs_tie (pair_then k t ps) (pair_then l u qs) =
      let values = both (tree_cmp t u) (pairs_cmp ps qs) (trees_tie t u) (pairs_tie ps qs) in
      along _ (both (tree_cmp k l) _ (trees_tie k l) values) (λ e. cc) (λ e. (cc, (cc, cc)))
  pairs_tie ps qs = (λ e. absurd (cc e), λ e. absurd (cc e))

  fields_tie : (fs gs : Fields) → Ties (fields_cmp fs gs) (at_texts_fields to_owned to_owned fs ≡ at_texts_fields to_owned to_owned gs)
  fields_tie no_fields no_fields = (λ e. refl, λ e. refl)
  fields_tie (field_then k t fs) (field_then l u gs) =
      let values = both (tree_cmp t u) (fields_cmp fs gs) (trees_tie t u) (fields_tie fs gs) in
      along _ (both (text_cmp k l) _ (texts_tie k l) values) (λ e. cc) (λ e. (cc, (cc, cc)))
  fields_tie fs gs = (λ e. absurd (cc e), λ e. absurd (cc e))
