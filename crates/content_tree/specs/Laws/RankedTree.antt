-- The order of trees is total: it is that of their ranked trees.
use Rattle.std.specs.Prelude.{◌≡◌, ℕ, ℤ, pos, Bool, true, false, List, [], ◌∷◌, refl}
use Rattle.std.proofs.Common.{subst, sym, ap, ◌∙◌, Equal, nat_cmp}
use Rattle.std.specs.Ordering.{ordering_then, as_partial_cmp}
use Rattle.std.specs.Cmp.{IsTotalOrder, IsEquivalence, IsPartialOrder, on_total, eq_by_cmp_equiv}
use Rattle.std.specs.Cmp.{partial_order_from_total}
use Rattle.content_tree.specs.Laws.Ranked.{Ranked, ranked, Children, no_children, child_then}
use Rattle.content_tree.specs.Laws.Ranked.{ranked_cmp, children_cmp, then_equal, then_assoc}
use Rattle.content_tree.specs.Laws.Ranked.{ranked_total}
use Rattle.content_tree.specs.Values.Tree.{Tree, unit, boolean, number, character, text, octets}
use Rattle.content_tree.specs.Values.Tree.{seq, map, absent, present, structure, enumeration, tuple}
use Rattle.content_tree.specs.Values.Tree.{TreeData, no_data, one, many, named, Trees, no_trees}
use Rattle.content_tree.specs.Values.Tree.{tree_then, Pairs, no_pairs, pair_then, Fields, no_fields}
use Rattle.content_tree.specs.Values.Tree.{field_then}
use Rattle.content_tree.specs.declared.number.Number.{Number}
use Rattle.content_tree.specs.declared.number.Number.TheVariants as num
use Rattle.content_tree.specs.Orders.Trees.{number_rank, number_cmp, text_cmp, tree_cmp}
use Rattle.content_tree.specs.Orders.Trees.{tree_data_cmp, trees_cmp, pairs_cmp, fields_cmp}
use Rattle.content_tree.specs.Orders.Trees.{same_tree, same_tree_data}

-- a node without children
abbrev pub leaf : ℕ → ℕ → ℤ → List ℕ → Ranked
leaf case place signed bytes = ranked (case, place, signed, bytes) no_children

-- a signed number, and 0 for the others
abbrev pub signed_part : Number → ℤ
signed_part (num.I8 n) = n
signed_part (num.U8 n) = pos 0
signed_part (num.I16 n) = n
signed_part (num.U16 n) = pos 0
signed_part (num.I32 n) = n
signed_part (num.U32 n) = pos 0
signed_part (num.I64 n) = n
signed_part (num.U64 n) = pos 0
signed_part (num.I128 n) = n
signed_part (num.U128 n) = pos 0

-- an unsigned number, and none for the others
abbrev pub unsigned_part : Number → List ℕ
unsigned_part (num.I8 n) = []
unsigned_part (num.U8 n) = n ∷ []
unsigned_part (num.I16 n) = []
unsigned_part (num.U16 n) = n ∷ []
unsigned_part (num.I32 n) = []
unsigned_part (num.U32 n) = n ∷ []
unsigned_part (num.I64 n) = []
unsigned_part (num.U64 n) = n ∷ []
unsigned_part (num.I128 n) = []
unsigned_part (num.U128 n) = n ∷ []

-- a number
abbrev pub number_leaf : Number → Ranked
number_leaf n = leaf 2 (number_rank n) (signed_part n) (unsigned_part n)

-- false before true
abbrev pub bool_place : Bool → ℕ
bool_place false = 0
bool_place true = 1

-- the ranked tree of a tree
abbrev mutual
  rank : Tree → Ranked
  rank unit = leaf 0 0 (pos 0) []
  rank (boolean b) = leaf 1 (bool_place b) (pos 0) []
  rank (number n) = number_leaf n
  rank (character c) = leaf 3 c (pos 0) []
  rank (text t) = leaf 4 0 (pos 0) t.content
  rank (octets t) = leaf 5 0 (pos 0) t.content
  rank (seq ts) = ranked (6, 0, pos 0, []) (rank_each ts)
  rank (map ps) = ranked (7, 0, pos 0, []) (rank_pairs ps)
  rank absent = leaf 8 0 (pos 0) []
  rank (present t) = ranked (8, 1, pos 0, []) (child_then (rank t) no_children)
  rank (structure n p) = ranked (9, 0, pos 0, n.content) (child_then (rank_data p) no_children)
  rank (enumeration n i v p) =
      ranked (10, 0, pos 0, n.content) (child_then (leaf 0 i (pos 0) v.content) (child_then (rank_data p) no_children))
  rank (tuple ts) = ranked (11, 0, pos 0, []) (rank_each ts)

  rank_data : TreeData → Ranked
  rank_data no_data = leaf 0 0 (pos 0) []
  rank_data (one t) = ranked (1, 0, pos 0, []) (child_then (rank t) no_children)
  rank_data (many ts) = ranked (2, 0, pos 0, []) (rank_each ts)
  rank_data (named fs) = ranked (3, 0, pos 0, []) (rank_fields fs)

  rank_each : Trees → Children
  rank_each no_trees = no_children
  rank_each (tree_then t ts) = child_then (rank t) (rank_each ts)

  rank_pairs : Pairs → Children
  rank_pairs no_pairs = no_children
  rank_pairs (pair_then k t ps) = child_then (rank k) (child_then (rank t) (rank_pairs ps))

  rank_fields : Fields → Children
  rank_fields no_fields = no_children
  rank_fields (field_then k t fs) = child_then (leaf 0 0 (pos 0) k.content) (child_then (rank t) (rank_fields fs))

-- numbers go as their ranked trees
pub number_as : (a b : Number) → number_cmp a b ≡ ranked_cmp (number_leaf a) (number_leaf b)
number_as (num.I8 a) (num.I8 b) = sym (then_equal _ ∙ then_equal _)
number_as (num.U8 a) (num.U8 b) = sym (then_equal _ ∙ then_equal _)
number_as (num.I16 a) (num.I16 b) = sym (then_equal _ ∙ then_equal _)
number_as (num.U16 a) (num.U16 b) = sym (then_equal _ ∙ then_equal _)
number_as (num.I32 a) (num.I32 b) = sym (then_equal _ ∙ then_equal _)
number_as (num.U32 a) (num.U32 b) = sym (then_equal _ ∙ then_equal _)
number_as (num.I64 a) (num.I64 b) = sym (then_equal _ ∙ then_equal _)
number_as (num.U64 a) (num.U64 b) = sym (then_equal _ ∙ then_equal _)
number_as (num.I128 a) (num.I128 b) = sym (then_equal _ ∙ then_equal _)
number_as (num.U128 a) (num.U128 b) = sym (then_equal _ ∙ then_equal _)
number_as a b = refl

-- each comparison is that of the ranked trees
mutual
  tree_as : (t u : Tree) → tree_cmp t u ≡ ranked_cmp (rank t) (rank u)
  tree_as unit unit = refl
  tree_as absent absent = refl
  tree_as absent (present b) = refl
  tree_as (present a) absent = refl
  tree_as (boolean true) (boolean true) = refl
  tree_as (boolean true) (boolean false) = refl
  tree_as (boolean false) (boolean true) = refl
  tree_as (boolean false) (boolean false) = refl
  tree_as (number a) (number b) = number_as a b
  tree_as (character a) (character b) = sym (then_equal _ ∙ then_equal _)
  tree_as (text a) (text b) = sym (then_equal _)
  tree_as (octets a) (octets b) = sym (then_equal _)
  tree_as (seq a) (seq b) = trees_as a b
  tree_as (map a) (map b) = pairs_as a b
  tree_as (present a) (present b) = tree_as a b ∙ sym (then_equal _)
  tree_as (structure n p) (structure m q) = ap (ordering_then (text_cmp n m)) (data_as p q ∙ sym (then_equal _))
  tree_as (enumeration n i v p) (enumeration m j w q) =
      let inside = data_as p q ∙ sym (then_equal _) in
      let rest = ordering_then (ranked_cmp (rank_data p) (rank_data q)) Equal in
      let labels = then_equal (ordering_then (nat_cmp i j) (text_cmp v w)) in
      let variants = ap (λ o. ordering_then o rest) labels ∙ then_assoc (nat_cmp i j) (text_cmp v w) rest in
      let places = ap (λ o. ordering_then (nat_cmp i j) (ordering_then (text_cmp v w) o)) inside in
      ap (ordering_then (text_cmp n m)) (places ∙ sym variants)
  tree_as (tuple a) (tuple b) = trees_as a b
  tree_as t u = refl

  data_as : (p q : TreeData) → tree_data_cmp p q ≡ ranked_cmp (rank_data p) (rank_data q)
  data_as no_data no_data = refl
  data_as (one a) (one b) = tree_as a b ∙ sym (then_equal _)
  data_as (many a) (many b) = trees_as a b
  data_as (named a) (named b) = fields_as a b
  data_as p q = refl

  trees_as : (ts us : Trees) → trees_cmp ts us ≡ children_cmp (rank_each ts) (rank_each us)
  trees_as no_trees no_trees = refl
  trees_as no_trees (tree_then u us) = refl
  trees_as (tree_then t ts) no_trees = refl
  trees_as (tree_then t ts) (tree_then u us) = λ i. ordering_then (tree_as t u i) (trees_as ts us i)

  pairs_as : (ps qs : Pairs) → pairs_cmp ps qs ≡ children_cmp (rank_pairs ps) (rank_pairs qs)
  pairs_as no_pairs no_pairs = refl
  pairs_as no_pairs (pair_then l u qs) = refl
  pairs_as (pair_then k t ps) no_pairs = refl
  pairs_as (pair_then k t ps) (pair_then l u qs) =
      λ i. ordering_then (tree_as k l i) (ordering_then (tree_as t u i) (pairs_as ps qs i))

  fields_as : (fs gs : Fields) → fields_cmp fs gs ≡ children_cmp (rank_fields fs) (rank_fields gs)
  fields_as no_fields no_fields = refl
  fields_as no_fields (field_then l u gs) = refl
  fields_as (field_then k t fs) no_fields = refl
  fields_as (field_then k t fs) (field_then l u gs) =
      λ i. ordering_then (sym (then_equal (text_cmp k l)) i) (ordering_then (tree_as t u i) (fields_as fs gs i))

-- the order of trees is total
pub tree_total : IsTotalOrder tree_cmp
tree_total = subst (λ R. IsTotalOrder R) (λ i x y. sym (tree_as x y) i) (on_total rank ranked_total)

-- the order of data is total
pub tree_data_total : IsTotalOrder tree_data_cmp
tree_data_total = subst (λ R. IsTotalOrder R) (λ i x y. sym (data_as x y) i) (on_total rank_data ranked_total)

-- the test of trees is an equivalence
pub tree_equiv : IsEquivalence same_tree
tree_equiv = eq_by_cmp_equiv tree_total

-- the order of trees agrees with their test
pub tree_partial_order : IsPartialOrder same_tree (as_partial_cmp tree_cmp)
tree_partial_order = partial_order_from_total tree_total

-- the test of data is an equivalence
pub tree_data_equiv : IsEquivalence same_tree_data
tree_data_equiv = eq_by_cmp_equiv tree_data_total

-- the order of data agrees with their test
pub tree_data_partial_order : IsPartialOrder same_tree_data (as_partial_cmp tree_data_cmp)
tree_data_partial_order = partial_order_from_total tree_data_total
