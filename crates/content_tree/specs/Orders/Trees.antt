-- The order of trees: cases first, as they are listed, then contents from left to right; marks are not seen.
use Rattle.std.specs.Prelude.{ℕ, Bool}
use Rattle.std.specs.Ordering.{nat_cmp, int_cmp, bool_cmp, ordering_then, eq_by_cmp}
use Rattle.std.specs.Cmp.Lexicographic.{slice_cmp}
use Rattle.std.specs.declared.cmp.Ordering.{Ordering}
use Rattle.std.specs.declared.cmp.Ordering.TheVariants.{Less, Equal, Greater}
use Rattle.content_tree.specs.Values.Text.{Text}
use Rattle.content_tree.specs.Values.Tree.{Tree, unit, boolean, number, character, text, octets}
use Rattle.content_tree.specs.Values.Tree.{seq, map, absent, present, structure, enumeration, tuple}
use Rattle.content_tree.specs.Values.Tree.{TreeData, no_data, one, many, named, Trees, no_trees}
use Rattle.content_tree.specs.Values.Tree.{tree_then, Pairs, no_pairs, pair_then, Fields, no_fields}
use Rattle.content_tree.specs.Values.Tree.{field_then}
use Rattle.content_tree.specs.declared.number.Number.{Number}
use Rattle.content_tree.specs.declared.number.Number.TheVariants as num

-- texts, bytes and names go by their content
abbrev pub text_cmp : Text → Text → Ordering
text_cmp a b = slice_cmp nat_cmp a.content b.content

-- the place of a number's kind among the ten
abbrev pub number_rank : Number → ℕ
number_rank (num.I8 n) = 0
number_rank (num.U8 n) = 1
number_rank (num.I16 n) = 2
number_rank (num.U16 n) = 3
number_rank (num.I32 n) = 4
number_rank (num.U32 n) = 5
number_rank (num.I64 n) = 6
number_rank (num.U64 n) = 7
number_rank (num.I128 n) = 8
number_rank (num.U128 n) = 9

-- numbers of one kind go by value, all others by kind
abbrev pub number_cmp : Number → Number → Ordering
number_cmp (num.I8 a) (num.I8 b) = int_cmp a b
number_cmp (num.U8 a) (num.U8 b) = nat_cmp a b
number_cmp (num.I16 a) (num.I16 b) = int_cmp a b
number_cmp (num.U16 a) (num.U16 b) = nat_cmp a b
number_cmp (num.I32 a) (num.I32 b) = int_cmp a b
number_cmp (num.U32 a) (num.U32 b) = nat_cmp a b
number_cmp (num.I64 a) (num.I64 b) = int_cmp a b
number_cmp (num.U64 a) (num.U64 b) = nat_cmp a b
number_cmp (num.I128 a) (num.I128 b) = int_cmp a b
number_cmp (num.U128 a) (num.U128 b) = nat_cmp a b
number_cmp a b = nat_cmp (number_rank a) (number_rank b)

-- the place of a tree's case among the twelve
abbrev pub tree_rank : Tree → ℕ
tree_rank unit = 0
tree_rank (boolean b) = 1
tree_rank (number n) = 2
tree_rank (character c) = 3
tree_rank (text t) = 4
tree_rank (octets t) = 5
tree_rank (seq ts) = 6
tree_rank (map ps) = 7
tree_rank absent = 8
tree_rank (present t) = 8
tree_rank (structure n p) = 9
tree_rank (enumeration n i v p) = 10
tree_rank (tuple ts) = 11

-- the place of the data's case among the four
abbrev pub tree_data_rank : TreeData → ℕ
tree_data_rank no_data = 0
tree_data_rank (one t) = 1
tree_data_rank (many ts) = 2
tree_data_rank (named fs) = 3

-- trees; a struct goes by name, then data, a variant by name, index, variant, then data
abbrev mutual
  pub tree_cmp : Tree → Tree → Ordering
  tree_cmp unit unit = Equal
  tree_cmp (boolean a) (boolean b) = bool_cmp a b
  tree_cmp (number a) (number b) = number_cmp a b
  tree_cmp (character a) (character b) = nat_cmp a b
  tree_cmp (text a) (text b) = text_cmp a b
  tree_cmp (octets a) (octets b) = text_cmp a b
  tree_cmp (seq a) (seq b) = trees_cmp a b
  tree_cmp (map a) (map b) = pairs_cmp a b
  tree_cmp absent absent = Equal
  tree_cmp absent (present b) = Less
  tree_cmp (present a) absent = Greater
  tree_cmp (present a) (present b) = tree_cmp a b
  tree_cmp (structure n p) (structure m q) = ordering_then (text_cmp n m) (tree_data_cmp p q)
  tree_cmp (enumeration n i v p) (enumeration m j w q) =
      ordering_then (text_cmp n m) (ordering_then (nat_cmp i j) (ordering_then (text_cmp v w) (tree_data_cmp p q)))
  tree_cmp (tuple a) (tuple b) = trees_cmp a b
  tree_cmp a b = nat_cmp (tree_rank a) (tree_rank b)

  -- what is held: by its case, and then from left to right
  pub tree_data_cmp : TreeData → TreeData → Ordering
  tree_data_cmp no_data no_data = Equal
  tree_data_cmp (one a) (one b) = tree_cmp a b
  tree_data_cmp (many a) (many b) = trees_cmp a b
  tree_data_cmp (named a) (named b) = fields_cmp a b
  tree_data_cmp a b = nat_cmp (tree_data_rank a) (tree_data_rank b)

  -- item by item, a proper beginning first
  pub trees_cmp : Trees → Trees → Ordering
  trees_cmp no_trees no_trees = Equal
  trees_cmp no_trees (tree_then u us) = Less
  trees_cmp (tree_then t ts) no_trees = Greater
  trees_cmp (tree_then t ts) (tree_then u us) = ordering_then (tree_cmp t u) (trees_cmp ts us)

  -- pairs: key and then value
  pub pairs_cmp : Pairs → Pairs → Ordering
  pairs_cmp no_pairs no_pairs = Equal
  pairs_cmp no_pairs (pair_then l u qs) = Less
  pairs_cmp (pair_then k t ps) no_pairs = Greater
  pairs_cmp (pair_then k t ps) (pair_then l u qs) =
      ordering_then (tree_cmp k l) (ordering_then (tree_cmp t u) (pairs_cmp ps qs))

  -- fields: key and then value
  pub fields_cmp : Fields → Fields → Ordering
  fields_cmp no_fields no_fields = Equal
  fields_cmp no_fields (field_then l u gs) = Less
  fields_cmp (field_then k t fs) no_fields = Greater
  fields_cmp (field_then k t fs) (field_then l u gs) =
      ordering_then (text_cmp k l) (ordering_then (tree_cmp t u) (fields_cmp fs gs))

-- two trees are the same if the order finds neither less
abbrev pub same_tree : Tree → Tree → Bool
same_tree = eq_by_cmp tree_cmp

-- two data are the same if the order finds neither less
abbrev pub same_tree_data : TreeData → TreeData → Bool
same_tree_data = eq_by_cmp tree_data_cmp
