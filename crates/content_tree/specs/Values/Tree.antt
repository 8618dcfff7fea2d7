-- Trees: what contracts see of a `Value`.
use Rattle.std.specs.Prelude.{ℕ, suc, Bool}
use Rattle.content_tree.specs.Values.Text.{Text, to_owned}
use Rattle.content_tree.specs.declared.number.Number.{Number}

mutual
  -- a value: texts and bytes with their case, names with whether they are static
  pub data Tree : Type 0 where
    unit : Tree
    boolean : Bool → Tree
    number : Number → Tree
    character : ℕ → Tree
    text : Text → Tree
    octets : Text → Tree
    seq : Trees → Tree
    map : Pairs → Tree
    absent : Tree
    present : Tree → Tree
    structure : Text → TreeData → Tree
    enumeration : Text → ℕ → Text → TreeData → Tree
    tuple : Trees → Tree

  -- what a struct or a variant holds
  pub data TreeData : Type 0 where
    no_data : TreeData
    one : Tree → TreeData
    many : Trees → TreeData
    named : Fields → TreeData

  -- trees, in order
  pub data Trees : Type 0 where
    no_trees : Trees
    tree_then : Tree → Trees → Trees

  -- pairs of key and value, in order
  pub data Pairs : Type 0 where
    no_pairs : Pairs
    pair_then : Tree → Tree → Pairs → Pairs

  -- fields of key and value, in order
  pub data Fields : Type 0 where
    no_fields : Fields
    field_then : Text → Tree → Fields → Fields

-- how many trees there are
abbrev pub count : Trees → ℕ
count no_trees = 0
count (tree_then t ts) = suc (count ts)

-- the tree with f at each text and byte value, and g at each name, variant and key
abbrev mutual
  pub at_texts : (f g : Text → Text) → Tree → Tree
  at_texts f g unit = unit
  at_texts f g (boolean b) = boolean b
  at_texts f g (number n) = number n
  at_texts f g (character c) = character c
  at_texts f g (text t) = text (f t)
  at_texts f g (octets t) = octets (f t)
  at_texts f g (seq ts) = seq (at_texts_each f g ts)
  at_texts f g (map ps) = map (at_texts_pairs f g ps)
  at_texts f g absent = absent
  at_texts f g (present t) = present (at_texts f g t)
  at_texts f g (structure n p) = structure (g n) (at_texts_data f g p)
  at_texts f g (enumeration n i v p) = enumeration (g n) i (g v) (at_texts_data f g p)
  at_texts f g (tuple ts) = tuple (at_texts_each f g ts)

  -- in what a struct or a variant holds
  pub at_texts_data : (f g : Text → Text) → TreeData → TreeData
  at_texts_data f g no_data = no_data
  at_texts_data f g (one t) = one (at_texts f g t)
  at_texts_data f g (many ts) = many (at_texts_each f g ts)
  at_texts_data f g (named fs) = named (at_texts_fields f g fs)

  -- one by one
  pub at_texts_each : (f g : Text → Text) → Trees → Trees
  at_texts_each f g no_trees = no_trees
  at_texts_each f g (tree_then t ts) = tree_then (at_texts f g t) (at_texts_each f g ts)

  -- of each pair, key and then value
  pub at_texts_pairs : (f g : Text → Text) → Pairs → Pairs
  at_texts_pairs f g no_pairs = no_pairs
  at_texts_pairs f g (pair_then k t ps) = pair_then (at_texts f g k) (at_texts f g t) (at_texts_pairs f g ps)

  -- of each field, key and then value
  pub at_texts_fields : (f g : Text → Text) → Fields → Fields
  at_texts_fields f g no_fields = no_fields
  at_texts_fields f g (field_then k t fs) = field_then (g k) (at_texts f g t) (at_texts_fields f g fs)

-- every text and byte value owned, also in keys of maps; names of structs, variants and fields as they were
abbrev pub owned : Tree → Tree
owned = at_texts to_owned (λ n. n)

-- the same of what a struct or a variant holds
abbrev pub owned_data : TreeData → TreeData
owned_data = at_texts_data to_owned (λ n. n)

-- with no case and no static mark
abbrev pub unmarked : Tree → Tree
unmarked = at_texts to_owned to_owned

-- the same of what a struct or a variant holds
abbrev pub unmarked_data : TreeData → TreeData
unmarked_data = at_texts_data to_owned to_owned
