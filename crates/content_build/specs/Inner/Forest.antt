-- What a tape spells, read from its end.
use Rattle.std.specs.Prelude.{ℕ, ◌-◌, nat_eq, if◌then◌else◌, List, [], ◌∷◌}
use Rattle.content_tree.specs.Values.Text.{Text, static_name}
use Rattle.content_tree.specs.Values.Tree as tree
use Rattle.content_tree.specs.Values.Tree.{Tree, TreeData, Trees, no_trees, tree_then, Pairs}
use Rattle.content_tree.specs.Values.Tree.{no_pairs, pair_then, Fields, no_fields, field_then}
use Rattle.content_build.specs.Inner.Cells as cells
use Rattle.content_build.specs.Inner.Cells.{Names, of_struct, of_variant, Sort, Leaf, Cell, cell}

-- a tree with its key, which is empty where it is no field, and the number of its cells
pub data Grown : Type 0 where
  grown : Text → Tree → ℕ → Grown

-- no key
abbrev pub no_key : Text
no_key = static_name []

-- the tree under these names that holds this
abbrev pub named_tree : Names → TreeData → Tree
named_tree (of_struct n) d = tree.structure n d
named_tree (of_variant n i v) d = tree.enumeration n i v d

-- the tree of a leaf
abbrev pub leaf_tree : Leaf → Tree
leaf_tree cells.unit = tree.unit
leaf_tree cells.absent = tree.absent
leaf_tree (cells.boolean b) = tree.boolean b
leaf_tree (cells.number n) = tree.number n
leaf_tree (cells.character c) = tree.character c
leaf_tree (cells.text t) = tree.text t
leaf_tree (cells.octets t) = tree.octets t

-- the trees of the first m cells
abbrev pub trees_near : ℕ → List Grown → Trees
trees_near m [] = no_trees
trees_near m (grown k t n ∷ f) = if nat_eq m 0 then no_trees else tree_then t (trees_near (m - n) f)

-- the fields of the first m cells, each with one for its key
abbrev pub fields_near : ℕ → List Grown → Fields
fields_near m [] = no_fields
fields_near m (grown k t n ∷ f) = if nat_eq m 0 then no_fields else field_then k t (fields_near ((m - n) - 1) f)

-- the pairs of the first m cells
abbrev pub pairs_near : ℕ → List Grown → Pairs
pairs_near m [] = no_pairs
pairs_near m (g ∷ []) = no_pairs
pairs_near m (grown k t n ∷ grown l u o ∷ f) =
    if nat_eq m 0 then no_pairs else (if nat_eq (m - n) 0 then no_pairs else pair_then t u (pairs_near ((m - n) - o) f))

-- the trees after the first m cells
abbrev pub past : ℕ → List Grown → List Grown
past m [] = []
past m (grown k t n ∷ f) = if nat_eq m 0 then grown k t n ∷ f else past (m - n) f

-- the same where the cells are those of fields
abbrev pub past_fields : ℕ → List Grown → List Grown
past_fields m [] = []
past_fields m (grown k t n ∷ f) = if nat_eq m 0 then grown k t n ∷ f else past_fields ((m - n) - 1) f

-- what a struct or a variant holds
abbrev pub data_near : Sort → ℕ → List Grown → TreeData
data_near cells.nothing m f = tree.no_data
data_near cells.one m [] = tree.no_data
data_near cells.one m (grown k t n ∷ f) = tree.one t
data_near cells.many m f = tree.many (trees_near m f)
data_near cells.fields m f = tree.named (fields_near m f)

-- the trees after it
abbrev pub past_data : Sort → ℕ → List Grown → List Grown
past_data cells.nothing m f = f
past_data cells.one m [] = []
past_data cells.one m (g ∷ f) = f
past_data cells.many m f = past m f
past_data cells.fields m f = past_fields m f

-- the first tree becomes present
abbrev pub plant_present : ℕ → List Grown → List Grown
plant_present n [] = []
plant_present n (grown k t m ∷ f) = grown no_key (tree.present t) n ∷ f

-- the first tree gets this key
abbrev pub plant_key : Text → List Grown → List Grown
plant_key k [] = []
plant_key k (grown l t n ∷ f) = grown k t n ∷ f

-- one cell more in front
abbrev pub plant : Cell → List Grown → List Grown
plant (cell (cells.leaf l) n) f = grown no_key (leaf_tree l) n ∷ f
plant (cell cells.present n) f = plant_present n f
plant (cell cells.seq n) f = grown no_key (tree.seq (trees_near (n - 1) f)) n ∷ past (n - 1) f
plant (cell cells.tuple n) f = grown no_key (tree.tuple (trees_near (n - 1) f)) n ∷ past (n - 1) f
plant (cell cells.map n) f = grown no_key (tree.map (pairs_near (n - 1) f)) n ∷ past (n - 1) f
plant (cell (cells.headed h names) n) f = grown no_key (named_tree names (data_near h (n - 1) f)) n ∷ past_data h (n - 1) f
plant (cell (cells.key k) n) f = plant_key k f

-- the trees of the cells, in front of these
abbrev pub read : List Cell → List Grown → List Grown
read [] f = f
read (c ∷ cs) f = plant c (read cs f)
