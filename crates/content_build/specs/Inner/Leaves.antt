-- Cells that are leaves alone.
use Rattle.std.specs.Prelude.{◌≡◌, suc, List, [], ◌∷◌, length}
use Rattle.content_tree.specs.Values.Text.{Text}
use Rattle.content_tree.specs.Values.Tree as tree
use Rattle.content_tree.specs.Values.Tree.{Tree, TreeData}
use Rattle.content_build.specs.Inner.Cells.{Sort, Label, Cell, cell, leaf, present, seq, tuple, map}
use Rattle.content_build.specs.Inner.Cells.{headed, key, enclose}
use Rattle.content_build.specs.Inner.Forest.{Grown, grown, leaf_tree, no_key, read}
use Rattle.content_build.specs.Inner.Forest.{data_near, past_data}

-- the tree of a leaf, and the unit elsewhere
abbrev pub tree_at : Cell → Tree
tree_at (cell (leaf l) n) = leaf_tree l
tree_at (cell present n) = tree.unit
tree_at (cell seq n) = tree.unit
tree_at (cell tuple n) = tree.unit
tree_at (cell map n) = tree.unit
tree_at (cell (headed s names) n) = tree.unit
tree_at (cell (key k) n) = tree.unit

-- the key, and none elsewhere
abbrev pub key_of : Cell → Text
key_of (cell (leaf l) n) = no_key
key_of (cell present n) = no_key
key_of (cell seq n) = no_key
key_of (cell tuple n) = no_key
key_of (cell map n) = no_key
key_of (cell (headed s names) n) = no_key
key_of (cell (key k) n) = k

-- a leaf, which is its whole tree
abbrev pub IsLeaf : Cell → Type 0
IsLeaf (cell (leaf l) n) = n ≡ 1
IsLeaf (cell present n) = ⊥
IsLeaf (cell seq n) = ⊥
IsLeaf (cell tuple n) = ⊥
IsLeaf (cell map n) = ⊥
IsLeaf (cell (headed s names) n) = ⊥
IsLeaf (cell (key k) n) = ⊥

-- the key of a field
abbrev pub IsKey : Cell → Type 0
IsKey (cell (leaf l) n) = ⊥
IsKey (cell present n) = ⊥
IsKey (cell seq n) = ⊥
IsKey (cell tuple n) = ⊥
IsKey (cell map n) = ⊥
IsKey (cell (headed s names) n) = ⊥
IsKey (cell (key k) n) = Unit {0}

-- each is a leaf
abbrev pub AreLeaves : List Cell → Type 0
AreLeaves [] = Unit {0}
AreLeaves (c ∷ cs) = IsLeaf c × AreLeaves cs

-- each is a key with a leaf after it
abbrev pub AreFields : List Cell → Type 0
AreFields [] = Unit {0}
AreFields (c ∷ []) = ⊥
AreFields (c ∷ d ∷ cs) = IsKey c × (IsLeaf d × AreFields cs)

-- inside a node of this sort the cells are read as what it holds
abbrev pub HoldsAs : Sort → List Cell → TreeData → Type 0
HoldsAs s cs d = (f : List Grown) → (data_near s (length cs) (read cs f) ≡ d) × (past_data s (length cs) (read cs f) ≡ f)

-- a node of this label with the cells inside it is read as this tree
abbrev pub ReadsAs : Label → List Cell → Tree → Type 0
ReadsAs k cs t = (f : List Grown) → read (enclose k cs) f ≡ grown no_key t (suc (length cs)) ∷ f
