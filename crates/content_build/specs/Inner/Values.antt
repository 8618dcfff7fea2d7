-- The values grown from a tape, the last first.
use Rattle.std.specs.Prelude.{◌≡◌, if◌then◌else◌, ℕ, Bool, List, map, reverse, take}
use Rattle.content_tree.specs.Values.Text.{static_name}
use Rattle.content_tree.specs.Values.Value.{tree_of}
use Rattle.content_build.specs.Inner.Forest as forest
use Rattle.content_build.specs.Inner.Forest.{read}
use Rattle.content_build.specs.Inner.Frames.{cells_of}
use Rattle.content_build.specs.declared.frame.Frame.{Frame}
use Rattle.content_build.specs.declared.grow.Grown.{Grown}

-- a value with its key and the number of its frames
abbrev pub grown_view : Grown → forest.Grown
grown_view g = forest.grown (static_name g.key.now) (tree_of g.value) g.size

-- the values, the last first
abbrev pub grown_trees : List Grown → List forest.Grown
grown_trees gs = map grown_view (reverse gs)

-- the tape and its values, before and after the node at this place was made or left: they are read as before
abbrev pub MakesLast : ℕ → List Frame → List Grown → List Frame → List Grown → Bool → Type 0
MakesLast at es gs fs hs made = (fs ≡ (if made then take at es else es)) × (read (cells_of fs) (grown_trees hs) ≡ read (cells_of es) (grown_trees gs))
