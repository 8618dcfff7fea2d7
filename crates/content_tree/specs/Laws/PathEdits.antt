-- Laws of edits by a path: what the path finds before and after.
use Rattle.std.specs.Prelude.{◌≡◌, false, ℕ, List, [], ◌∷◌, ◌++◌, codes, Option, Some}
use Rattle.std.specs.Str.{bytes_eq}
use Rattle.content_tree.specs.Values.PathEdits.{set_at, removed_at}
use Rattle.content_tree.specs.Values.Paths.{parts_of}
use Rattle.content_tree.specs.Values.Pointers.{pointer}
use Rattle.content_tree.specs.Values.Tree.{Tree}

-- what is taken out when a value is set is what the path found
abbrev pub SetGivesFound : Type 0
SetGivesFound = (path : List ℕ) (v t u : Tree) (before : Option Tree) → set_at path v t ≡ Some (before, u) → before ≡ pointer path t

-- the path finds what was put in place of another
abbrev pub PutIsFound : Type 0
PutIsFound = (path : List ℕ) (v t u before : Tree) → set_at path v t ≡ Some (Some before, u) → pointer path u ≡ Some v

-- so it does what was added, unless its last part is `-`
abbrev pub SetIsFound : Type 0
SetIsFound = (path : List ℕ) (parts : List (List ℕ)) (part : List ℕ) (v t u : Tree) (before : Option Tree) →
    parts_of path ≡ Some (parts ++ part ∷ []) → bytes_eq part (codes "-") ≡ false → set_at path v t ≡ Some (before, u) → pointer path u ≡ Some v

-- what is removed is what the path found
abbrev pub RemovedIsFound : Type 0
RemovedIsFound = (path : List ℕ) (t u : Tree) (given : Option Tree) → removed_at path t ≡ Some (given, u) → given ≡ pointer path t
