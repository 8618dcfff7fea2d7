-- Laws of paths: the empty one, joined ones, and the parts and indexes that one spells.
use Rattle.std.specs.Prelude.{◌≡◌, ◌<◌, ◌^◌, ◌↔◌, ℕ, List, [], ◌++◌, Some, IsSome, option_and_then}
use Rattle.std.specs.Fmt.{decimal}
use Rattle.content_tree.specs.Values.Paths.{parts_of, path_of, index_of}
use Rattle.content_tree.specs.Values.Pointers.{Place, leads, pointer}
use Rattle.content_tree.specs.Values.Tree.{Tree}

-- the empty path leads to the value itself
abbrev pub EmptyPath : Type 0
EmptyPath = (t : Tree) → pointer [] t ≡ Some t

-- the path is a JSON Pointer
abbrev pub IsPointer : List ℕ → Type 0
IsPointer path = IsSome (parts_of path)

-- joined paths lead where the second leads from where the first does
abbrev pub JoinedPaths : Type 0
JoinedPaths = (path more : List ℕ) (place : Place) → IsPointer path → IsPointer more →
    leads (path ++ more) place ≡ option_and_then (leads more) (leads path place)

-- if the first leads to a value, the second leads on from it
abbrev pub JoinedAtValues : Type 0
JoinedAtValues = (path more : List ℕ) (t found : Tree) → IsPointer more → pointer path t ≡ Some found →
    pointer (path ++ more) t ≡ pointer more found

-- a path spells parts exactly if it is their path
abbrev pub SpelledParts : Type 0
SpelledParts = (path : List ℕ) (parts : List (List ℕ)) → (parts_of path ≡ Some parts) ↔ (path ≡ path_of parts)

-- a part names an index exactly if it is the index in decimal
abbrev pub NamedIndex : Type 0
NamedIndex = (part : List ℕ) (n : ℕ) → n < 2 ^ 64 → (index_of part ≡ Some n) ↔ (part ≡ decimal n)
