-- Laws of edits: what keys find after one, and which entry is removed.
use Rattle.std.specs.Prelude.{◌≡◌, ℕ, ◌+◌, Bool, true, false, Some, None, if◌then◌else◌}
use Rattle.content_tree.specs.Orders.Trees.{same_tree}
use Rattle.content_tree.specs.Values.Edits.{inserted, removed, pair_added}
use Rattle.content_tree.specs.Values.Lookups.{lookup}
use Rattle.content_tree.specs.Values.Tree.{Tree, map, Pairs, no_pairs, pair_then}

-- a key finds what was inserted at it
abbrev pub InsertedIsGot : Type 0
InsertedIsGot = (key v t u : Tree) → inserted key v t ≡ Some u → lookup key u ≡ Some v

-- a key that doesn't equal it finds what it found before
abbrev pub OthersStay : Type 0
OthersStay = (key v t u other : Tree) → inserted key v t ≡ Some u → same_tree key other ≡ false → lookup other u ≡ lookup other t

-- how many keys equal this one
abbrev pub equal_keys : Tree → Pairs → ℕ
equal_keys key no_pairs = 0
equal_keys key (pair_then k t ps) = (if same_tree k key then 1 else 0) + equal_keys key ps

-- a key that only one entry had finds nothing after its removal
abbrev pub RemovedIsGone : Type 0
RemovedIsGone = (key : Tree) (ps : Pairs) → equal_keys key ps ≡ 1 → lookup key (removed (λ k. same_tree k key) (map ps)) ≡ None

-- of several the last is removed: the entries before it stay
abbrev pub LastIsRemoved : Type 0
LastIsRemoved = (key k v : Tree) (ps : Pairs) → same_tree k key ≡ true → removed (λ j. same_tree j key) (map (pair_added k v ps)) ≡ map ps

-- a key that doesn't equal the removed one finds what it found before
abbrev pub OthersRemain : Type 0
OthersRemain = (key t other : Tree) → same_tree key other ≡ false → lookup other (removed (λ k. same_tree k key) t) ≡ lookup other t

-- a new key that is inserted and removed leaves the map as it was
abbrev pub InsertedThenRemoved : Type 0
InsertedThenRemoved = (key v t u : Tree) → lookup key t ≡ None → inserted key v t ≡ Some u → removed (λ k. same_tree k key) u ≡ t
