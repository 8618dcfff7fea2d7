-- What lookups find: by equal keys, in pairs put together, of a pair put last, and where no key is equal.
use Rattle.std.specs.Prelude.{◌≡◌, ◌≢◌, List, [], ◌∷◌, ◌++◌, Some, None}
use Rattle.std.specs.List.{AllByRecursion}
use Rattle.content_tree.specs.Values.Lookups.{lookup, or_else}
use Rattle.content_tree.specs.Values.Tree.{Tree, map, unmarked}
use Rattle.content_tree.specs.Values.Value.{tree_of, pairs_view}
use Rattle.content_tree.specs.declared.value.NamedValue.{NamedValue}

-- keys that are equal with every mark taken off find the same
abbrev pub EqualKeys : Type 0
EqualKeys = (key other t : Tree) → unmarked key ≡ unmarked other → lookup key t ≡ lookup other t

-- in pairs put together a key finds what it finds in the later ones, or else in the earlier ones
abbrev pub JoinedPairs : Type 0
JoinedPairs = (key : Tree) (ps more : List (NamedValue × NamedValue)) →
    lookup key (map (pairs_view (ps ++ more))) ≡ or_else (lookup key (map (pairs_view more))) (lookup key (map (pairs_view ps)))

-- a pair put last is found by each key that equals its own
abbrev pub LastPair : Type 0
LastPair = (key : Tree) (ps : List (NamedValue × NamedValue)) (p : NamedValue × NamedValue) →
    unmarked (tree_of p.0) ≡ unmarked key → lookup key (map (pairs_view (ps ++ p ∷ []))) ≡ Some (tree_of p.1)

-- none of these keys equals this one
abbrev pub NoneEquals : Tree → List (NamedValue × NamedValue) → Type 0
NoneEquals key ps = AllByRecursion (λ p. unmarked (tree_of p.0) ≢ unmarked key) ps

-- a key finds nothing exactly where none equals it
abbrev pub MissingKey : Type 0
MissingKey = (key : Tree) (ps : List (NamedValue × NamedValue)) →
    (NoneEquals key ps → lookup key (map (pairs_view ps)) ≡ None) × (lookup key (map (pairs_view ps)) ≡ None → NoneEquals key ps)
