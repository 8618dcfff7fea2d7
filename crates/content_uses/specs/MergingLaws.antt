-- What holds of every merge.
use Rattle.std.specs.Prelude.{◌≡◌, ℕ, false, true, codes, List, [], ◌∷◌, Option, Some, None}
use Rattle.std.specs.Prelude.{if◌then◌else◌, IfSome, IsSome, IsSomeAnd, ⊤}
use Rattle.std.specs.Option.{option_and_then}
use Rattle.serde_content.specs.Names.Words.{same_tree, last_value, lookup, static_name, Tree}
use Rattle.serde_content.specs.Names.Tree.{unit, absent, map, structure, named}
use Rattle.serde_content.specs.Names.Tree.{Pairs, no_pairs, pair_then, no_fields, field_then}
use Rattle.content_uses.specs.Merged.{has_key, parts, same_sort, merged}

-- what has no pairs or fields changes nothing of its sort that it is put over
abbrev pub EmptyChangesNothing : Type 0
EmptyChangesNothing = (over base : Tree) → same_sort over base ≡ true → parts over ≡ no_pairs
    → merged over base ≡ base

-- what is of another sort wins whole
abbrev pub OtherSortWins : Type 0
OtherSortWins = (over base : Tree) → same_sort over base ≡ false → merged over base ≡ over

-- the value of a key once a value is put there
abbrev pub put_over : Tree → Option Tree → Option Tree
put_over u None = Some u
put_over u (Some t) = Some (merged u t)

-- the value of a key once each of its values in these pairs is put there in turn
abbrev pub found_after : (key : Tree) → Pairs → Option Tree → Option Tree
found_after k no_pairs o = o
found_after k (pair_then j u qs) o = found_after k qs (if same_tree j k then put_over u o else o)

-- each key finds what it found in the base, with its values put over that in turn
abbrev pub KeysFind : Type 0
KeysFind = (key over base : Tree) → same_sort over base ≡ true
    → lookup key (merged over base) ≡ found_after key (parts over) (lookup key base)

-- a map of one pair
abbrev pub one_pair : (key value : Tree) → Tree
one_pair k t = map (pair_then k t no_pairs)

-- an example with something that is no map between two maps: it matters which two are merged first
abbrev pub OrderMatters : Type 0
OrderMatters = merged (merged (one_pair unit unit) unit) (one_pair absent unit)
    ≡ merged (one_pair unit unit) (merged unit (one_pair absent unit)) → ⊥

-- and one with a struct of another name between two of one
abbrev pub NameMatters : Type 0
NameMatters =
    let one_field : (name field : List ℕ) → Tree = λ name field.
    structure (static_name name) (named (field_then (static_name field) unit no_fields)) in
    let over : Tree = one_field (codes "a") (codes "x") in
    let middle : Tree = one_field (codes "b") (codes "x") in
    let base : Tree = one_field (codes "a") (codes "y") in
    merged (merged over middle) base ≡ merged over (merged middle base) → ⊥

-- the last value of a key
abbrev pub part : (key : Tree) → Tree → Option Tree
part k t = last_value (λ j. same_tree j k) (parts t)

-- the value at the end of a path of keys
abbrev pub behind : (path : List Tree) → Tree → Option Tree
behind [] t = Some t
behind (k ∷ path) t = option_and_then (behind path) (part k t)

-- they are of one sort, and so are the values of each key of the path
abbrev pub SameSortAlong : (path : List Tree) → Tree → Tree → Type 0
SameSortAlong [] u t = same_sort u t ≡ true
SameSortAlong (k ∷ path) u t = (same_sort u t ≡ true)
    × IsSomeAnd (part k u) (λ v. IsSomeAnd (part k t) (λ s. SameSortAlong path v s))

-- along each path where the outer two are of one sort the middle one is too, or has nothing there
abbrev pub SortsBetween : (over middle base : Tree) → Type 0
SortsBetween over middle base = (path : List Tree) → SameSortAlong path over base
    → IsSome (behind path middle) → SameSortAlong path over middle

-- no two pairs have one key
abbrev pub PairsOnce : Pairs → Type 0
PairsOnce no_pairs = ⊤
PairsOnce (pair_then k t ps) = (has_key k ps ≡ false) × PairsOnce ps

-- in the value at the end of a path of keys no key is there twice
abbrev pub KeysOnce : Tree → Type 0
KeysOnce t = (path : List Tree) → IfSome (behind path t) (λ u. PairsOnce (parts u))

-- with one sort between two of it, and each key once, it doesn't matter which two are merged first
abbrev pub EitherWay : Type 0
EitherWay = (over middle base : Tree) → KeysOnce over → KeysOnce middle
    → SortsBetween over middle base
    → merged (merged over middle) base ≡ merged over (merged middle base)

-- an example where a key is there twice in what is put over: it matters, with the other premises
abbrev pub TwiceMatters : Type 0
TwiceMatters =
    let empty : Tree = map no_pairs in
    let over : Tree = map (pair_then unit unit (pair_then unit empty no_pairs)) in
    let middle : Tree = one_pair unit empty in
    let base : Tree = one_pair unit (one_pair unit unit) in
    KeysOnce middle × SortsBetween over middle base
    × (merged (merged over middle) base ≡ merged over (merged middle base) → ⊥)

-- and one where a key is there twice in the middle
abbrev pub TwiceBetweenMatters : Type 0
TwiceBetweenMatters =
    let empty : Tree = map no_pairs in
    let over : Tree = one_pair unit empty in
    let middle : Tree = map (pair_then unit (one_pair unit unit) (pair_then unit unit no_pairs)) in
    KeysOnce over × SortsBetween over middle empty
    × (merged (merged over middle) empty ≡ merged over (merged middle empty) → ⊥)
