-- What a value becomes where it is edited.
use Rattle.std.specs.Prelude.{◌≡◌, ◌<◌, ◌+◌, ℕ, Bool, true, false, List, ◌++◌, codes, Option, Some, None}
use Rattle.std.specs.Prelude.{if◌then◌else◌, length, drop, MatchOption, option_map, unwrap_or}
use Rattle.std.specs.List.{HoldsAt}
use Rattle.content_tree.specs.Orders.Trees.{same_tree}
use Rattle.content_tree.specs.Values.Lookups.{last_value, or_else}
use Rattle.content_tree.specs.Values.Tree.{Tree, seq, map, Trees, no_trees, tree_then}
use Rattle.content_tree.specs.Values.Tree.{Pairs, no_pairs, pair_then}
use Rattle.content_tree.specs.Values.Value.{tree_of, pairs_view}
use Rattle.content_tree.specs.declared.edits.InsertError.{InsertError}
use Rattle.content_tree.specs.declared.edits.InsertError.TheVariants.{NoPlace, OutOfMemory}
use Rattle.content_tree.specs.declared.value.NamedValue.{NamedValue}

-- a sequence
abbrev pub is_seq : Tree → Bool
is_seq (seq ts) = true
is_seq t = false

-- a map
abbrev pub is_map : Tree → Bool
is_map (map ps) = true
is_map t = false

-- the items and one after the last
abbrev pub item_added : Tree → Trees → Trees
item_added v no_trees = tree_then v no_trees
item_added v (tree_then t ts) = tree_then t (item_added v ts)

-- a sequence and an item after its last; nothing else takes one
abbrev pub pushed : Tree → Tree → Option Tree
pushed v (seq ts) = Some (seq (item_added v ts))
pushed v t = None

-- the pairs and one after the last
abbrev pub pair_added : Tree → Tree → Pairs → Pairs
pair_added key v no_pairs = pair_then key v no_pairs
pair_added key v (pair_then k t ps) = pair_then k t (pair_added key v ps)

-- the pairs with this value at the last key that passes the test, if one does
abbrev pub value_replaced : (Tree → Bool) → Tree → Pairs → Option Pairs
value_replaced test v no_pairs = None
value_replaced test v (pair_then k t ps) =
    or_else (option_map (pair_then k t) (value_replaced test v ps)) (if test k then Some (pair_then k v ps) else None)

-- the pairs without the last one whose key passes the test, if one does
abbrev pub pair_removed : (Tree → Bool) → Pairs → Option Pairs
pair_removed test no_pairs = None
pair_removed test (pair_then k t ps) =
    or_else (option_map (pair_then k t) (pair_removed test ps)) (if test k then Some ps else None)

-- the pairs with this value at the last key that equals this one, or else with the pair after the last
abbrev pub value_put : Tree → Tree → Pairs → Pairs
value_put key v ps = unwrap_or (value_replaced (λ k. same_tree k key) v ps) (pair_added key v ps)

-- a map with this value at this key; nothing else takes one
abbrev pub inserted : Tree → Tree → Tree → Option Tree
inserted key v (map ps) = Some (map (value_put key v ps))
inserted key v t = None

-- a map without the last entry whose key passes the test; all else as it is
abbrev pub removed : (Tree → Bool) → Tree → Tree
removed test (map ps) = map (unwrap_or (pair_removed test ps) ps)
removed test t = t

-- the value of the last entry of a map whose key passes the test
abbrev pub entry_value : (Tree → Bool) → Tree → Option Tree
entry_value test (map ps) = last_value test ps
entry_value test t = None

-- the index is that of the last pair whose key passes the test: none if none does
abbrev pub IsLastKey : (Tree → Bool) → List (NamedValue × NamedValue) → Option ℕ → Type 0
IsLastKey test ps found = MatchOption found (last_value test (pairs_view ps) ≡ None)
    (λ i. (i < length ps) × HoldsAt (λ p. test (tree_of p.0) ≡ true) ps i × (last_value test (pairs_view (drop (i + 1) ps)) ≡ None))

-- the last pair whose key passes the test is taken, its value given: none if none does
abbrev pub IsTaken : (Tree → Bool) → List (NamedValue × NamedValue) → Option NamedValue → List (NamedValue × NamedValue) → Type 0
IsTaken test ps given rest = (option_map tree_of given ≡ last_value test (pairs_view ps))
    × (pairs_view rest ≡ unwrap_or (pair_removed test (pairs_view ps)) (pairs_view ps))

-- what was to be put
abbrev pub refused_item : {T : Type 0} → InsertError T → T
refused_item (NoPlace item) = item
refused_item (OutOfMemory item) = item

-- the item, which has no place exactly where the value takes none of it
abbrev pub IsRefused : {T : Type 0} → Bool → T → InsertError T → Type 0
IsRefused takes item (NoPlace own) = (own ≡ item) × (takes ≡ false)
IsRefused takes item (OutOfMemory own) = (own ≡ item) × (takes ≡ true)

-- what the error prints
abbrev pub insert_text : {T : Type 0} → InsertError T → List ℕ
insert_text (NoPlace item) = codes "no place for it in the value"
insert_text (OutOfMemory item) = codes "out of memory"
