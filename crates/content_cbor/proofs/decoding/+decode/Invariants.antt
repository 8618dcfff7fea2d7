use Rattle.std.proofs.Common.{◌≡◌, ◌+◌, ◌*◌, ◌-◌, ◌++◌, map, length}
use Rattle.content_tree.specs.Values.Value.{tree_of, pair_tree}
use Rattle.content_cbor.specs.Inner.Reading.{each_at, until_at, item_at, pair_at}
use Rattle.content_cbor.proofs.Read.Loops.{gathered}
use Rattle.content_cbor.proofs.decoding.+decode.Given as goal

abbrev pub decreases-read_item : goal.decreases-read_item
decreases-read_item l = 5 * l.limit + 0

abbrev pub decreases-read_pair : goal.decreases-read_pair
decreases-read_pair l = 5 * l.limit + 1

abbrev pub decreases-read_each_item : goal.decreases-read_each_item
decreases-read_each_item l = 5 * l.limit + 2

abbrev pub decreases-read_items_until_break : goal.decreases-read_items_until_break
decreases-read_items_until_break l = 5 * l.limit + 2

abbrev pub decreases-read_each_pair : goal.decreases-read_each_pair
decreases-read_each_pair l = 5 * l.limit + 2

abbrev pub decreases-read_pairs_until_break : goal.decreases-read_pairs_until_break
decreases-read_pairs_until_break l = 5 * l.limit + 2

abbrev pub decreases-read_items : goal.decreases-read_items
decreases-read_items l = 5 * l.limit + 3

abbrev pub decreases-read_pairs : goal.decreases-read_pairs
decreases-read_pairs l = 5 * l.limit + 3

abbrev pub invariant-read_each_item-loop : goal.invariant-read_each_item-loop
invariant-read_each_item-loop l =
    gathered (λ xs. map tree_of l.items.items ++ xs) (each_at (item_at l.limit) (l.count - l.counter) l.rest) ≡ each_at (item_at l.limit) l.count l.bytes

abbrev pub invariant-read_items_until_break-loop : goal.invariant-read_items_until_break-loop
invariant-read_items_until_break-loop l =
    gathered (λ xs. map tree_of l.items.items ++ xs) (until_at (item_at l.limit) (length l.bytes - l.index) l.rest) ≡ until_at (item_at l.limit) (length l.bytes) l.bytes

abbrev pub invariant-read_each_pair-loop : goal.invariant-read_each_pair-loop
invariant-read_each_pair-loop l =
    gathered (λ xs. map pair_tree l.pairs.items ++ xs) (each_at (pair_at (item_at l.limit)) (l.count - l.counter) l.rest) ≡ each_at (pair_at (item_at l.limit)) l.count l.bytes

abbrev pub invariant-read_pairs_until_break-loop : goal.invariant-read_pairs_until_break-loop
invariant-read_pairs_until_break-loop l =
    gathered (λ xs. map pair_tree l.pairs.items ++ xs) (until_at (pair_at (item_at l.limit)) (length l.bytes - l.index) l.rest) ≡ until_at (pair_at (item_at l.limit)) (length l.bytes) l.bytes
