use Rattle.std.proofs.Common.{◌≡◌, ◌+◌, ◌*◌, ◌-◌, ◌++◌, map, length}
use Rattle.content_tree.specs.Values.Value.{tree_of, pair_tree}
use Rattle.content_json.specs.Inner.Reading.{member_at, parts_at, series_at, value_at}
use Rattle.content_json.proofs.Loops.{gathered}
use Rattle.content_json.proofs.decoding.+decode.Given as goal

abbrev pub decreases-read_value : goal.decreases-read_value
decreases-read_value l = 3 * l.limit + 0

abbrev pub decreases-read_member : goal.decreases-read_member
decreases-read_member l = 3 * l.limit + 1

abbrev pub decreases-read_items : goal.decreases-read_items
decreases-read_items l = 3 * l.limit + 2

abbrev pub decreases-read_members : goal.decreases-read_members
decreases-read_members l = 3 * l.limit + 2

abbrev pub invariant-read_items-loop : goal.invariant-read_items-loop
invariant-read_items-loop l =
    gathered (λ xs. map tree_of l.items.items ++ xs) (parts_at 93 (value_at l.limit) (length l.bytes - l.index) l.rest) ≡ series_at 93 (value_at l.limit) l.bytes

abbrev pub invariant-read_members-loop : goal.invariant-read_members-loop
invariant-read_members-loop l =
    gathered (λ xs. map pair_tree l.pairs.items ++ xs) (parts_at 125 (member_at (value_at l.limit)) (length l.bytes - l.index) l.rest)
    ≡ series_at 125 (member_at (value_at l.limit)) l.bytes
