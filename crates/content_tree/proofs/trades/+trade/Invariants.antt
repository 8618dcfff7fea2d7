use Rattle.std.proofs.Common.{◌+◌, ◌*◌, length}
use Rattle.content_tree.proofs.trades.+trade.Given as goal

-- the bytes of the path that are left, and then how deep a call is within one step
abbrev pub decreases-trade : goal.decreases-trade
decreases-trade l = 8 * length l.path.now

abbrev pub decreases-trade_in : goal.decreases-trade_in
decreases-trade_in l = 8 * length l.rest.now + 6

abbrev pub decreases-trade_struct : goal.decreases-trade_struct
decreases-trade_struct l = 8 * length l.rest.now + 5

abbrev pub decreases-trade_variant : goal.decreases-trade_variant
decreases-trade_variant l = 8 * length l.rest.now + 5

abbrev pub decreases-trade_inside : goal.decreases-trade_inside
decreases-trade_inside l = 8 * length l.path.now + 4

abbrev pub decreases-trade_part : goal.decreases-trade_part
decreases-trade_part l = 8 * length l.rest.now + 3

abbrev pub decreases-trade_item : goal.decreases-trade_item
decreases-trade_item l = 8 * length l.rest.now + 2

abbrev pub decreases-trade_entry : goal.decreases-trade_entry
decreases-trade_entry l = 8 * length l.rest.now + 2

abbrev pub decreases-trade_field : goal.decreases-trade_field
decreases-trade_field l = 8 * length l.rest.now + 2

abbrev pub decreases-trade_further : goal.decreases-trade_further
decreases-trade_further l = 8 * length l.path.now + 3
