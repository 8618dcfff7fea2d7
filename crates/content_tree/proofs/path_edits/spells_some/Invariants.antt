use Rattle.std.proofs.Common.{◌≡◌, length, IsUtf8}
use Rattle.std.specs.Option.{is_some}
use Rattle.content_tree.specs.Values.Paths.{unescape}
use Rattle.content_tree.specs.Values.Trades.{HasNoSlash}
use Rattle.content_tree.proofs.path_edits.spells_some.Given as goal

-- what is left spells something exactly if the whole does
abbrev pub invariant-loop-before : goal.invariant-loop-before
invariant-loop-before l = (is_some (unescape l.fn.piece) ≡ is_some (unescape l.left)) × HasNoSlash l.left × IsUtf8 l.left

abbrev pub decreases-loop-before : goal.decreases-loop-before
decreases-loop-before l = length l.left
