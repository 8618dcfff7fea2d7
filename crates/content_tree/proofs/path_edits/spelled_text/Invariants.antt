use Rattle.std.proofs.Common.{◌≡◌, ◌++◌, length, IsUtf8}
use Rattle.std.specs.Prelude.{option_map, string_bytes}
use Rattle.content_tree.specs.Values.Paths.{unescape}
use Rattle.content_tree.specs.Values.Trades.{HasNoSlash}
use Rattle.content_tree.proofs.path_edits.spelled_text.Given as goal

-- the text with what is left is what the whole spells
abbrev pub invariant-loop-before : goal.invariant-loop-before
invariant-loop-before l =
    (unescape l.fn.piece ≡ option_map (λ part. string_bytes l.text ++ part) (unescape l.left))
    × HasNoSlash l.left × IsUtf8 l.left

abbrev pub decreases-loop-before : goal.decreases-loop-before
decreases-loop-before l = length l.left
