use Rattle.std.proofs.Common.{◌≡◌}
use Rattle.content_cbor.specs.Inner.Reading.{digits_behind}
use Rattle.content_cbor.proofs.numbers.digits_behind.Given as goal

abbrev pub invariant-loop-due : goal.invariant-loop-due
invariant-loop-due l = digits_behind l.due l.most l.number ≡ digits_behind 15 l.most l.number

abbrev pub decreases-loop-due : goal.decreases-loop-due
decreases-loop-due l = l.due
