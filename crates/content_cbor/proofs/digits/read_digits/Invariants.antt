use Rattle.std.proofs.Common.{◌≡◌, ◌≤◌}
use Rattle.content_cbor.specs.Inner.Numbers.{between, digits_at, leading}
use Rattle.content_cbor.proofs.digits.read_digits.Given as goal

abbrev pub invariant-loop-due : goal.invariant-loop-due
invariant-loop-due l = record {
  value : digits_at (between l.range.least l.range.most l.range.«fault») l.due l.number l.rest
      ≡ digits_at (between l.range.least l.range.most l.range.«fault») l.due-2 l.number-2 l.bytes;
  room : l.number ≤ leading l.due l.range.most;
}

abbrev pub decreases-loop-due : goal.decreases-loop-due
decreases-loop-due l = l.due
