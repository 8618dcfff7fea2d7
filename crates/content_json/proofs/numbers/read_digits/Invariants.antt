use Rattle.std.proofs.Common.{◌≡◌, ◌≤◌, length}
use Rattle.content_json.specs.Inner.Numbers.{digits_at}
use Rattle.content_json.proofs.numbers.read_digits.Given as goal

abbrev pub invariant-loop-digit : goal.invariant-loop-digit
invariant-loop-digit l = record {
  room : l.size ≤ l.most;
  same : digits_at l.most l.size l.rest ≡ digits_at l.most 0 l.bytes;
}

abbrev pub decreases-loop-digit : goal.decreases-loop-digit
decreases-loop-digit l = length l.rest
