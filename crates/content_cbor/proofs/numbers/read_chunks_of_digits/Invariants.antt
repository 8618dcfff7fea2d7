use Rattle.std.proofs.Common.{◌≡◌, ◌≤◌, ◌-◌, length}
use Rattle.content_cbor.specs.Inner.Reading.{digits_until, greatest}
use Rattle.content_cbor.proofs.numbers.read_chunks_of_digits.Given as goal

abbrev pub invariant-loop : goal.invariant-loop
invariant-loop l = record {
  value : digits_until l.is_negative l.number (length l.bytes - l.index) l.rest ≡ digits_until l.is_negative 0 (length l.bytes) l.bytes;
  room : l.number ≤ greatest l.is_negative;
}
