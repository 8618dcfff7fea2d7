-- Which faults are of bytes that are not well-formed.
use Rattle.std.specs.Prelude.{Bool, true, false}
use Rattle.content_cbor.specs.declared.decode_error.Fault.{Fault}
use Rattle.content_cbor.specs.declared.decode_error.Fault.TheVariants as fault

-- whether the bytes up to and with the place begin no well-formed item
abbrev pub is_malformed : Fault → Bool
is_malformed fault.Trailing = true
is_malformed fault.Reserved = true
is_malformed fault.Break = true
is_malformed fault.WrongChunk = true
is_malformed f = false
