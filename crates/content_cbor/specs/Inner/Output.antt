-- What an output stands for.
use Rattle.std.specs.Prelude.{reverse}
use Rattle.content_cbor.specs.Encoder.{Written}
use Rattle.content_cbor.specs.declared.encoder.Output.{Output}

-- its bytes, and what is due, the innermost first
abbrev pub written_of : Output → Written
written_of o = record { bytes = o.bytes.items; due = reverse o.due.items }
