use Rattle.std.proofs.Common.{◌≡◌, ◌++◌, ◌-◌, length, false}
use Rattle.std.specs.List.{concat}
use Rattle.content_cbor.specs.Inner.Reading.{chunk_at, chunks_at, until_at}
use Rattle.content_cbor.proofs.Read.Loops.{gathered}
use Rattle.content_cbor.proofs.strings.read_chunks_of_bytes.Given as goal

abbrev pub invariant-loop : goal.invariant-loop
invariant-loop l =
    gathered (λ xs. l.whole.items ++ concat xs) (until_at (chunk_at false) (length l.bytes - l.index) l.rest) ≡ chunks_at false l.bytes
