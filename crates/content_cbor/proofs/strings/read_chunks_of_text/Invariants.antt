use Rattle.std.proofs.Common.{◌≡◌, ◌++◌, ◌-◌, length, true, string_bytes}
use Rattle.std.specs.List.{concat}
use Rattle.content_cbor.specs.Inner.Reading.{chunk_at, chunks_at, until_at}
use Rattle.content_cbor.proofs.Read.Loops.{gathered}
use Rattle.content_cbor.proofs.strings.read_chunks_of_text.Given as goal

abbrev pub invariant-loop : goal.invariant-loop
invariant-loop l =
    gathered (λ xs. string_bytes l.whole ++ concat xs) (until_at (chunk_at true) (length l.bytes - l.index) l.rest) ≡ chunks_at true l.bytes
