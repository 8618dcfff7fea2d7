use Rattle.std.proofs.Common.{◌≡◌, ◌++◌, List, ℕ, length}
use Rattle.std.specs.Io.KnownBytes.{Appends}
use Rattle.content_lines.proofs.answer.write_out.Given as goal

abbrev pub invariant-writes : goal.invariant-writes
invariant-writes g l =
    let written = g.W.Output.written in
    let has_failed = g.W.Output.has_failed in
    record {
      so_far : (gone : List ℕ) × (l.bytes ≡ gone ++ l.rest) × Appends (written l.fn.writer) (written l.writer) gone;
      kept : has_failed l.writer ≡ has_failed l.fn.writer;
    }

abbrev pub decreases-writes : goal.decreases-writes
decreases-writes g l = length l.rest
