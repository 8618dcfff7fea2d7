use Rattle.std.proofs.Common.{◌≡◌, ◌-◌, ◌^◌, vec_len}
use Rattle.std.specs.Io.KnownBytes.{Consumes}
use Rattle.content_lines.proofs.input.read_all.Given as goal

abbrev pub invariant-reads : goal.invariant-reads
invariant-reads g l =
    let left = g.R.Input.left in
    let has_failed = g.R.Input.has_failed in
    record {
      so_far : Consumes (left l.fn.reader) (left l.reader) l.input.items;
      kept : has_failed l.reader ≡ has_failed l.fn.reader;
    }

-- a vector holds fewer than 2 ^ 64 bytes
abbrev pub decreases-reads : goal.decreases-reads
decreases-reads g l = 2 ^ 64 - vec_len l.input
