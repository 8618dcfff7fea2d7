use Rattle.std.proofs.Common.{length}
use Rattle.std.specs.String.{string_bytes}
use Rattle.serde_content.specs.Names.Words.{events_of}
use Rattle.content_lines.specs.Lines.{each_line}
use Rattle.cbor_cli.proofs.Answering.{HasAnswered}
use Rattle.cbor_cli.proofs.lines.answer_lines.Given as goal

abbrev pub invariant-lines : goal.invariant-lines
invariant-lines l = HasAnswered l.form (each_line l.input) (each_line l.text) (events_of l.calls.items) (string_bytes l.out)

abbrev pub decreases-lines : goal.decreases-lines
decreases-lines l = length l.text
