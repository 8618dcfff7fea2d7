use Rattle.std.proofs.Common.{length}
use Rattle.content_cli.proofs.Reading.{HasRead}
use Rattle.content_cli.proofs.calls.read_calls.Given as goal

abbrev pub invariant-lines : goal.invariant-lines
invariant-lines l = HasRead l.fn.limit l.fn.body l.builder l.count l.place l.text

abbrev pub decreases-lines : goal.decreases-lines
decreases-lines l = length l.text
