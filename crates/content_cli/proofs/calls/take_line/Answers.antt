use Rattle.std.proofs.Common.{subst}
use Rattle.serde_content.specs.Names.Aside.{answer_of}
use Rattle.serde_content.specs.Names.Words.{AnswersNext, event_of, seen_of}
use Rattle.content_lines.specs.Views.{line_event}
use Rattle.content_cli.proofs.Reading.{answers_line}
use Rattle.content_cli.proofs.calls.take_line.Goals as goal

pub returns-in-Ok : goal.returns-in-Ok
returns-in-Ok c limit calls taken =
    let answer = answer_of c.call_aside.result c.call_aside.new.error in
    let new = seen_of c.call_aside.new.self in
    answers_line limit calls (line_event c.args.line) answer c.call_aside.new.self
    (subst (λ e. AnswersNext limit calls e answer new) c.in-Ok.ensures.value
    (c.steps_are_exact.ensures _ new (event_of c.in-Ok.call) answer c.call_aside.ensures limit calls taken))
