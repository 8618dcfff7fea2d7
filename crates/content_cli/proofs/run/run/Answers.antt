use Rattle.content_cli.proofs.Told.{told_line}
use Rattle.content_cli.proofs.run.run.Goals as goal

pub returns-clause-told : goal.returns-clause-told
returns-clause-told g c =
    told_line (g.R.Input.left c.args.reader.now) c.answer_input-answer.result c.tell.result (g.W.Output.has_failed c.tell.new.writer) (g.W.Output.written c.args.writer.now) (g.W.Output.written c.tell.new.writer)
    c.answer_input-answer.ensures.value c.tell.ensures.told c.tell.ensures.failed
