use Rattle.content_lines.proofs.Texts.{printable_text}
use Rattle.content_lines.proofs.line.as_text.Goals as goal

pub returns : goal.returns
returns c h = rw c.ok.ensures.value (printable_text _ c.args.line.now c.from_utf8.result c.from_utf8.ensures.cases h)
