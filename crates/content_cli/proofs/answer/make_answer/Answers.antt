use Rattle.std.proofs.Common.{refl}
use Rattle.serde_content.specs.Names.Words.{kind_of}
use Rattle.content_lines.specs.Lines.{body_of, calls_of}
use Rattle.content_cli.proofs.Earned.{refused_earns, answer_status}
use Rattle.content_cli.proofs.answer.make_answer.Goals as goal

pub returns-in-Taken-clause-fits : goal.returns-in-Taken-clause-fits
returns-in-Taken-clause-fits c =
    let (good, taken, counted) = c.in-Taken.ensures in
    answer_status c.args.input.items c.finished.result (c.finished.ensures c.args.input.items good taken counted)

pub returns-in-Refused-clause-fits : goal.returns-in-Refused-clause-fits
returns-in-Refused-clause-fits c =
    let input = c.args.input.items in
    let refusal = c.in-Refused.refusal in
    let (good, refused) = c.in-Refused.ensures in
    answer_status input c.refused.result
    (refused_earns input (calls_of (body_of input)) refusal.at (kind_of refusal.error) c.refused.result good refl refused c.refused.ensures.cause c.refused.ensures.line c.refused.ensures.status)
