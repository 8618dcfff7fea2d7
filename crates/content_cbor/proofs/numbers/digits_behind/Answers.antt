use Rattle.std.proofs.Common.{sym, ◌∙◌, arith}
use Rattle.content_cbor.proofs.Read.Bytewise.{behind_now, behind_on}
use Rattle.content_cbor.proofs.numbers.digits_behind.Goals as goal

pub loop-due-preserved : goal.loop-due-preserved
loop-due-preserved c =
    let l = c.loop-due in
    behind_on l.due c.args.most c.args.number c.loop-due-test.true (omega (arith, c.if-leading-number.true, c.leading.ensures)) ∙ l.invariant

pub returns-else-leading-number : goal.returns-else-leading-number
returns-else-leading-number c =
    let l = c.loop-due in
    sym (behind_now l.due c.args.most c.args.number (omega (arith, c.if-leading-number.false, c.leading.ensures))) ∙ l.invariant
