use Rattle.std.proofs.Common.{sym}
use Rattle.content_cbor.proofs.Read.Numbers.{leading_is, leading_past}
use Rattle.content_cbor.proofs.digits.leading.Goals as goal

pub returns-then-due-lt16 : goal.returns-then-due-lt16
returns-then-due-lt16 c = leading_is c.args.due c.args.number

pub returns-else-due-lt16 : goal.returns-else-due-lt16
returns-else-due-lt16 c = sym (leading_past c.args.due c.args.number c.if-due-lt16.false c.ranges.number.fits)
