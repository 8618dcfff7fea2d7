use Rattle.std.proofs.Common.{rules}
use Rattle.content_ser.proofs.Equality.{call_decides}
use Rattle.content_ser.proofs.laws.equal_by_contents.Goals as goal

pub returns : goal.returns
returns c = let decides = call_decides c.args.a.now c.args.b.now in search (rules, decides)
