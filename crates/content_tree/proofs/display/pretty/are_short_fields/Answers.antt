use Rattle.std.proofs.Common.{sym, arith}
use Rattle.content_tree.proofs.Pretty.{long_fields}
use Rattle.content_tree.proofs.display.pretty.are_short_fields.Goals as goal

pub returns-in_default : goal.returns-in_default
returns-in_default c = sym (long_fields c.args.fields.now (omega arith))
