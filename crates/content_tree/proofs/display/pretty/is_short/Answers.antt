use Rattle.std.proofs.Common.{sym, arith}
use Rattle.content_tree.proofs.Pretty.{long_items}
use Rattle.content_tree.proofs.display.pretty.is_short.Goals as goal

pub returns-in_default : goal.returns-in_default
returns-in_default c = sym (long_items c.args.items.now (omega arith))
