use Rattle.std.proofs.Common.{sym, arith}
use Rattle.content_tree.proofs.Pretty.{long_pairs}
use Rattle.content_tree.proofs.display.pretty.are_short_pairs.Goals as goal

pub returns-in_default : goal.returns-in_default
returns-in_default c = sym (long_pairs c.args.pairs.now (omega arith))
