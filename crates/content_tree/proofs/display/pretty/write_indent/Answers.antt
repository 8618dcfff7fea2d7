use Rattle.std.proofs.Common.{◌++◌, codes, arith, rules}
use Rattle.std.proofs.Output.{has_written_styled_append}
use Rattle.content_tree.proofs.Pretty.{next_indent}
use Rattle.content_tree.proofs.display.pretty.write_indent.Goals as goal

pub loop-left-preserved : goal.loop-left-preserved
loop-left-preserved g c = λ plain.
    let now = c.loop-left.invariant plain in
    (now.0 ++ codes "  ", has_written_styled_append _ _ now.0 _ (codes "  ") _ now.1 (search rules), next_indent now.0 c.loop-left.left _ (omega arith) now.2)
