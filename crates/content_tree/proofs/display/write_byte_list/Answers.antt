use Rattle.std.proofs.Common.{◌++◌, get_or, arith, rules}
use Rattle.std.specs.Fmt.{decimal}
use Rattle.std.proofs.Output.{has_written_styled_append}
use Rattle.content_tree.proofs.Printing.{drop_first}
use Rattle.content_tree.proofs.Printing.{next_byte}
use Rattle.content_tree.proofs.display.write_byte_list.Goals as goal

pub loop-byte-preserved : goal.loop-byte-preserved
loop-byte-preserved g c = (
  search rules,
  λ plain.
      let now = c.loop-byte.invariant.1 plain in
      let x = get_or c.args.bytes.now c.loop-byte.byte-index 0 in
      let here = drop_first c.args.bytes.now c.loop-byte.byte-index 0 (omega (arith, c.loop-byte-test.true)) in
      let new = c.loop-byte.lead.now ++ decimal x in
      (now.0 ++ new, has_written_styled_append _ _ now.0 _ new _ now.1 (search rules), next_byte now.0 c.loop-byte.lead.now c.args.bytes.now c.loop-byte.byte-index x _ here now.2),
)
