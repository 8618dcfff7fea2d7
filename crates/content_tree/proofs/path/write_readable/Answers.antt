use Rattle.std.proofs.Common.{◌++◌, arith, rules}
use Rattle.std.proofs.Output.{has_written_styled_append}
use Rattle.content_tree.specs.Errors.Where.{place_of}
use Rattle.content_tree.specs.Printed.Paths.{written_place}
use Rattle.content_tree.proofs.Paths.{next_written}
use Rattle.content_tree.proofs.path.write_readable.Goals as goal

pub loop-left-preserved : goal.loop-left-preserved
loop-left-preserved g c = (
  search rules,
  omega (arith, c.loop-left.invariant.1),
  λ flush.
      let now = c.loop-left.invariant.2 flush in
      let lead = c.loop-left.lead.now in
      let x = c.index.result.now in (
        now.0 ++ written_place lead (place_of x),
        has_written_styled_append _ _ now.0 _ (written_place lead (place_of x)) _ now.1 (search rules),
        next_written now.0 lead c.args.steps.now.items c.loop-left.left x _ (omega (arith, c.loop-left-test.true)) c.loop-left.invariant.1 (search rules) now.2,
      ),
)
