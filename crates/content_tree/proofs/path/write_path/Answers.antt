use Rattle.std.proofs.Common.{◌++◌, arith, rules}
use Rattle.std.proofs.Output.{has_written_styled_append}
use Rattle.content_tree.specs.Errors.Where.{place_of}
use Rattle.content_tree.specs.Printed.Paths.{place_text}
use Rattle.content_tree.proofs.Paths.{next_step}
use Rattle.content_tree.proofs.path.write_path.Goals as goal

pub loop-left-preserved : goal.loop-left-preserved
loop-left-preserved g c = (
  omega (arith, c.loop-left.invariant.0),
  λ flush.
      let now = c.loop-left.invariant.1 flush in
      let x = c.index.result.now in (
        now.0 ++ place_text (place_of x),
        has_written_styled_append _ _ now.0 _ (place_text (place_of x)) _ now.1 (search rules),
        next_step now.0 c.args.steps.now.items c.loop-left.left x _ (omega (arith, c.loop-left-test.true)) c.loop-left.invariant.0 (search rules) now.2,
      ),
)
