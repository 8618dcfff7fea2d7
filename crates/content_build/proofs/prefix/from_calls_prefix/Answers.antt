use Rattle.content_build.proofs.Cutting.{cut_misplaced_only, cut_unfinished_only}
use Rattle.content_build.proofs.Headline.{length-events}
use Rattle.content_build.proofs.prefix.from_calls_prefix.Goals as goal

pub returns-clause-misplaced : goal.returns-clause-misplaced
returns-clause-misplaced c at none m = cut_misplaced_only _ _ at c.cut.ensures none m

pub returns-clause-unfinished : goal.returns-clause-unfinished
returns-clause-unfinished c none v = rw (← length-events c.args.calls.now) (cut_unfinished_only _ _ c.cut.ensures none v)
