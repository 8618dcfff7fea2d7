use Rattle.std.proofs.Common.{None}
use Rattle.content_build.proofs.Headline.{whole_only, misplaced_only, unfinished_only}
use Rattle.content_build.proofs.Headline.{length-events}
use Rattle.content_build.proofs.calls.from_calls.Goals as goal

pub returns-clause-whole : goal.returns-clause-whole
returns-clause-whole c t w = whole_only None _ _ t c.build.ensures w

pub returns-clause-misplaced : goal.returns-clause-misplaced
returns-clause-misplaced c at m = misplaced_only None _ _ at c.build.ensures m

pub returns-clause-unfinished : goal.returns-clause-unfinished
returns-clause-unfinished c v n = rw (← length-events c.args.calls.now) (unfinished_only None _ _ c.build.ensures v n)
