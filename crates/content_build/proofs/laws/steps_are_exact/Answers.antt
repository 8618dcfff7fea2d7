use Rattle.content_build.proofs.Stepwise.{steps_are_exact}
use Rattle.content_build.proofs.laws.steps_are_exact.Goals as goal

pub returns : goal.returns
returns c = steps_are_exact
