use Rattle.content_ser.specs.Calls.Call.{event_of}
use Rattle.content_build.specs.Builder.{seen_of}
use Rattle.content_build.proofs.Taking.{taken}
use Rattle.content_build.proofs.Stepwise.{steps_are_exact}
use Rattle.content_build.proofs.builder.BuilderSerializer.call.Goals as goal

pub returns-clause-taken : goal.returns-clause-taken
unfolding seen_of
returns-clause-taken c = taken c.args.self.now.tape c.take.new.self c.args.self.now.human_readable (event_of c.args.call) _ c.take.result c.answered.result c.of.ensures c.take.ensures.taken c.take.ensures.limit c.answered.ensures

pub returns-clause-exact : goal.returns-clause-exact
unfolding seen_of
returns-clause-exact c =
    steps_are_exact _ _ (event_of c.args.call) c.answered.result
    (taken c.args.self.now.tape c.take.new.self c.args.self.now.human_readable (event_of c.args.call) _ c.take.result c.answered.result c.of.ensures c.take.ensures.taken c.take.ensures.limit c.answered.ensures)
