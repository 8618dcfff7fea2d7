use Rattle.content_ser.specs.Calls.Call.{event_of}
use Rattle.content_build.specs.Builder.{seen_of}
use Rattle.content_build.proofs.Taking.{taken}
use Rattle.content_build.proofs.builder.BuilderSerializer.call_aside.Goals as goal

pub returns : goal.returns
unfolding seen_of
returns c = taken c.args.self.now.tape c.take.new.self c.args.self.now.human_readable (event_of c.args.call) _ c.take.result _ c.of.ensures c.take.ensures.taken c.take.ensures.limit c.put_aside.ensures
