use Rattle.std.proofs.Common.{Err, refl}
use Rattle.content_ser.specs.Grammar.Depth.{IsLimit}
use Rattle.content_build.proofs.Serializing.{sends_err, sends_ok, unlimited, within}
use Rattle.content_build.proofs.serializer.Serializer.build.Goals as goal

pub returns : goal.returns
returns g c =
    let made = λ (l : IsLimit c.args.self.limit). sends_err c.args.self.limit l (g.T.Serialize.script c.args.value.now) c.args.self.human_readable _ _ c.serialize_aside.new.error (Err c.serialize_aside.new.error) (g.met.T.Serialize.lawful c.args.value.now) c.within-builder.ensures
    c.in-Err.ensures refl in
    record { unlimited = unlimited c.args.self.limit (g.T.Serialize.script c.args.value.now c.args.self.human_readable) (Err c.serialize_aside.new.error) (g.met.T.Serialize.lawful c.args.value.now c.args.self.human_readable) made; within = within c.args.self.limit (g.T.Serialize.script c.args.value.now c.args.self.human_readable) (Err c.serialize_aside.new.error) made }

pub returns-in-Ok : goal.returns-in-Ok
returns-in-Ok g c =
    let made = λ (l : IsLimit c.args.self.limit). sends_ok c.args.self.limit l (g.T.Serialize.script c.args.value.now) c.args.self.human_readable _ _ _ _ (g.met.T.Serialize.lawful c.args.value.now) c.within-builder.ensures
    c.in-Ok.ensures c.finish_named.ensures in
    record { unlimited = unlimited c.args.self.limit (g.T.Serialize.script c.args.value.now c.args.self.human_readable) c.finish_named.result (g.met.T.Serialize.lawful c.args.value.now c.args.self.human_readable) made; within = within c.args.self.limit (g.T.Serialize.script c.args.value.now c.args.self.human_readable) c.finish_named.result made }
