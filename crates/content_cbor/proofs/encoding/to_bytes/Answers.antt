use Rattle.std.proofs.Common.{◌≡◌, Some, false, ap, subst}
use Rattle.content_ser.specs.Scripts.Script.{calls_of}
use Rattle.content_ser.specs.Serializers.Step.{run}
use Rattle.content_cbor.specs.Encoder.{step}
use Rattle.content_cbor.proofs.Streamed.{sent_whole}
use Rattle.content_cbor.proofs.encoding.to_bytes.Goals as goal

pub returns-in-Ok : goal.returns-in-Ok
returns-in-Ok g c =
    let fresh = c.new-encoder.ensures in
    let script = g.T.Serialize.script c.args.value.now false in
    let written = c.serialize_aside.new.serializer.written in
    let sent = c.in-Ok.ensures.otherwise (ap (λ e. e.failed) fresh) in
    sent_whole script written c.into_bytes.result (g.met.T.Serialize.lawful c.args.value.now false) sent.0
    (subst (λ start. run step start (calls_of script) ≡ Some written) (ap (λ e. e.written) fresh) sent.2) c.into_bytes.ensures
