-- A script that tells whether the serialiser is human readable.
use Rattle.std.proofs.Common.{◌≡◌, Bool, subst}
use Rattle.content_ser.specs.Calls.Event.{boolean}
use Rattle.content_ser.specs.Serializers.Step.{Seen, Step, RefusalRule, Answer, Takes}
use Rattle.content_ser.specs.Scripts.Script.{call_then, done}
use Rattle.content_ser.specs.Scripts.Sends.{Sends}
use Rattle.content_ser.proofs.Sending.{takes_only}

-- the flag that was read is sent
pub told_flag : {S : Type 0} {step : Step S} {refuses : RefusalRule S} {old new : Seen S} {flag : Bool} {r : Answer}
    → flag ≡ old.readable → Takes step refuses old (boolean flag) r new → Sends step refuses old (λ h. call_then (boolean h) done) r new
told_flag {step} {refuses} {old} {new} {r} e t =
    let sent = takes_only (subst (λ b. Takes step refuses old (boolean b) r new) e t) in
    record {
      readable = sent.readable;
      when_failed = sent.when_failed;
      otherwise = sent.otherwise;
    }
