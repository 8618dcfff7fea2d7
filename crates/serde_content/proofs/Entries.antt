-- What begins a script after a call.
use Rattle.std.proofs.Common.{Ok, Err}
use Rattle.content_ser.specs.Calls.Event.{Event}
use Rattle.content_ser.specs.Serializers.Step.{Seen, Step, RefusalRule, Answer, Takes}
use Rattle.content_ser.specs.Scripts.Script.{call_then}
use Rattle.content_ser.specs.Scripts.Begins.{Begins, Start}
use Rattle.content_ser.proofs.Sending.{takes_then}

-- a call, and then what begins the rest
pub begun_after : {S : Type 0} {step : Step S} {refuses : RefusalRule S} {old mid : Seen S} {c : Event} {u : Unit {0}} (start : Start) (r : Answer) (new : Seen S)
    → Takes step refuses old c (Ok u) mid → Begins step refuses mid start r new → Begins step refuses old (λ rest h. call_then c (start rest h)) r new
begun_after start (Ok v) new t begun = λ rest r last more. takes_then t (begun rest r last more)
begun_after start (Err x) new t begun = λ rest. takes_then t (begun rest)
