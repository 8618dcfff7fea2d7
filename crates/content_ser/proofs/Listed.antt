-- A list of calls, made one after another.
use Rattle.std.proofs.Common.{◌≡◌, ℕ, ◌+◌, ◌<◌, List, Ok, Err, length, drop, get_or, refl, subst}
use Rattle.content_tree.specs.declared.error.Error.{Error}
use Rattle.content_ser.specs.declared.call.Call.{Call}
use Rattle.content_ser.specs.Calls.Call.{event_of, events_of}
use Rattle.content_ser.specs.Serializers.Step.{Seen, Step, RefusalRule, Answer, Takes}
use Rattle.content_ser.specs.Scripts.Script.{done}
use Rattle.content_ser.specs.Scripts.Sends.{Sends}
use Rattle.content_ser.specs.Scripts.Replay.{calls_script}
use Rattle.content_ser.proofs.Lists.{drop_here}
use Rattle.content_ser.proofs.Sending.{takes_then, takes_err}

-- a call that was taken, and then the rest
pub onward : {S : Type 0} {step : Step S} {refuses : RefusalRule S} {old mid new : Seen S} {u : Unit {0}} {r : Answer} (xs : List Call) (i : ℕ) (x lent : Call)
    → i < length xs → x ≡ get_or xs i x → event_of lent ≡ event_of x → Takes step refuses old (event_of lent) (Ok u) mid
    → Sends step refuses mid (λ h. calls_script (events_of (drop (i + 1) xs))) r new → Sends step refuses old (λ h. calls_script (events_of (drop i xs))) r new
onward {S} {step} {refuses} {old} {mid} {new} {u} {r} xs i x lent below is same t s =
    rw (drop_here xs i x below is) (takes_then (subst (λ e. Takes step refuses old e (Ok u) mid) same t) s)

-- a call that was refused
pub halted : {S : Type 0} {step : Step S} {refuses : RefusalRule S} {old new : Seen S} {e : Error} (xs : List Call) (i : ℕ) (x lent : Call)
    → i < length xs → x ≡ get_or xs i x → event_of lent ≡ event_of x → Takes step refuses old (event_of lent) (Err e) new
    → Sends step refuses old (λ h. calls_script (events_of (drop i xs))) (Err e) new
halted {S} {step} {refuses} {old} {new} {e} xs i x lent below is same t =
    rw (drop_here xs i x below is) (takes_err (subst (λ c. Takes step refuses old c (Err e) new) same t))

-- nothing is left
pub ended : {S : Type 0} {step : Step S} {refuses : RefusalRule S} {old : Seen S} {u : Unit {0}} → Sends step refuses old (λ h. done) (Ok u) old
ended {S} {step} {refuses} {old} {u} = record { readable = refl; when_failed = λ h. (h, refl); otherwise = λ h. (refl, h, refl) }
