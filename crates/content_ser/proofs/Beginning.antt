-- The first part of a script, sent.
use Rattle.std.proofs.Common.{◌≡◌, Bool, Result, Ok, Err, IsErrAnd, subst}
use Rattle.std.proofs.lemmas.Result.{err_from_is_err_and}
use Rattle.content_tree.specs.declared.error.Error.{Error}
use Rattle.content_ser.specs.Calls.Event.{Event}
use Rattle.content_ser.specs.Serializers.Step.{Seen, Step, RefusalRule, Answer, Takes}
use Rattle.content_ser.specs.Scripts.Script.{Script, call_then}
use Rattle.content_ser.specs.Scripts.Sends.{Sends}
use Rattle.content_ser.specs.Scripts.Begins.{Begins, Start, value_first}
use Rattle.content_ser.specs.Sending.Aside.{answer_of}
use Rattle.content_ser.proofs.Sending.{takes_then, takes_err, sends_then, sends_err}

-- one call
pub begun_call : {S : Type 0} {step : Step S} {refuses : RefusalRule S} {old new : Seen S} {c made : Event} (r : Answer)
    → made ≡ c → Takes step refuses old made r new → Begins step refuses old (λ rest h. call_then c (rest h)) r new
begun_call {S} {step} {refuses} {old} {new} (Ok u) same t = λ rest r last s. takes_then (subst (λ e. Takes step refuses old e (Ok u) new) same t) s
begun_call {S} {step} {refuses} {old} {new} (Err x) same t = λ rest. takes_err (subst (λ e. Takes step refuses old e (Err x) new) same t)

-- the exit of a `?` whose error is put aside
pub begun_exit_aside : {S : Type 0} {X : Type 0} {step : Step S} {refuses : RefusalRule S} {old new : Seen S} {start : Start} {error : Error} (r : Result (Unit {0}) X) (x : X)
    → IsErrAnd r (λ y. y ≡ x) → Begins step refuses old start (Err error) new → Begins step refuses old start (answer_of r error) new
begun_exit_aside r x is s =
    let p = err_from_is_err_and r is in
    rw p.1 s

-- what was sent, then the calls that announce a value, and then the value
pub begun_value : {S : Type 0} {step : Step S} {refuses : RefusalRule S} {old mid later new : Seen S} {start item_call : Start} {a : Bool → Script} {u w : Unit {0}} (r : Answer)
    → Begins step refuses old start (Ok u) mid → Begins step refuses mid item_call (Ok w) later → Sends step refuses later a r new
    → Begins step refuses old (λ rest. start (item_call (value_first a rest))) r new
begun_value (Ok v) begun marked s = λ rest r last more. begun _ r last (marked _ r last (sends_then s more))
begun_value (Err x) begun marked s = λ rest. begun _ (Err x) _ (marked _ (Err x) _ (sends_err rest s))
