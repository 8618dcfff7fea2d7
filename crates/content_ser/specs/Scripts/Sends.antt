-- What sending a script to a serialiser does.
use Rattle.std.specs.Prelude.{◌≡◌, ◌⊎◌, Bool, true, false, List, ◌∷◌, ◌++◌, Some, None, Ok, Err, ℕ}
use Rattle.content_tree.specs.Errors.Kind.{IsOutOfMemory}
use Rattle.content_tree.specs.declared.error.Error.{Error}
use Rattle.content_ser.specs.Calls.Event.{Event}
use Rattle.content_ser.specs.Serializers.Step.{Seen, Step, Answer, after_failure, RefusalRule, run}
use Rattle.content_ser.specs.Serializers.Step.{RefusesCall}
use Rattle.content_ser.specs.Scripts.Script.{Script, done, stop_with, call_then, calls_of, stop_of}
use Rattle.content_ser.specs.Scripts.Script.{IsCustom}

-- a beginning of the calls is taken, and the call after it is refused
abbrev pub Halted : {S : Type 0} → Step S → RefusalRule S → S → List Event → Error → S → Type 0
Halted {S} step refuses old cs e new =
    (made : List Event) × (c : Event) × (rest : List Event) × (mid : S)
    × (made ++ c ∷ rest ≡ cs) × (run step old made ≡ Some mid)
    × RefusesCall step refuses mid c e new

-- some beginning of the calls runs to this state
abbrev pub RunsTo : {S : Type 0} → Step S → S → List Event → S → Type 0
RunsTo step old cs new = (made rest : List Event)
    × (made ++ rest ≡ cs) × (run step old made ≡ Some new)

-- all its calls are made, and then it stops
abbrev pub Stopped : {S : Type 0} → Step S → S → Script → Error → S → Type 0
Stopped step old sc e new =
    (message : List ℕ) × (stop_of sc ≡ Some message) × IsCustom message e
    × (run step old (calls_of sc) ≡ Some new)

-- a script sent to a serialiser that has not failed
abbrev pub AnswersScript : {S : Type 0} → Step S → RefusalRule S
    → S → Script → Answer → Bool → S → Type 0
AnswersScript step refuses old sc (Ok u) failed new = (stop_of sc ≡ None)
    × (failed ≡ false)
    × (run step old (calls_of sc) ≡ Some new)
AnswersScript step refuses old sc (Err e) failed new =
    ((failed ≡ true) × Halted step refuses old (calls_of sc) e new)
    ⊎ ((failed ≡ false)
    × (Stopped step old sc e new ⊎ (IsOutOfMemory e × RunsTo step old (calls_of sc) new)))

-- a script sent to a serialiser that has failed before: its first call is refused, or none is made
abbrev pub AnswersInVain : {S : Type 0} → RefusalRule S → S → Script → Answer → S → Type 0
AnswersInVain refuses old done (Ok u) new = new ≡ old
AnswersInVain refuses old (stop_with message) (Ok u) new = ⊥
AnswersInVain refuses old (call_then c sc) (Ok u) new = ⊥
AnswersInVain refuses old done (Err e) new = IsOutOfMemory e × (new ≡ old)
AnswersInVain refuses old (stop_with message) (Err e) new =
    (IsCustom message e ⊎ IsOutOfMemory e) × (new ≡ old)
AnswersInVain refuses old (call_then c sc) (Err e) new =
    refuses after_failure old e new
    ⊎ (IsOutOfMemory e × (new ≡ old))

-- a script, which may depend on whether the serialiser is human readable, sent to a serialiser
pub record Sends {S : Type 0} (step : Step S) (refuses : RefusalRule S)
    (old : Seen S) (sc : Bool → Script) (r : Answer) (new : Seen S) : Type 0 where
  pub readable : new.readable ≡ old.readable
  pub when_failed : old.failed ≡ true
      → (new.failed ≡ true) × AnswersInVain refuses old.state (sc old.readable) r new.state
  pub otherwise : old.failed ≡ false
      → AnswersScript step refuses old.state (sc old.readable) r new.failed new.state
