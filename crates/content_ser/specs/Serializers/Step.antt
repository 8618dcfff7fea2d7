-- What a call does to a serialiser.
use Rattle.std.specs.Prelude.{◌≡◌, ◌⊎◌, Bool, true, false, List, [], ◌∷◌, Option, Some, None}
use Rattle.std.specs.Prelude.{Result, Ok, Err, IsSome, IsErrAnd, IfSome, option_and_then, ℕ}
use Rattle.content_tree.specs.Errors.Kind.{IsOutOfMemory}
use Rattle.content_tree.specs.declared.error.Error.{Error}
use Rattle.content_ser.specs.Calls.Event.{Event, text}

-- a serialiser, as contracts see it
pub record Seen (S : Type 0) : Type 0 where
  pub state : S
  pub failed : Bool
  pub readable : Bool

-- the state after a call, or none where it is out of place
abbrev pub Step : Type 0 → Type 0
Step S = S → Event → Option S

-- the answer of a call
abbrev pub Answer : Type 0
Answer = Result (Unit {0}) Error

-- why a call is refused
pub data Refusal : Type 0 where
  after_failure : Refusal
  out_of_place : Refusal
  no_memory : Refusal

-- with which error a serialiser refuses a call, and what state it keeps
abbrev pub RefusalRule : Type 0 → Type 1
RefusalRule S = Refusal → S → Error → S → Type 0

-- the state after the calls, one after another
abbrev pub run : {S : Type 0} → Step S → S → List Event → Option S
run step s [] = Some s
run step s (c ∷ cs) = option_and_then (λ next. run step next cs) (step s c)

-- this call in this state is refused with this error, and this state is kept
abbrev pub RefusesCall : {S : Type 0} → Step S → RefusalRule S → S → Event → Error → S → Type 0
RefusesCall step refuses old c e new =
    ((step old c ≡ None) × refuses out_of_place old e new)
    ⊎ (IsSome (step old c) × IsOutOfMemory e × refuses no_memory old e new)

-- one call on a serialiser that has not failed
abbrev pub AnswersCall : {S : Type 0} → Step S → RefusalRule S
    → S → Event → Answer → Bool → S → Type 0
AnswersCall step refuses old c (Ok u) failed new = (failed ≡ false) × (step old c ≡ Some new)
AnswersCall step refuses old c (Err e) failed new =
    (failed ≡ true) × RefusesCall step refuses old c e new

-- one call: the answer and the state after it
pub record Takes {S : Type 0} (step : Step S) (refuses : RefusalRule S)
    (old : Seen S) (c : Event) (r : Answer) (new : Seen S) : Type 0 where
  pub readable : new.readable ≡ old.readable
  pub when_failed : old.failed ≡ true
      → IsErrAnd r (λ e. (new.failed ≡ true) × refuses after_failure old.state e new.state)
  pub otherwise : old.failed ≡ false → AnswersCall step refuses old.state c r new.failed new.state

-- the text call of these printed bytes, or nothing done where there was no memory to print them
abbrev pub Collects : {S : Type 0} → Step S → RefusalRule S → Seen S
    → Option (List ℕ) → Answer → Seen S → Type 0
Collects step refuses old printed r new =
    ((bytes : List ℕ) × IfSome printed (λ stated. bytes ≡ stated)
    × Takes step refuses old (text bytes) r new)
    ⊎ (IsErrAnd r IsOutOfMemory × (new ≡ old))
