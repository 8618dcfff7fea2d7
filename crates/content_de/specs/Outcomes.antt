-- A request takes what is read, with a datum or with its parts, or it refuses it.
use Rattle.std.specs.Prelude.{Option, Some, None, Result, MatchResult, ◌≡◌, ◌≢◌, ⊤}
use Rattle.content_tree.specs.Errors.Cause.{Cause, Expectation, unexpected, out_of_memory, cause_of}
use Rattle.content_tree.specs.Errors.Kind.{kind_of}
use Rattle.content_tree.specs.declared.error.Error.{Error}
use Rattle.content_de.specs.Sources.Origin.{Origin, origin_image}

-- what a request comes to
pub data Outcome (A : Type 0) : Type 0 where
  taken : A → Outcome A
  refused : Cause → Outcome A

-- what an error says
abbrev pub cause : Error → Cause
cause e = cause_of (kind_of e)

-- this was found where that was expected
abbrev pub mismatch : Origin → Expectation → Cause
mismatch o e = unexpected (origin_image o) e

-- refused for that
abbrev pub misfit : {A : Type 0} → Origin → Expectation → Outcome A
misfit o e = refused (mismatch o e)

-- it is refused
abbrev pub IsRefused : {A : Type 0} → Outcome A → Type 0
IsRefused (taken a) = ⊥
IsRefused (refused c) = ⊤

-- it is taken, with such a datum
abbrev pub IsTaken : {A : Type 0} → Outcome A → (A → Type 0) → Type 0
IsTaken (taken a) p = p a
IsTaken (refused c) p = ⊥

-- another datum in place of the one taken
abbrev pub outcome_map : {A B : Type 0} → (A → B) → Outcome A → Outcome B
outcome_map f (taken a) = taken (f a)
outcome_map f (refused c) = refused c

-- the cause of a refusal
abbrev pub refusal_of : {A : Type 0} → Outcome A → Option Cause
refusal_of (taken a) = None
refusal_of (refused c) = Some c

-- the cause of the refusal, or of a refusal of the datum
abbrev pub refusal_then : {A : Type 0} → Outcome A → (A → Option Cause) → Option Cause
refusal_then (taken a) next = next a
refusal_then (refused c) next = Some c

-- the error is out of memory, or says why it is refused
abbrev pub IsRefusal : {A : Type 0} → Outcome A → Error → Type 0
IsRefusal o e = cause e ≢ out_of_memory → o ≡ refused (cause e)

-- the result is the outcome, or out of memory in place of a refusal: what is taken takes no memory
abbrev pub Answers : {A B : Type 0} → (B → A) → Outcome A → Result B Error → Type 0
Answers see o r = MatchResult r (λ b. o ≡ taken (see b)) (λ e. IsRefused o × IsRefusal o e)
