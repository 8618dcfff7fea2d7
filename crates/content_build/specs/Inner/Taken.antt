-- What a call answers in a partial tree.
use Rattle.std.specs.Prelude.{◌≡◌, ⊤, ℕ, List, Option, Some, None, Result, Ok, Err, option_and_then}
use Rattle.content_tree.specs.Errors.Kind.{kind_of, IsOutOfMemory}
use Rattle.content_tree.specs.declared.error.Error.{Error}
use Rattle.content_tree.specs.declared.error.ErrorKind.TheVariants.{Misplaced, Failed}
use Rattle.content_ser.specs.Grammar.Token.{Token}
use Rattle.content_ser.specs.Serializers.Step.{Answer}
use Rattle.content_build.specs.Limit.{step_within}
use Rattle.content_build.specs.Partial.{Partial}
use Rattle.content_build.specs.Inner.Sound.{Stands}
use Rattle.content_build.specs.declared.frame.Frame.{Frame}
use Rattle.content_build.specs.declared.frame.Opening.{Opening}
use Rattle.content_build.specs.declared.refusal.Refusal.{Refusal}
use Rattle.content_build.specs.declared.refusal.Refusal.TheVariants as refusal

-- with which error a call is refused
abbrev pub IsErrorOf : Refusal → Error → Type 0
IsErrorOf refusal.Misplaced e = kind_of e ≡ Misplaced
IsErrorOf refusal.Failed e = kind_of e ≡ Failed
IsErrorOf refusal.NoMemory e = IsOutOfMemory e

-- what a call answers that leads to this, and what the tape represents then
abbrev pub TakenTo : Option Partial → Result (Unit {0}) Refusal → List Frame → List Opening → Type 0
TakenTo None (Ok u) es hs = ⊥
TakenTo None (Err e) es hs = e ≡ refusal.Misplaced
TakenTo (Some next) (Ok u) es hs = Stands es hs next
TakenTo (Some next) (Err e) es hs = e ≡ refusal.NoMemory

-- the answer of a call in this state that leads to next, and the state after it
abbrev pub AnswersStep : Option Partial → Option Partial → Answer → Option Partial → Type 0
AnswersStep None next (Ok u) new = ⊥
AnswersStep None next (Err e) new = (kind_of e ≡ Failed) × (new ≡ None)
AnswersStep (Some s) None (Ok u) new = ⊥
AnswersStep (Some s) None (Err e) new = (kind_of e ≡ Misplaced) × (new ≡ None)
AnswersStep (Some s) (Some next) (Ok u) new = new ≡ Some next
AnswersStep (Some s) (Some next) (Err e) new = IsOutOfMemory e × (new ≡ None)

-- what a call in this state that leads to next comes to, before its error is made, and the state after it
abbrev pub TakesStep : Option Partial → Option Partial → Result (Unit {0}) Refusal → Option Partial → Type 0
TakesStep None next (Ok u) new = ⊥
TakesStep None next (Err e) new = (e ≡ refusal.Failed) × (new ≡ None)
TakesStep (Some s) None (Ok u) new = ⊥
TakesStep (Some s) None (Err e) new = (e ≡ refusal.Misplaced) × (new ≡ None)
TakesStep (Some s) (Some next) (Ok u) new = new ≡ Some next
TakesStep (Some s) (Some next) (Err e) new = (e ≡ refusal.NoMemory) × (new ≡ None)

-- the answer with the error of a refusal
abbrev pub IsAnswerTo : Result (Unit {0}) Refusal → Answer → Type 0
IsAnswerTo (Ok u) (Ok v) = ⊤
IsAnswerTo (Ok u) (Err e) = ⊥
IsAnswerTo (Err refused) (Ok v) = ⊥
IsAnswerTo (Err refused) (Err e) = IsErrorOf refused e

-- what a call of this token comes to within this limit, and the state after it
abbrev pub TakesToken : Option ℕ → Option Partial → Token → Result (Unit {0}) Refusal → Option Partial → Type 0
TakesToken limit old call r new = TakesStep old (option_and_then (λ s. step_within limit s call) old) r new
