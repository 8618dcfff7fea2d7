-- What contracts see of a `Builder`.
use Rattle.std.specs.Prelude.{◌≡◌, Bool, true, false, List, [], ◌∷◌, ◌++◌, length, Option, Some}
use Rattle.std.specs.Prelude.{None, ℕ, Result, Ok, Err, IsErrAnd}
use Rattle.content_tree.specs.Errors.Kind.{kind_of, IsOutOfMemory}
use Rattle.content_tree.specs.Values.Value.{tree_of}
use Rattle.content_tree.specs.declared.error.Error.{Error}
use Rattle.content_tree.specs.declared.error.ErrorKind.TheVariants.{Misplaced, Failed, Unfinished}
use Rattle.content_tree.specs.declared.value.NamedValue.{NamedValue}
use Rattle.content_ser.specs.Calls.Event.{Event}
use Rattle.content_ser.specs.Serializers.Step.{Seen, RefusalRule, Answer, Takes, after_failure}
use Rattle.content_ser.specs.Serializers.Step.{out_of_place, no_memory}
use Rattle.content_ser.specs.Grammar.Depth.{IsLimit, IsViableWithin, SpellsWithin}
use Rattle.content_build.specs.Answers.{IsRefusalWithin}
use Rattle.content_build.specs.Limit.{Limited, fresh_within, run, step}
use Rattle.content_build.specs.Partial.{Partial, due, between, done, fresh}
use Rattle.content_build.specs.Inner.Tape.{partial_tree}
use Rattle.content_build.specs.declared.builder.Builder.{Builder}

-- whether there is no partial tree
abbrev pub has_failed : Option Partial → Bool
has_failed None = true
has_failed (Some s) = false

-- the partial tree, or the fresh one where there is none
abbrev pub or_fresh : Option Partial → Partial
or_fresh None = fresh
or_fresh (Some s) = s

-- a serialiser at this partial tree within this limit, or failed
abbrev pub seen_at : Option ℕ → Option Partial → Bool → Seen Limited
seen_at limit s readable =
    record { state = record { limit = limit; tree = or_fresh s }; failed = has_failed s; readable = readable }

-- the builder as a serialiser
unfoldable pub seen_of : Builder → Seen Limited
seen_of b = seen_at b.tape.limit (partial_tree b.tape) b.human_readable

-- with which error a builder refuses a call; nothing is said of what it keeps
abbrev pub refuses : RefusalRule Limited
refuses after_failure old e new = kind_of e ≡ Failed
refuses out_of_place old e new = kind_of e ≡ Misplaced
refuses no_memory old e new = IsOutOfMemory e

-- it took these calls within this limit, and refused none
pub record HasTaken (limit : Option ℕ) (calls : List Event) (b : Seen Limited) : Type 0 where
  pub allowed : IsLimit limit
  pub standing : b.failed ≡ false
  pub reached : run (fresh_within limit) calls ≡ Some b.state

-- a call after these is taken, and some whole list begins so; or each list that begins with these and it is refused at it
abbrev pub AnswersNext : Option ℕ → List Event → Event → Answer → Seen Limited → Type 0
AnswersNext limit calls c (Ok u) new =
    HasTaken limit (calls ++ c ∷ []) new × IsViableWithin limit (calls ++ c ∷ [])
AnswersNext limit calls c (Err e) new =
    (rest : List Event) → IsRefusalWithin limit (calls ++ c ∷ rest) (length calls) (kind_of e)

-- the tree that these calls spell, or their refusal at the end
abbrev pub AnswersEnd : Option ℕ → List Event → Result NamedValue Error → Type 0
AnswersEnd limit calls (Ok v) = SpellsWithin limit calls (tree_of v)
AnswersEnd limit calls (Err e) = IsRefusalWithin limit calls (length calls) (kind_of e)

-- what the step of the partial tree within its limit says of a call is exact
abbrev pub StepsAreExact : Type 0
StepsAreExact = (old new : Seen Limited) (c : Event) (r : Answer)
    → Takes step refuses old c r new
    → (limit : Option ℕ) (calls : List Event)
    → HasTaken limit calls old
    → AnswersNext limit calls c r new

-- what finishing answers where the builder has failed or not, at this state
abbrev pub Finishes : Bool → Partial → Result NamedValue Error → Type 0
Finishes true s r = IsErrAnd r (λ e. kind_of e ≡ Failed)
Finishes false (due ps) r = IsErrAnd r (λ e. kind_of e ≡ Unfinished)
Finishes false (between c ps) r = IsErrAnd r (λ e. kind_of e ≡ Unfinished)
Finishes false (done t) (Ok v) = tree_of v ≡ t
Finishes false (done t) (Err e) = IsOutOfMemory e
