-- From the answer of a call in a partial tree to what the trait says of it.
use Rattle.std.proofs.Common.{◌≡◌, ℕ, Bool, Option, Some, None, Ok, Err, refl, sym}
use Rattle.std.proofs.Common.{ap}
use Rattle.std.proofs.Common.{subst, ◌∙◌, IsSome, option_and_then, option_map, inl, inr}
use Rattle.std.proofs.Common.{Result}
use Rattle.content_ser.specs.Calls.Event.{Event}
use Rattle.content_ser.specs.Grammar.Token.{Token, token_of}
use Rattle.content_ser.specs.Serializers.Step.{Answer, Takes}
use Rattle.content_build.specs.Builder.{seen_at, refuses}
use Rattle.content_build.specs.Inner.Tape.{partial_tree}
use Rattle.content_build.specs.Inner.Taken.{AnswersStep, IsAnswerTo, IsErrorOf, TakesStep, TakesToken}
use Rattle.content_build.specs.Limit.{step_within, step}
use Rattle.content_build.specs.Partial.{Partial}
use Rattle.content_build.specs.declared.refusal.Refusal.{Refusal}
use Rattle.content_build.specs.declared.tape.Tape.{Tape}
use Rattle.content_build.proofs.Limits.{limited}

takes_call : (limit : Option ℕ) (old : Option Partial) (h : Bool) (c : Event) (r : Answer) (new : Option Partial) → (o : Option Partial) → option_and_then (λ s. step_within limit s (token_of c)) old ≡ o
    → AnswersStep old o r new → Takes step refuses (seen_at limit old h) c r (seen_at limit new h)
takes_call limit None h c (Ok u) new o e m = absurd m
takes_call limit None h c (Err x) None o e m = record { readable = refl; when_failed = λ f. (refl, m.0); otherwise = λ f. cc }
takes_call limit None h c (Err x) (Some n) o e m = absurd (let x : Some n ≡ None = m.1 in cc)
takes_call limit (Some s) h c (Ok u) new None e m = absurd m
takes_call limit (Some s) h c (Ok u) None (Some n) e m = absurd (let x : None ≡ Some n = m in cc)
takes_call limit (Some s) h c (Ok u) (Some k) (Some n) e m = record { readable = refl; when_failed = λ f. cc; otherwise = λ f. (refl, ap (option_map (limited limit)) (e ∙ sym m)) }
takes_call limit (Some s) h c (Err x) None None e m = record { readable = refl; when_failed = λ f. cc; otherwise = λ f. (refl, inl (ap (option_map (limited limit)) e, m.0)) }
takes_call limit (Some s) h c (Err x) (Some k) None e m = absurd (let y : Some k ≡ None = m.1 in cc)
takes_call limit (Some s) h c (Err x) None (Some n) e m =
    record { readable = refl; when_failed = λ f. cc; otherwise = λ f. (refl, inr (subst IsSome (sym (ap (option_map (limited limit)) e)) refl, m.0, m.0)) }
takes_call limit (Some s) h c (Err x) (Some k) (Some n) e m = absurd (let y : Some k ≡ None = m.1 in cc)

-- with its error, what a call comes to is what it answers
with_error : (old next : Option Partial) (taken : Result (Unit {0}) Refusal) (r : Answer) (new : Option Partial) → TakesStep old next taken new → IsAnswerTo taken r → AnswersStep old next r new
with_error None next (Ok u) r new m a = absurd m
with_error None next (Err e) (Ok v) new m a = absurd a
with_error None next (Err e) (Err x) new m a = (subst (λ k. IsErrorOf k x) m.0 a, m.1)
with_error (Some s) None (Ok u) r new m a = absurd m
with_error (Some s) None (Err e) (Ok v) new m a = absurd a
with_error (Some s) None (Err e) (Err x) new m a = (subst (λ k. IsErrorOf k x) m.0 a, m.1)
with_error (Some s) (Some n) (Ok u) (Ok v) new m a = m
with_error (Some s) (Some n) (Ok u) (Err x) new m a = absurd a
with_error (Some s) (Some n) (Err e) (Ok v) new m a = absurd a
with_error (Some s) (Some n) (Err e) (Err x) new m a = (subst (λ k. IsErrorOf k x) m.0 a, m.1)

-- what the tape takes is a step of the builder
pub taken : (old new : Tape) (readable : Bool) (c : Event) (call : Token) (t : Result (Unit {0}) Refusal) (r : Answer) → call ≡ token_of c
    → TakesToken old.limit (partial_tree old) call t (partial_tree new) → new.limit ≡ old.limit → IsAnswerTo t r
    → Takes step refuses (seen_at old.limit (partial_tree old) readable) c r (seen_at new.limit (partial_tree new) readable)
taken old new readable c call t r is h kept a =
    let next = option_and_then (λ s. step_within old.limit s (token_of c)) (partial_tree old) in
    subst (λ l. Takes step refuses (seen_at old.limit (partial_tree old) readable) c r (seen_at l (partial_tree new) readable)) (sym kept)
    (takes_call old.limit (partial_tree old) readable c r (partial_tree new) next refl
    (with_error (partial_tree old) next t r (partial_tree new) (subst (λ k. TakesToken old.limit (partial_tree old) k t (partial_tree new)) is h) a))
