-- What is sent as a text where the serialiser is human readable, and else otherwise.
use Rattle.std.proofs.Common.{◌≡◌, inl, inr, Bool, true, false, ℕ, List, Some, Ok, Err, IsErrAnd, refl, sym, subst}
use Rattle.content_ser.specs.Calls.Event as event
use Rattle.content_tree.specs.Errors.Kind.{IsOutOfMemory}
use Rattle.content_ser.specs.Serializers.Step.{Seen, Step, RefusalRule, Answer, Takes, Collects}
use Rattle.content_ser.specs.Scripts.Addresses.{text_or}
use Rattle.content_ser.specs.Scripts.Script.{Script}
use Rattle.content_ser.specs.Scripts.Sends.{AnswersScript, AnswersInVain, Sends}
use Rattle.content_ser.specs.Scripts.Standard.{only}
use Rattle.content_ser.proofs.Sending.{takes_only, ran_out}

-- scripts that are the same for this serialiser
same_script : {S : Type 0} {step : Step S} {refuses : RefusalRule S} {old new : Seen S} {a b : Bool → Script} {r : Answer}
    → a old.readable ≡ b old.readable → Sends step refuses old a r new → Sends step refuses old b r new
same_script {S} {step} {refuses} {old} {new} {a} {b} {r} same s = record {
  readable = s.readable;
  when_failed = λ h. let vain = s.when_failed h in (vain.0, subst (λ sc. AnswersInVain refuses old.state sc r new.state) same vain.1);
  otherwise = λ h. subst (λ sc. AnswersScript step refuses old.state sc r new.failed new.state) same (s.otherwise h);
}

-- there was no memory to print
not_printed : {S : Type 0} {step : Step S} {refuses : RefusalRule S} {old new : Seen S} {sc : Bool → Script} (r : Answer)
    → IsErrAnd r IsOutOfMemory → new ≡ old → Sends step refuses old sc r new
not_printed (Ok u) oom same = absurd oom
not_printed {step = step} {refuses = refuses} {old = old} {sc = sc} (Err e) oom same = subst (λ s. Sends step refuses old sc (Err e) s) (sym same) (ran_out oom)

-- the text that was printed
printed : {S : Type 0} {step : Step S} {refuses : RefusalRule S} {old new : Seen S} {text : List ℕ} {r : Answer}
    → Collects step refuses old (Some text) r new → Sends step refuses old (only (event.text text)) r new
printed {step = step} {refuses = refuses} {old = old} {new = new} {r = r} (inl (bytes, same, took)) =
    takes_only (subst (λ t. Takes step refuses old (event.text t) r new) same took)
printed {r = r} (inr (oom, same)) = not_printed r oom same

-- a text, where the serialiser is human readable
pub text_sent : {S : Type 0} {step : Step S} {refuses : RefusalRule S} {old new : Seen S} {text : List ℕ} {other : Bool → Script} {r : Answer}
    → old.readable ≡ true → Collects step refuses old (Some text) r new → Sends step refuses old (text_or text other) r new
text_sent {text = text} {other = other} people c = same_script {b = text_or text other} (rw people refl) (printed c)

-- what is sent otherwise
pub other_sent : {S : Type 0} {step : Step S} {refuses : RefusalRule S} {old new : Seen S} {text : List ℕ} {other : Bool → Script} {r : Answer}
    → old.readable ≡ false → Sends step refuses old other r new → Sends step refuses old (text_or text other) r new
other_sent {text = text} {other = other} people s = same_script {a = other} {b = text_or text other} (rw people refl) s
