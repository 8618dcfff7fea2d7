-- Scripts in turn, calls made in two goes, and a stop before the first call.
use Rattle.std.proofs.Common.{◌≡◌, inl, inr, refl, ap, ℕ, List, [], ◌∷◌, ◌++◌, Option, Some, None, Err}
use Rattle.std.specs.Option.{option_and_then}
use Rattle.content_tree.specs.Errors.Kind.{kind_of, IsCustomOrMemory}
use Rattle.content_tree.specs.declared.error.Error.{Error}
use Rattle.content_tree.specs.declared.error.ErrorKind.{ErrorKind}
use Rattle.content_tree.specs.declared.error.ErrorKind.TheVariants as kind
use Rattle.content_ser.specs.Calls.Event.{Event}
use Rattle.content_ser.specs.Scripts.Script.{Script, done, stop_with, call_then, and_then}
use Rattle.content_ser.specs.Scripts.Sends.{Sends}
use Rattle.content_ser.specs.Serializers.Step.{Seen, Step, RefusalRule, run}
use Rattle.serde_content.specs.Skips.{unsent_script}

-- three scripts in turn are one, however they are put together
pub and_then-assoc : (a b c : Script) → and_then (and_then a b) c ≡ and_then a (and_then b c)
and_then-assoc done b c = refl
and_then-assoc (stop_with message) b c = refl
and_then-assoc (call_then e a) b c = ap (call_then e) (and_then-assoc a b c)

-- a run over two lists is one over the first and then one over the second
pub run-append : {S : Type 0} (step : Step S) (s : S) (a b : List Event) → run step s (a ++ b) ≡ option_and_then (λ n. run step n b) (run step s a)
run-append step s [] b = refl
run-append {S} step s (e ∷ a) b = next (step s e) (λ n. run-append step n a b)
  where
    next : (o : Option S) → ((n : S) → run step n (a ++ b) ≡ option_and_then (λ m. run step m b) (run step n a)) → option_and_then (λ n. run step n (a ++ b)) o ≡ option_and_then (λ m. run step m b) (option_and_then (λ n. run step n a) o)
    next None ih = refl
    next (Some n) ih = ih n

refused_by : {S : Type 0} {step : Step S} {refuses : RefusalRule S} {old : Seen S} (text : List ℕ) (x : Error) (k : ErrorKind) → kind_of x ≡ k → IsCustomOrMemory text k
    → Sends step refuses old (unsent_script text) (Err x) old
refused_by text x (kind.Custom own) is told = record {
  readable = refl;
  when_failed = λ h. (h, (inl (own, is, told), refl));
  otherwise = λ h. inr (h, inl (text, refl, (own, is, told), refl));
}
refused_by text x kind.OutOfMemory is told = record {
  readable = refl;
  when_failed = λ h. (h, (inr is, refl));
  otherwise = λ h. inr (h, inr (is, ([], [], refl, refl)));
}
refused_by text x (kind.Unexpected found expected) is told = absurd told
refused_by text x kind.Misplaced is told = absurd told
refused_by text x kind.Failed is told = absurd told
refused_by text x kind.Unfinished is told = absurd told

-- a stop before the first call, of this text or out of memory
pub unsent_refused : {S : Type 0} {step : Step S} {refuses : RefusalRule S} {old : Seen S} (text : List ℕ) (x : Error) → IsCustomOrMemory text (kind_of x)
    → Sends step refuses old (unsent_script text) (Err x) old
unsent_refused text x told = refused_by text x (kind_of x) refl told
