-- An answer that is written whole.
use Rattle.std.proofs.Common.{◌≡◌, ◌<◌, ℕ, Bool, true, false, List, Option, Some, None}
use Rattle.std.proofs.Common.{Result, Ok, Err, IfOk, IfSome, refl, arith, sym, subst}
use Rattle.std.specs.String.{string_bytes}
use Rattle.content_cli.specs.Answers.{Earns, Tells}
use Rattle.content_lines.specs.Told as told
use Rattle.content_lines.specs.declared.answer.Answer.{Answer}
use Rattle.content_lines.specs.declared.failure.Failure.{Failure}
use Rattle.content_lines.specs.declared.failure.Failure.TheVariants.{OutOfMemory, ReadFailed}

told_answer : (input : List ℕ) (answer : Result Answer Failure) (status : ℕ) (old new : Option (List ℕ)) → IfOk answer (λ a. Earns input (string_bytes a.text) a.status) → told.Tells answer status old new → status < 3 → Tells input status old new
told_answer input (Ok a) status old new earned written low = (string_bytes a.text, subst (Earns input (string_bytes a.text)) (sym written.0) earned, written.1)
told_answer input (Err ReadFailed) status old new earned written low = let four = written.0 in absurd (omega (arith, four, low))
told_answer input (Err OutOfMemory) status old new earned written low = let three = written.0 in absurd (omega (arith, three, low))

earned_by : (input : List ℕ) (answer : Result Answer Failure) → IfOk answer (λ a. IfSome (Some input) (λ i. Earns i (string_bytes a.text) a.status)) → IfOk answer (λ a. Earns input (string_bytes a.text) a.status)
earned_by input (Ok a) h = h
earned_by input (Err e) h = tt

-- what is earned is told, where the writer has not failed and there is an answer
pub told_line : (left : Option (List ℕ)) (answer : Result Answer Failure) (status : ℕ) (failed : Bool) (old new : Option (List ℕ)) → IfOk answer (λ a. IfSome left (λ input. Earns input (string_bytes a.text) a.status))
    → (failed ≡ false → told.Tells answer status old new) → (failed ≡ true → status ≡ 5) → status < 3 → IfSome left (λ input. Tells input status old new)
told_line None answer status failed old new earned written five low = tt
told_line (Some input) answer status true old new earned written five low = let over = five refl in absurd (omega (arith, over, low))
told_line (Some input) answer status false old new earned written five low = told_answer input answer status old new (earned_by input answer earned) (written refl) low
