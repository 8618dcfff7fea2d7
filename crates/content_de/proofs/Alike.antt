-- The parts of an array, read one after another.
use Rattle.std.proofs.Common.{◌≡◌, ℕ, zero, suc, ◌+◌, ◌-◌, ◌<◌, ◌≤◌, List, [], ◌∷◌, Option, None, Some, Result, Err}
use Rattle.std.proofs.Common.{IsErrAnd, ◌≢◌, ap, subst, sym, ◌∙◌, arith}
use Rattle.std.proofs.lemmas.Result.{err_from_is_err_and}
use Rattle.content_tree.specs.Errors.Cause.{Cause, out_of_memory}
use Rattle.content_tree.specs.declared.error.Error.{Error}
use Rattle.content_de.specs.Accesses.Seq.{SeqLeft, first_item, after_item}
use Rattle.content_de.specs.Outcomes.{cause}
use Rattle.content_de.specs.Reads.Arrays.{parts_alike, PartsAlike}
use Rattle.content_de.specs.Reads.Read.{Refusal, Gives, Reads, first_of}
use Rattle.content_de.specs.Reads.Tuples.{part_refusal, PartGives, end_of_parts}

-- one of those that are left, and the others
one_of : (n i : ℕ) → i < n → n - i ≡ suc (n - (i + 1))
one_of n i below = omega arith

-- the refusal of what is left is that of the next part, and then of the others
next_of : (refusal : Refusal) (n i : ℕ) (s : SeqLeft) → i < n
    → parts_alike n i (n - i) refusal s
    ≡ first_of (part_refusal n i refusal (first_item s)) (parts_alike n (i + 1) (n - (i + 1)) refusal (after_item s))
unfolding parts_alike
next_of refusal n i s below = ap (λ k. parts_alike n i k refusal s) (one_of n i below)

-- a part that isn't refused
pub part_read : (refusal : Refusal) (n i : ℕ) (s : SeqLeft) → i < n → part_refusal n i refusal (first_item s) ≡ None
    → parts_alike n i (n - i) refusal s ≡ parts_alike n (i + 1) (n - (i + 1)) refusal (after_item s)
part_read refusal n i s below free =
    next_of refusal n i s below ∙ ap (λ o. first_of o (parts_alike n (i + 1) (n - (i + 1)) refusal (after_item s))) free

-- a part that is refused
pub part_refused : (refusal : Refusal) (n i : ℕ) (s : SeqLeft) (c : Cause) → i < n → part_refusal n i refusal (first_item s) ≡ Some c
    → parts_alike n i (n - i) refusal s ≡ Some c
part_refused refusal n i s c below refused =
    next_of refusal n i s below ∙ ap (λ o. first_of o (parts_alike n (i + 1) (n - (i + 1)) refusal (after_item s))) refused

-- no part is left
pub parts_read : (refusal : Refusal) (n i : ℕ) (s : SeqLeft) → n ≤ i → parts_alike n i (n - i) refusal s ≡ end_of_parts n s
unfolding parts_alike
parts_read refusal n i s past =
    let none : n - i ≡ zero = omega arith in
    ap (λ k. parts_alike n i k refusal s) none

-- a value for the next part, and then for the others
pub part_given : {A : Type 0} (gives : Gives A) (n i : ℕ) (s : SeqLeft) (x : A) (rest : List A) → i < n
    → PartGives gives (first_item s) x → PartsAlike gives (n - (i + 1)) rest (after_item s) → PartsAlike gives (n - i) (x ∷ rest) s
unfolding PartsAlike
part_given gives n i s x rest below one others =
    subst (λ k. PartsAlike gives k (x ∷ rest) s) (sym (one_of n i below)) (one, others)

-- no value, where no part is left
pub none_given : {A : Type 0} (gives : Gives A) (n i : ℕ) (s : SeqLeft) → n ≤ i → PartsAlike gives (n - i) [] s
unfolding PartsAlike
none_given gives n i s past =
    let none : n - i ≡ zero = omega arith in
    subst (λ k. PartsAlike gives k [] s) (sym none) tt

-- before the first part all are left
pub all_left : (n : ℕ) → n - 0 ≡ n
all_left n = omega arith

-- the exit of a `?`
pub refused_exit : {A : Type 0} (refusal : Option Cause) (gives : A → Type 0) (r : Result A Error) (x : Error) → IsErrAnd r (λ y. y ≡ x)
    → (cause x ≢ out_of_memory → refusal ≡ Some (cause x)) → Reads refusal gives r
refused_exit refusal gives r x is h =
    let p = err_from_is_err_and r is in
    rw (p.1, p.2) h
