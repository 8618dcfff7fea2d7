-- Where two lists are compared item by item and one ends, their lengths decide.
use Rattle.std.proofs.Common.{◌≡◌, ℕ, zero, suc, ◌<◌, ◌≤◌, List, [], ◌∷◌, length, drop, Ordering}
use Rattle.std.proofs.Common.{Less, Equal, Greater, nat_cmp, refl, sym, ◌∙◌, arith}
use Rattle.std.specs.Ordering.{MatchOrdering}
use Rattle.std.specs.Cmp.{ranked, nat_cmp_is}

-- two successors go as the numbers do
successors : (m n : ℕ) → nat_cmp (suc m) (suc n) ≡ nat_cmp m n
successors m n = sym (nat_cmp_is (suc m) (suc n) (nat_cmp m n) (step (nat_cmp m n) (ranked m n (nat_cmp m n) refl)))
  where
    step : (r : Ordering) → MatchOrdering r (m < n) (m ≡ n) (n < m) → MatchOrdering r (suc m < suc n) (suc m ≡ suc n) (suc n < suc m)
    step Less h = omega arith
    step Equal h = omega arith
    step Greater h = omega arith

-- f puts a proper beginning first: after the common length i, what is left compares as the lengths do
pub at_the_end : {A : Type 0} (f : List A → List A → Ordering) →
    f [] [] ≡ Equal → ((y : A) (ys : List A) → f [] (y ∷ ys) ≡ Less) → ((x : A) (xs : List A) → f (x ∷ xs) [] ≡ Greater) →
    (xs ys : List A) (i : ℕ) → i ≤ length xs → i ≤ length ys → (i < length xs → i < length ys → ⊥) →
    nat_cmp (length xs) (length ys) ≡ f (drop i xs) (drop i ys)
at_the_end f e l g [] [] zero p q r = sym e
at_the_end f e l g [] [] (suc i) p q r = sym e
at_the_end f e l g [] (y ∷ ys) zero p q r = sym (nat_cmp_is 0 (suc (length ys)) Less (omega arith)) ∙ sym (l y ys)
at_the_end f e l g [] (y ∷ ys) (suc i) p q r = absurd (omega arith)
at_the_end f e l g (x ∷ xs) [] zero p q r = sym (nat_cmp_is (suc (length xs)) 0 Greater (omega arith)) ∙ sym (g x xs)
at_the_end f e l g (x ∷ xs) [] (suc i) p q r = absurd (omega arith)
at_the_end f e l g (x ∷ xs) (y ∷ ys) zero p q r = absurd (r (omega arith) (omega arith))
at_the_end f e l g (x ∷ xs) (y ∷ ys) (suc i) p q r =
    successors (length xs) (length ys) ∙ at_the_end f e l g xs ys i (omega arith) (omega arith) (λ a b. r (omega arith) (omega arith))
