-- The size of a signed number.
use Rattle.std.proofs.Common.{◌≡◌, ℕ, ◌-◌, ◌≤◌, ℤ, pos, negsuc, true, false, refl, ap, sym, ◌∙◌, arith}
use Rattle.std.proofs.lemmas.Int.{ints, to_z-of_z}
use lib.Signed.{lt_z}
use mir.Val.{SFits, to_z, of_z}
use mir.Syntax.{w128}
use lib.IntN.{nat_abs}

not_below : (n : ℕ) → lt_z (pos n) (pos 0) ≡ true → ⊥
not_below n h = grind (arith, ints)

not_above : (n : ℕ) → lt_z (negsuc n) (pos 0) ≡ false → ⊥
not_above n h = grind (arith, ints)

one_below : (z : ℤ) → lt_z z (pos 0) ≡ true → 1 ≤ nat_abs z
one_below (pos n) h = absurd (not_below n h)
one_below (negsuc n) h = omega arith

size_below : (z : ℤ) → lt_z z (pos 0) ≡ true → negsuc (nat_abs z - 1) ≡ z
size_below (pos n) h = absurd (not_below n h)
size_below (negsuc n) h = ap negsuc (omega arith)

size_above : (z : ℤ) → lt_z z (pos 0) ≡ false → pos (nat_abs z) ≡ z
size_above (pos n) h = refl
size_above (negsuc n) h = absurd (not_above n h)

-- the same of a number as a test has it
pub one_below_zero : (z : ℤ) → SFits w128 z → lt_z (to_z w128 (of_z w128 z)) (pos 0) ≡ true → 1 ≤ nat_abs z
one_below_zero z fits h = one_below z (ap (λ y. lt_z y (pos 0)) (sym (to_z-of_z w128 z fits)) ∙ h)

pub size_below_zero : (z : ℤ) → SFits w128 z → lt_z (to_z w128 (of_z w128 z)) (pos 0) ≡ true → negsuc (nat_abs z - 1) ≡ z
size_below_zero z fits h = size_below z (ap (λ y. lt_z y (pos 0)) (sym (to_z-of_z w128 z fits)) ∙ h)

pub size_from_zero : (z : ℤ) → SFits w128 z → lt_z (to_z w128 (of_z w128 z)) (pos 0) ≡ false → pos (nat_abs z) ≡ z
size_from_zero z fits h = size_above z (ap (λ y. lt_z y (pos 0)) (sym (to_z-of_z w128 z fits)) ∙ h)
