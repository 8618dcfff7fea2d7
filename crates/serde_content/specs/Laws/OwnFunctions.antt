-- What is read in place of a value that is left out equals it, where a function of the user's says when it is.
use Rattle.std.specs.Prelude.{◌≡◌, ℕ, Bool, true, false, not, List, refl, string_bytes}
use Rattle.std.specs.Bool.{beq}
use Rattle.std.specs.Str.{bytes_eq}
use Rattle.std.specs.String.{string_eq}
use Rattle.std.specs.declared.alloc.Global.{Global}
use Rattle.std.specs.declared.string.String.{String}
use Rattle.std.proofs.Common.{subst, sym}

-- a boolean that is left out where it is false
pub false_alike : (x : Bool) → not x ≡ true → (y : Bool) → y ≡ false → beq x y ≡ true
false_alike true skipped y absent = absurd (cc skipped)
false_alike false skipped y absent = rw absent refl

-- a boolean that is left out where it is true
pub true_alike : (x : Bool) → x ≡ true → (y : Bool) → y ≡ true → beq x y ≡ true
true_alike true skipped y absent = rw absent refl
true_alike false skipped y absent = absurd (cc skipped)

-- what is left out where it equals one value
pub equal_alike : {A : Type 0} (eq : A → A → Bool) (x one : A) → eq x one ≡ true → (y : A) → y ≡ one → eq x y ≡ true
equal_alike eq x one skipped y absent = subst (λ z. eq x z ≡ true) (sym absent) skipped

-- a text that is left out where it is this one
pub text_alike : (x : String Global) (one : List ℕ) → bytes_eq (string_bytes x) one ≡ true → (y : String Global) → string_bytes y ≡ one → string_eq x y ≡ true
text_alike x one skipped y absent = subst (λ z. bytes_eq (string_bytes x) z ≡ true) (sym absent) skipped
