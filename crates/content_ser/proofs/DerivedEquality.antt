-- A derived `==` of an enum decides whether two values have the same image, given this for each variant.
use Rattle.std.proofs.Common.{◌≡◌, ℕ, ◌+◌, Bool, false, List, [], ◌∷◌, ap, sym, ◌∙◌}
use native.Mathlib.Omega.{arith}
use mathlib.Core.Logic.{inl, inr}
use denote.Struct.Field.{Field}
use denote.Struct.Values.{Values}
use denote.Enum.Declared.{Record, Choice}
use denote.Enum.Compared.{Each, by}
use Rattle.std.specs.Bool.{Decides}

-- the same test of another fact
pub along : {A C : Type 0} (b : Bool) → Decides b A → (A → C) → (C → A) → Decides b C
along b d make back = (λ e. make (d.0 e), λ e. d.1 (back e))

-- the place of a variant
abbrev pub place : (Fss : List (List Field)) → Choice Fss → ℕ
place [] c = absurd c
place (Fs ∷ Fss) (inl x) = 0
place (Fs ∷ Fss) (inr c) = 1 + place Fss c

-- for each variant a test of its fields, which decides whether the images are the same
abbrev pub Tests : {E : Type 0} (Fss : List (List Field)) → (Choice Fss → E) → Type 0
Tests [] image = Unit {0}
Tests (Fs ∷ Fss) image =
    ((test : Values Fs → Values Fs → Bool) × ((x y : Values Fs) → Decides (test x y) (image (inl x) ≡ image (inl y)))) × Tests Fss (λ c. image (inr c))

-- the tests alone
abbrev pub each : {E : Type 0} (Fss : List (List Field)) (image : Choice Fss → E) → Tests Fss image → Each Bool Fss
each [] image tests = tt
each (Fs ∷ Fss) image tests = (tests.0.0, each Fss (λ c. image (inr c)) tests.1)

-- variants in other places have other images
apart : {E : Type 0} (rank : E → ℕ) (n k l : ℕ) (x y : E) → rank x ≡ n + k → rank y ≡ n + l → (k ≡ l → ⊥) → x ≡ y → ⊥
apart rank n k l x y at_x at_y differ e = let same = ap rank e in differ (omega arith)

decided : {E : Type 0} (rank : E → ℕ) (n : ℕ) (Fss : List (List Field)) (image : Choice Fss → E) (tests : Tests Fss image) →
    ((c : Choice Fss) → rank (image c) ≡ n + place Fss c) → (c d : Choice Fss) → Decides (by false false Fss (each Fss image tests) c d) (image c ≡ image d)
decided rank n [] image tests ranked c d = absurd c
decided rank n (Fs ∷ Fss) image tests ranked (inl x) (inl y) = tests.0.1 x y
decided rank n (Fs ∷ Fss) image tests ranked (inl x) (inr d) =
    (λ e. absurd (cc e), λ e. absurd (apart rank n 0 (1 + place Fss d) (image (inl x)) (image (inr d)) (ranked (inl x)) (ranked (inr d)) (λ h. omega arith) e))
decided rank n (Fs ∷ Fss) image tests ranked (inr c) (inl y) =
    (λ e. absurd (cc e), λ e. absurd (apart rank n (1 + place Fss c) 0 (image (inr c)) (image (inl y)) (ranked (inr c)) (ranked (inl y)) (λ h. omega arith) e))
decided rank n (Fs ∷ Fss) image tests ranked (inr c) (inr d) =
    decided rank (n + 1) Fss (λ k. image (inr k)) tests.1 (λ k. let at = ranked (inr k) in omega arith) c d

-- the same of the values themselves
pub decides : (N : Record) {E : Type 0} (view : N.D → E) (rank : E → ℕ) →
    ((a : N.D) → rank (view a) ≡ place N.parts (N.as_values a)) → (tests : Tests N.parts (λ c. view (N.make c))) →
    (a b : N.D) → Decides (by false false N.parts (each N.parts (λ c. view (N.make c)) tests) (N.as_values a) (N.as_values b)) (view a ≡ view b)
decides N {E} view rank ranked tests a b =
    let image : Choice N.parts → E = λ c. view (N.make c) in
    let placed : (c : Choice N.parts) → rank (image c) ≡ place N.parts c = λ c. ranked (N.make c) ∙ ap (place N.parts) (N.beta c) in
    along _ (decided rank 0 N.parts image tests (λ c. let at = placed c in omega arith) (N.as_values a) (N.as_values b))
    (λ e. sym (ap view (N.eta a)) ∙ e ∙ ap view (N.eta b)) (λ e. ap view (N.eta a) ∙ e ∙ sym (ap view (N.eta b)))
