-- Parts one after another, so many or up to a break.
use Rattle.std.proofs.Common.{◌≡◌, ℕ, suc, zero, ◌<◌, ◌≤◌, true, false, List, [], ◌∷◌, ◌++◌, length, drop, Ok, Err, refl, sym, ap, subst, ◌∙◌, append_assoc, append-nil, arith, length-append, inl, inr}
use Rattle.std.proofs.lemmas.Bool.{eqb-true}
use Rattle.content_cbor.specs.Codes.{Each}
use Rattle.content_cbor.specs.declared.decode_error.Fault.TheVariants as fault
use Rattle.content_cbor.specs.declared.stop.Refusal.{Refusal}
use Rattle.content_cbor.specs.Inner.Steps.{◌>>=◌, Reader}
use Rattle.content_cbor.specs.Inner.Reading.{at_break, each_at, until_at}
use Rattle.content_cbor.proofs.Read.Steps.{ok_is, bind_err, bind_ok, chosen, same_left}
use Rattle.content_cbor.proofs.Read.Took.{IsBytes, IsBytes-rest, Took, Sound, Complete, regrouped}
use Rattle.content_cbor.proofs.Read.Begun.{Before, Opens, Placed, PlacedBehind, at_start, behind_a, instead, opens_behind}
use Rattle.content_cbor.proofs.Read.Shrinks.{Advances, shorter}

-- parts up to a break
abbrev pub Ends : {A : Type 0} → (A → List ℕ → Type 0) → List A → List ℕ → Type 0
Ends Part xs bs = (body : List ℕ) × Each Part xs body × (bs ≡ body ++ (255 ∷ []))

-- no part begins as a break does
abbrev pub Begins : {A : Type 0} → (A → List ℕ → Type 0) → Type 0
Begins {A} Part = (x : A) (bs rest : List ℕ) → Part x bs → (0 < length bs) × (at_break (bs ++ rest) ≡ false)

pub each_sound : {A : Type 0} (Part : A → List ℕ → Type 0) (read : Reader A) → Sound Part read → (k : ℕ) (bs : List ℕ) (xs : List A) (rest : List ℕ)
    → IsBytes bs → each_at read k bs ≡ Ok (xs, rest) → Took (Each Part xs) bs rest × (length xs ≡ k)
unfolding each_at
each_sound Part read sound zero bs xs rest fits e =
    subst (λ y. Took (Each Part y.0) bs y.1 × (length y.0 ≡ 0)) (ok_is ([], bs) (xs, rest) e)
    (record { front = []; part = refl; split = refl; fits = fits }, refl)
each_sound {A} Part read sound (suc k) bs xs rest fits e =
    let a = bind_ok (read bs) (λ x. each_at read k x.1 >>= λ ys. Ok (x.0 ∷ ys.0, ys.1)) (xs, rest) e in
    let b = bind_ok (each_at read k a.0.1) (λ ys. Ok (a.0.0 ∷ ys.0, ys.1)) (xs, rest) a.2 in
    let first = sound bs a.0.0 a.0.1 fits a.1 in
    let others = each_sound Part read sound k a.0.1 b.0.0 b.0.1 first.fits b.1 in
    subst (λ (y : List A × List ℕ). Took (Each Part y.0) bs y.1 × (length y.0 ≡ suc k)) (ok_is (a.0.0 ∷ b.0.0, b.0.1) (xs, rest) b.2) (
      record {
        front = first.front ++ others.0.front;
        part = (first.front, others.0.front, first.part, others.0.part, refl);
        split = regrouped bs first.front a.0.1 others.0.front b.0.1 first.split others.0.split;
        fits = others.0.fits;
      },
      ap suc others.1,
    )

pub each_complete : {A : Type 0} (Part : A → List ℕ → Type 0) (read : Reader A) → Complete Part read → (xs : List A) (body rest : List ℕ)
    → Each Part xs body → each_at read (length xs) (body ++ rest) ≡ Ok (xs, rest)
unfolding each_at
each_complete Part read complete [] body rest is = rw is refl
each_complete Part read complete (x ∷ xs) body rest is =
    let front = is.0 in
    let back = is.1 in
    let split : body ++ rest ≡ front ++ (back ++ rest) = ap (λ t. t ++ rest) is.4 ∙ append_assoc front back rest in
    ap (each_at read (suc (length xs))) split
    ∙ rw (complete x front (back ++ rest) is.2, each_complete Part read complete xs back rest is.3) refl

pub broken : (bs : List ℕ) → at_break bs ≡ true → bs ≡ 255 ∷ drop 1 bs
broken [] e = absurd cc
broken (b ∷ bs) e = ap (λ n. n ∷ bs) (eqb-true b 255 e)

pub fits_behind : (bs : List ℕ) → IsBytes bs → IsBytes (drop 1 bs)
fits_behind [] h = h
fits_behind (b ∷ bs) h = IsBytes-rest b bs h

pub until_sound : {A : Type 0} (Part : A → List ℕ → Type 0) (read : Reader A) → Sound Part read → (k : ℕ) → Sound (Ends Part) (until_at read k)
unfolding until_at
until_sound Part read sound zero bs xs rest fits e = absurd cc
until_sound {A} Part read sound (suc k) bs xs rest fits e =
    elim (chosen (at_break bs) (Ok ([], drop 1 bs)) (read bs >>= λ x. until_at read k x.1 >>= λ ys. Ok (x.0 ∷ ys.0, ys.1)) (Ok (xs, rest)) e) [
      | inl w ↦ subst (λ (y : List A × List ℕ). Took (Ends Part y.0) bs y.1) (ok_is ([], drop 1 bs) (xs, rest) w.1)
          (record { front = 255 ∷ []; part = ([], refl, refl); split = broken bs w.0; fits = fits_behind bs fits })
      | inr w ↦
          let a = bind_ok (read bs) (λ x. until_at read k x.1 >>= λ ys. Ok (x.0 ∷ ys.0, ys.1)) (xs, rest) w.1 in
          let b = bind_ok (until_at read k a.0.1) (λ ys. Ok (a.0.0 ∷ ys.0, ys.1)) (xs, rest) a.2 in
          let first = sound bs a.0.0 a.0.1 fits a.1 in
          let others = until_sound Part read sound k a.0.1 b.0.0 b.0.1 first.fits b.1 in
          subst (λ (y : List A × List ℕ). Took (Ends Part y.0) bs y.1) (ok_is (a.0.0 ∷ b.0.0, b.0.1) (xs, rest) b.2)
          (record {
            front = first.front ++ others.front;
            part = (
              first.front ++ others.part.0,
              (first.front, others.part.0, first.part, others.part.1, refl),
              ap (λ t. first.front ++ t) others.part.2 ∙ sym (append_assoc first.front others.part.0 (255 ∷ [])),
            );
            split = regrouped bs first.front a.0.1 others.front b.0.1 first.split others.split;
            fits = others.fits;
          })
    ]

pub until_complete : {A : Type 0} (Part : A → List ℕ → Type 0) (read : Reader A) → Complete Part read → Begins Part
    → (xs : List A) (body rest : List ℕ) (k : ℕ) → Each Part xs body → length body < k
    → until_at read k (body ++ (255 ∷ rest)) ≡ Ok (xs, rest)
unfolding until_at
until_complete Part read complete begins xs body rest zero is enough = absurd (omega (arith, enough))
until_complete Part read complete begins [] body rest (suc k) is enough = rw is refl
until_complete Part read complete begins (x ∷ xs) body rest (suc k) is enough =
    let front = is.0 in
    let back = is.1 in
    let more = back ++ (255 ∷ rest) in
    let split : body ++ (255 ∷ rest) ≡ front ++ more = ap (λ t. t ++ (255 ∷ rest)) is.4 ∙ append_assoc front back (255 ∷ rest) in
    let starts = begins x front more is.2 in
    let shorter : length back < k = omega (arith, enough, starts.0, length-append front back, ap length is.4) in
    ap (until_at read (suc k)) split
    ∙ rw (starts.1, complete x front more is.2, until_complete Part read complete begins xs back rest k is.3 shorter) refl

-- ---- where they are refused

-- so many of them
abbrev pub Full : {A : Type 0} → (A → List ℕ → Type 0) → ℕ → List A → List ℕ → Type 0
Full Part k xs body = (length xs ≡ k) × Each Part xs body

pub copies : {A : Type 0} (Part : A → List ℕ → Type 0) (x : A) (b : List ℕ) → Part x b → (k : ℕ) → Opens (Full Part k) []
copies Part x b is zero = ([], [], (refl, refl))
copies Part x b is (suc k) = let c = copies Part x b is k in (x ∷ c.0, b ++ c.1, (ap suc c.2.0, (b, c.1, is, c.2.1, refl)))

pub each_placed : {A : Type 0} (Part : A → List ℕ → Type 0) (read : Reader A) → Sound Part read → Placed Part read → (x : A) (b : List ℕ) → Part x b
    → (k : ℕ) → PlacedBehind (Full Part k) (each_at read k)
unfolding each_at
each_placed Part read sound placed y c some zero bs e fits is = absurd cc
each_placed Part read sound placed y c some (suc k) bs e fits is =
    elim (bind_err (read bs) (λ x. each_at read k x.1 >>= λ xs. Ok (x.0 ∷ xs.0, xs.1)) e is) [
      | inl w ↦ elim (placed bs e fits w) [
        | inl at ↦ at_start (Opens (Full Part (suc k))) bs e.left (copies Part y c some (suc k)) at
        | inr b ↦ instead (Opens Part) (Opens (Full Part (suc k))) bs e.left (λ front o.
            let others = copies Part o.0 (front ++ o.1) o.2 k in
            (o.0 ∷ others.0, o.1 ++ others.1, (ap suc others.2.0, (front ++ o.1, others.1, o.2, others.2.1, sym (append_assoc front o.1 others.1))))) b
      ]
      | inr a ↦ elim (bind_err (each_at read k a.0.1) (λ xs. Ok (a.0.0 ∷ xs.0, xs.1)) e a.2) [
        | inl w ↦
            let first = sound bs a.0.0 a.0.1 fits a.1 in
            behind_a (Opens (Full Part k)) (Opens (Full Part (suc k))) first.front a.0.1 bs e.left first.split (λ front o.
            opens_behind (Full Part (suc k)) first.front front o.1 (a.0.0 ∷ o.0) (ap suc o.2.0, (first.front, front ++ o.1, first.part, o.2.1, refl)))
            (each_placed Part read sound placed y c some k a.0.1 e first.fits w)
        | inr v ↦ absurd cc
      ]
    ]

pub until_placed : {A : Type 0} (Part : A → List ℕ → Type 0) (read : Reader A) → Sound Part read → Placed Part read → Advances read
    → (k : ℕ) (bs : List ℕ) (e : Refusal) → length bs ≤ k → IsBytes bs → until_at read k bs ≡ Err e → Before (Opens (Ends Part)) bs e.left
unfolding until_at
until_placed {A} Part read sound placed advances zero bs e room fits is =
    let ended = same_left {A = List A × List ℕ} (record { «fault» = fault.Ended; left = 0 }) e is in
    at_start (Opens (Ends Part)) bs e.left ([], 255 ∷ [], ([], refl, refl)) (omega (arith, room, ended))
until_placed {A} Part read sound placed advances (suc k) bs e room fits is =
    elim (chosen (at_break bs) (Ok ([], drop 1 bs)) (read bs >>= λ x. until_at read k x.1 >>= λ xs. Ok (x.0 ∷ xs.0, xs.1)) (Err e) is) [
      | inl w ↦ absurd cc
      | inr v ↦ elim (bind_err (read bs) (λ x. until_at read k x.1 >>= λ xs. Ok (x.0 ∷ xs.0, xs.1)) e v.1) [
        | inl w ↦ elim (placed bs e fits w) [
          | inl at ↦ at_start (Opens (Ends Part)) bs e.left ([], 255 ∷ [], ([], refl, refl)) at
          | inr b ↦ instead (Opens Part) (Opens (Ends Part)) bs e.left (λ front o.
              (o.0 ∷ [], o.1 ++ (255 ∷ []), (front ++ o.1, (front ++ o.1, [], o.2, refl, sym (append-nil (front ++ o.1))), sym (append_assoc front o.1 (255 ∷ []))))) b
        ]
        | inr a ↦ elim (bind_err (until_at read k a.0.1) (λ xs. Ok (a.0.0 ∷ xs.0, xs.1)) e a.2) [
          | inl w ↦
              let first = sound bs a.0.0 a.0.1 fits a.1 in
              let less = shorter (length bs) (read bs) a.0 a.1 (advances bs) in
              behind_a (Opens (Ends Part)) (Opens (Ends Part)) first.front a.0.1 bs e.left first.split (λ front o.
              opens_behind (Ends Part) first.front front o.1 (a.0.0 ∷ o.0)
              (first.front ++ o.2.0, (first.front, o.2.0, first.part, o.2.1, refl), ap (λ t. first.front ++ t) o.2.2 ∙ sym (append_assoc first.front o.2.0 (255 ∷ []))))
              (until_placed Part read sound placed advances k a.0.1 e (omega (arith, room, less)) first.fits w)
          | inr u ↦ absurd cc
        ]
      ]
    ]
