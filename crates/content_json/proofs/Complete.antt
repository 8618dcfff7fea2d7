-- What the rule says is read: blanks, bytes and numbers.
use Rattle.std.proofs.Common.{◌≡◌, ℕ, ◌+◌, ◌-◌, ◌*◌, ◌<◌, ◌≤◌, ◌⊎◌, inl, inr, Bool, true, false, List, [], ◌∷◌, ◌++◌, map, Ok, refl, sym, ap, subst, ◌∙◌, arith, ◌==◌, ◌||◌}
use Rattle.std.specs.Int.{is_in_range}
use Rattle.std.specs.Int.Digits.{number_from_digits, number_from_digits_after}
use Rattle.std.specs.List.{list_all}
use Rattle.std.proofs.lemmas.Bool.{and_parts, le-ltb, ne_eqb}
use Rattle.std.proofs.lemmas.Bool.Decides.{eqb_tells}
use Rattle.std.proofs.lemmas.Int.Digits.{number_after_ge}
use Rattle.content_json.specs.declared.decode_error.Fault.{Fault}
use Rattle.content_json.specs.declared.decode_error.Fault.TheVariants as fault
use Rattle.content_json.specs.Codes.{ends_value, follows, AreBlanks, greatest, is_blank, IsSize, number_of, signed}
use Rattle.content_json.specs.Inner.Numbers.{begins_digit, begins_float, digits_at, number_at, size_at}
use Rattle.content_json.specs.Inner.Strings.{byte_at}
use Rattle.content_json.specs.Inner.Reading.{after_blanks, word_at}
use Rattle.content_json.proofs.Runs.{truth}
use Rattle.content_json.proofs.SoundTexts.{out_of_range}

-- a byte of a short list
one_of : (b x : ℕ) (others : Bool) → ((b == x) || others) ≡ true → (b ≡ x) ⊎ (others ≡ true)
one_of b x others is = elim (eqb_tells b x) [
  | inl w ↦ inl w.1
  | inr w ↦ let e : others ≡ true = rw w.0 at is in inr e
]

blank_small : (b : ℕ) → is_blank b ≡ true → b ≤ 32
blank_small b is = elim (one_of b 32 _ is) [
  | inl e ↦ omega (arith, e)
  | inr one ↦ elim (one_of b 9 _ one) [
    | inl e ↦ omega (arith, e)
    | inr two ↦ elim (one_of b 10 _ two) [
      | inl e ↦ omega (arith, e)
      | inr three ↦ elim (eqb_tells b 13) [ inl w ↦ omega (arith, w.1) | inr w ↦ let e : false ≡ true = sym w.0 ∙ three in absurd (cc e) ]
    ]
  ]
]

-- what isn't small is no blank
pub no_blank : (b : ℕ) → 32 < b → is_blank b ≡ false
no_blank b past = elim (truth (is_blank b)) [
  | inl pass ↦ let le = blank_small b pass in absurd (omega (arith, le, past))
  | inr miss ↦ miss
]

either : (a b : Bool) → (a || b) ≡ true → (a ≡ true) ⊎ (b ≡ true)
either true b is = inl refl
either false b is = inr is

-- what ends a value is one of these
ending : (b : ℕ) → ends_value b ≡ true → (b ≤ 32) ⊎ ((b ≡ 44) ⊎ ((b ≡ 93) ⊎ (b ≡ 125)))
ending b is = elim (either (is_blank b) _ is) [
  | inl blank ↦ inl (blank_small b blank)
  | inr one ↦ elim (one_of b 44 _ one) [
    | inl e ↦ inr (inl e)
    | inr two ↦ elim (one_of b 93 _ two) [
      | inl e ↦ inr (inr (inl e))
      | inr three ↦ elim (eqb_tells b 125) [ inl w ↦ inr (inr (inr w.1)) | inr w ↦ let e : false ≡ true = sym w.0 ∙ three in absurd (cc e) ]
    ]
  ]
]

-- it goes on with no digit
pub no_digit : (rest : List ℕ) → follows rest ≡ true → begins_digit rest ≡ false
no_digit [] is = refl
no_digit (b ∷ bs) is = out_of_range 48 57 b (λ low high. elim (ending b is) [
  | inl small ↦ absurd (omega (arith, small, low))
  | inr other ↦ elim other [
    | inl e ↦ absurd (omega (arith, e, low))
    | inr more ↦ elim more [ inl e ↦ absurd (omega (arith, e, high)) | inr e ↦ absurd (omega (arith, e, high)) ]
  ]
])

-- nor with a fraction
pub no_float : (rest : List ℕ) → follows rest ≡ true → begins_float rest ≡ false
no_float [] is = refl
no_float (b ∷ bs) is =
    let far = apart b (ending b is) in
    rw (ne_eqb b 46 far.0, ne_eqb b 101 far.1, ne_eqb b 69 far.2) refl
  where
    apart : (c : ℕ) → (c ≤ 32) ⊎ ((c ≡ 44) ⊎ ((c ≡ 93) ⊎ (c ≡ 125))) → (c ≡ 46 → ⊥) × (c ≡ 101 → ⊥) × (c ≡ 69 → ⊥)
    apart c (inl small) = (λ e. omega (arith, e, small), λ e. omega (arith, e, small), λ e. omega (arith, e, small))
    apart c (inr (inl is)) = (λ e. omega (arith, e, is), λ e. omega (arith, e, is), λ e. omega (arith, e, is))
    apart c (inr (inr (inl is))) = (λ e. omega (arith, e, is), λ e. omega (arith, e, is), λ e. omega (arith, e, is))
    apart c (inr (inr (inr is))) = (λ e. omega (arith, e, is), λ e. omega (arith, e, is), λ e. omega (arith, e, is))

-- ---- bytes

pub skip_over : (front rest : List ℕ) → AreBlanks front → after_blanks (front ++ rest) ≡ after_blanks rest
unfolding after_blanks
skip_over [] rest are = refl
skip_over (b ∷ bs) rest are = let h = and_parts (is_blank b) (list_all is_blank bs) are in rw h.0 (skip_over bs rest h.1)

pub skip_none : (b : ℕ) (bs : List ℕ) → is_blank b ≡ false → after_blanks (b ∷ bs) ≡ b ∷ bs
unfolding after_blanks
skip_none b bs miss = rw miss refl

pub all_blanks : (bs : List ℕ) → AreBlanks bs → after_blanks bs ≡ []
unfolding after_blanks
all_blanks [] are = refl
all_blanks (b ∷ bs) are = let h = and_parts (is_blank b) (list_all is_blank bs) are in rw h.0 (all_blanks bs h.1)

-- blanks may come after a value, and then what may
pub follows_blanks : (front rest : List ℕ) → AreBlanks front → follows rest ≡ true → follows (front ++ rest) ≡ true
follows_blanks [] rest are is = is
follows_blanks (b ∷ bs) rest are is = let h = and_parts (is_blank b) (list_all is_blank bs) are in rw h.0 refl

pub same_byte : (n : ℕ) → (n == n) ≡ true
same_byte n = elim (eqb_tells n n) [ inl w ↦ w.0 | inr w ↦ absurd (w.1 refl) ]

pub byte_there : (f : Fault) (due : ℕ) (rest : List ℕ) → byte_at f due (due ∷ rest) ≡ Ok rest
unfolding byte_at
byte_there f due rest = rw (same_byte due) refl

pub word_there : (word rest : List ℕ) → word_at word (word ++ rest) ≡ Ok rest
unfolding word_at
word_there [] rest = refl
word_there (w ∷ ws) rest = rw (byte_there fault.Unexpected w (ws ++ rest)) (word_there ws rest)

-- ---- numbers

pub digits_there : (most n : ℕ) (front rest : List ℕ) → list_all (is_in_range 48 57) front ≡ true → number_from_digits_after 10 n (map (λ b. b - 48) front) ≤ most
    → begins_digit rest ≡ false → digits_at most n (front ++ rest) ≡ Ok (number_from_digits_after 10 n (map (λ b. b - 48) front), rest)
unfolding digits_at
digits_there most n [] [] are room none = refl
digits_there most n [] (b ∷ bs) are room none = rw none refl
digits_there most n (b ∷ fs) rest are room none =
    let h = and_parts (is_in_range 48 57 b) (list_all (is_in_range 48 57) fs) are in
    let grows = number_after_ge 10 (n * 10 + (b - 48)) (map (λ b. b - 48) fs) (omega arith) in
    let fits = le-ltb most (n * 10 + (b - 48)) (omega (arith, grows, room)) in
    rw (h.0, fits) (digits_there most (n * 10 + (b - 48)) fs rest h.1 room none)

pub size_there : (most n : ℕ) (front rest : List ℕ) → IsSize n front → n ≤ most → begins_digit rest ≡ false → size_at most (front ++ rest) ≡ Ok (n, rest)
unfolding size_at
size_there most n [] rest size room none = elim size.2 [
  | inl e ↦ absurd (cc e)
  | inr some ↦ absurd (omega (arith, some.0))
]
size_there most n (f ∷ fs) rest size room none = elim size.2 [
  | inl e ↦
      let first : f ≡ 48 = cc e in
      let alone : fs ≡ [] = cc e in
      let value : n ≡ 0 = size.1 ∙ ap (λ bs. number_from_digits 10 (map (λ b. b - 48) bs)) e in
      rw (first, alone, value, none) refl
  | inr some ↦
      let h = and_parts (is_in_range 48 57 f) (list_all (is_in_range 48 57) fs) size.0 in
      rw (some.1, h.0)
      (digits_there most 0 (f ∷ fs) rest size.0 (subst (λ k. k ≤ most) size.1 room) none ∙ ap (λ k. Ok (k, rest)) (sym size.1))
]

pub number_there : (is_negative : Bool) (n : ℕ) (digits rest : List ℕ) → IsSize n digits → n ≤ greatest is_negative → follows rest ≡ true
    → number_at is_negative (digits ++ rest) ≡ Ok (number_of (signed is_negative n), rest)
unfolding number_at
number_there is_negative n digits rest size room ends =
    rw (size_there (greatest is_negative) n digits rest size room (no_digit rest ends), no_float rest ends) refl
