-- Texts byte by byte.
use Rattle.std.proofs.Common.{◌≡◌, ℕ, zero, suc, ◌+◌, ◌-◌, ◌*◌, ◌/◌, ◌%◌, ◌<◌, ◌≤◌, Bool, true, false, cond, eqb, ltb, leb, ◌&&◌, List, [], ◌∷◌, ◌++◌, length, Option, Some, None, Ok, Err, ◌⊎◌, refl, inl, inr, sym, ap, subst, ◌∙◌, arith, append_assoc, append-nil, length-append}
use Rattle.std.specs.Char.{IsScalar, encode_utf8}
use Rattle.std.specs.Str.{IsUtf8, all_scalars, encode_utf8_all, continuation_len}
use Rattle.std.specs.Str.Lossy.{second_byte_min, second_byte_max}
use Rattle.std.proofs.lemmas.Bool.{cases_lt, and_parts, lt-ltb, le-ltb, le-leb, ne_eqb, ltb-true, ltb-false, leb-true, eqb-true, eqb-false}
use Rattle.std.proofs.Math.Utf8.{scalar, scalar_cases}
use Rattle.std.proofs.lemmas.Str.{IsUtf8-append, IsUtf8-encode, IsUtf8-nil, encode_ascii}
use Rattle.content_cbor.specs.declared.decode_error.Fault.TheVariants as fault
use Rattle.content_cbor.specs.declared.stop.Refusal.{Refusal}
use Rattle.content_cbor.specs.Inner.Steps.{◌>>=◌, or_refused}
use Rattle.content_cbor.specs.declared.utf8.Lack.{Lack}
use Rattle.content_cbor.specs.Inner.Texts.{after_byte, after_first, tail, text_at, within}
use Rattle.content_cbor.proofs.Read.Steps.{ok_is, bind_err, bind_ok, chosen, not_there, same_left, there}

-- ---- the bytes of a character

two : (c : ℕ) → 128 ≤ c → c < 2048 → encode_utf8 c ≡ (192 + c / 64) ∷ (128 + c % 64) ∷ []
unfolding encode_utf8
two c l h = rw (le-ltb c 128 l, lt-ltb c 2048 h) refl

three : (c : ℕ) → 2048 ≤ c → c < 65536 → encode_utf8 c ≡ (224 + c / 4096) ∷ (128 + (c / 64) % 64) ∷ (128 + c % 64) ∷ []
unfolding encode_utf8
three c l h = rw (le-ltb c 128 (omega (arith, l)), le-ltb c 2048 l, lt-ltb c 65536 h) refl

four : (c : ℕ) → 65536 ≤ c → encode_utf8 c ≡ (240 + c / 262144) ∷ (128 + (c / 4096) % 64) ∷ (128 + (c / 64) % 64) ∷ (128 + c % 64) ∷ []
unfolding encode_utf8
four c l = rw (le-ltb c 128 (omega (arith, l)), le-ltb c 2048 (omega (arith, l)), le-ltb c 65536 l) refl

low_is : (c : ℕ) → c < 55296 → IsScalar c
low_is c h = rw (lt-ltb c 55296 h) refl

high_is : (c : ℕ) → 57344 ≤ c → c < 1114112 → IsScalar c
high_is c l h = rw (le-ltb c 55296 (omega (arith, l)), le-leb 57344 c l, lt-ltb c 1114112 h) refl

least_said : (b x : ℕ) → second_byte_min b ≤ x → (128 ≤ x) × (b ≡ 224 → 160 ≤ x) × (b ≡ 240 → 144 ≤ x)
least_said b x le = by (eqb b 224) (eqb b 240) refl refl le
  where
    by : (p q : Bool) → eqb b 224 ≡ p → eqb b 240 ≡ q → cond p 160 (cond q 144 128) ≤ x → (128 ≤ x) × (b ≡ 224 → 160 ≤ x) × (b ≡ 240 → 144 ≤ x)
    by true q e f h = (omega (arith, h), λ _. h, λ g. omega (arith, h))
    by false true e f h = (omega (arith, h), λ g. absurd (eqb-false b 224 e g), λ _. h)
    by false false e f h = (h, λ g. absurd (eqb-false b 224 e g), λ g. absurd (eqb-false b 240 f g))

most_said : (b x : ℕ) → x ≤ second_byte_max b → (x ≤ 191) × (b ≡ 237 → x ≤ 159) × (b ≡ 244 → x ≤ 143)
most_said b x le = by (eqb b 237) (eqb b 244) refl refl le
  where
    by : (p q : Bool) → eqb b 237 ≡ p → eqb b 244 ≡ q → x ≤ cond p 159 (cond q 143 191) → (x ≤ 191) × (b ≡ 237 → x ≤ 159) × (b ≡ 244 → x ≤ 143)
    by true q e f h = (omega (arith, h), λ _. h, λ g. let other = eqb-true b 237 e in absurd (omega (arith, g, other)))
    by false true e f h = (omega (arith, h), λ g. absurd (eqb-false b 237 e g), λ _. h)
    by false false e f h = (h, λ g. absurd (eqb-false b 237 e g), λ g. absurd (eqb-false b 244 f g))

char_one : (b : ℕ) → b < 128 → IsUtf8 (b ∷ [])
char_one b h = subst IsUtf8 (encode_ascii b h) (IsUtf8-encode b (low_is b (omega (arith, h))))

char_two : (b x : ℕ) → 194 ≤ b → b < 224 → 128 ≤ x → x ≤ 191 → IsUtf8 (b ∷ x ∷ [])
char_two b x l h m n =
    let c : ℕ = (b - 192) * 64 + (x - 128) in
    let first : 192 + c / 64 ≡ b = omega (arith, l, h, m, n) in
    let second : 128 + c % 64 ≡ x = omega (arith, l, h, m, n) in
    subst IsUtf8 (two c (omega (arith, l)) (omega (arith, h, n)) ∙ (λ i. first i ∷ second i ∷ [])) (IsUtf8-encode c (low_is c (omega (arith, h, n))))

char_three : (b x y : ℕ) → 224 ≤ b → b < 240 → second_byte_min b ≤ x → x ≤ second_byte_max b → 128 ≤ y → y ≤ 191 → IsUtf8 (b ∷ x ∷ y ∷ [])
char_three b x y l h m n v w =
    let low = least_said b x m in
    let high = most_said b x n in
    let c : ℕ = (b - 224) * 4096 + ((x - 128) * 64 + (y - 128)) in
    let first : 224 + c / 4096 ≡ b = omega (arith, l, h, low.0, high.0, v, w) in
    let second : 128 + (c / 64) % 64 ≡ x = omega (arith, l, h, low.0, high.0, v, w) in
    let third : 128 + c % 64 ≡ y = omega (arith, l, h, low.0, high.0, v, w) in
    let long : 2048 ≤ c = elim (cases_lt 224 b) [
      | inl more ↦ omega (arith, more)
      | inr less ↦ let is : b ≡ 224 = omega (arith, less, l) in omega (arith, low.1 is)
    ] in
    let is : IsScalar c = elim (cases_lt b 237) [
      | inl less ↦ low_is c (omega (arith, less, high.0, w))
      | inr more ↦ elim (cases_lt 237 b) [
        | inl past ↦ high_is c (omega (arith, past)) (omega (arith, h, high.0, w))
        | inr less ↦ let at : b ≡ 237 = omega (arith, less, more) in low_is c (omega (arith, at, high.1 at, w))
      ]
    ] in
    subst IsUtf8 (three c long (omega (arith, h, high.0, w)) ∙ (λ i. first i ∷ second i ∷ third i ∷ [])) (IsUtf8-encode c is)

char_four : (b x y z : ℕ) → 240 ≤ b → b ≤ 244 → second_byte_min b ≤ x → x ≤ second_byte_max b → 128 ≤ y → y ≤ 191 → 128 ≤ z → z ≤ 191 → IsUtf8 (b ∷ x ∷ y ∷ z ∷ [])
char_four b x y z l h m n v w p q =
    let low = least_said b x m in
    let high = most_said b x n in
    let c : ℕ = (b - 240) * 262144 + ((x - 128) * 4096 + ((y - 128) * 64 + (z - 128))) in
    let first : 240 + c / 262144 ≡ b = omega (arith, l, h, low.0, high.0, v, w, p, q) in
    let second : 128 + (c / 4096) % 64 ≡ x = omega (arith, l, h, low.0, high.0, v, w, p, q) in
    let third : 128 + (c / 64) % 64 ≡ y = omega (arith, l, h, low.0, high.0, v, w, p, q) in
    let fourth : 128 + c % 64 ≡ z = omega (arith, l, h, low.0, high.0, v, w, p, q) in
    let long : 65536 ≤ c = elim (cases_lt 240 b) [
      | inl more ↦ omega (arith, more)
      | inr less ↦ let is : b ≡ 240 = omega (arith, less, l) in omega (arith, low.2 is)
    ] in
    let short : c < 1114112 = elim (cases_lt b 244) [
      | inl less ↦ omega (arith, less, high.0, w, q)
      | inr more ↦ let is : b ≡ 244 = omega (arith, more, h) in omega (arith, is, high.2 is, w, q)
    ] in
    subst IsUtf8 (four c long ∙ (λ i. first i ∷ second i ∷ third i ∷ fourth i ∷ [])) (IsUtf8-encode c (high_is c (omega (arith, long)) short))

least_from : (b x : ℕ) → 128 ≤ x → (b ≡ 224 → 160 ≤ x) → (b ≡ 240 → 144 ≤ x) → second_byte_min b ≤ x
least_from b x h one other = by (eqb b 224) (eqb b 240) refl refl
  where
    by : (p q : Bool) → eqb b 224 ≡ p → eqb b 240 ≡ q → cond p 160 (cond q 144 128) ≤ x
    by true q e f = one (eqb-true b 224 e)
    by false true e f = other (eqb-true b 240 f)
    by false false e f = h

most_from : (b x : ℕ) → x ≤ 191 → (b ≡ 237 → x ≤ 159) → (b ≡ 244 → x ≤ 143) → x ≤ second_byte_max b
most_from b x h one other = by (eqb b 237) (eqb b 244) refl refl
  where
    by : (p q : Bool) → eqb b 237 ≡ p → eqb b 244 ≡ q → x ≤ cond p 159 (cond q 143 191)
    by true q e f = one (eqb-true b 237 e)
    by false true e f = other (eqb-true b 244 f)
    by false false e f = h

-- ---- what a character lacks, and what fills it

abbrev Fills : ℕ → ℕ → ℕ → List ℕ → Type 0
Fills zero least most t = t ≡ []
Fills (suc k) least most [] = ⊥
Fills (suc k) least most (b ∷ t) = (least ≤ b) × (b ≤ most) × Fills k 0x80 0xBF t

record Begun (pre : List ℕ) (l : Lack) : Type 0 where
  whole : (t : List ℕ) → Fills l.count l.least l.most t → IsUtf8 (pre ++ t)
  some : l.least ≤ l.most

abbrev present : {A : Type 0} → A → Option A
present x = Some x

some_is : {A : Type 0} (x y : A) → present x ≡ present y → x ≡ y
some_is x y e = cc

range_said : (lo hi b : ℕ) → (leb lo b && leb b hi) ≡ true → (lo ≤ b) × (b ≤ hi)
range_said lo hi b e = let p = and_parts (leb lo b) (leb b hi) e in (leb-true lo b p.0, leb-true b hi p.1)

least_below_most : (b : ℕ) → second_byte_min b ≤ second_byte_max b
least_below_most b = by (eqb b 224) (eqb b 240) (eqb b 237) (eqb b 244) refl refl refl refl
  where
    by : (p q r s : Bool) → eqb b 224 ≡ p → eqb b 240 ≡ q → eqb b 237 ≡ r → eqb b 244 ≡ s → cond p 160 (cond q 144 128) ≤ cond r 159 (cond s 143 191)
    by true q true s e f g h = let one = eqb-true b 224 e in let other = eqb-true b 237 g in absurd (omega (arith, one, other))
    by true q false true e f g h = let one = eqb-true b 224 e in let other = eqb-true b 244 h in absurd (omega (arith, one, other))
    by true q false false e f g h = omega arith
    by false true true s e f g h = omega arith
    by false true false true e f g h = let one = eqb-true b 240 f in let other = eqb-true b 244 h in absurd (omega (arith, one, other))
    by false true false false e f g h = omega arith
    by false false true s e f g h = omega arith
    by false false false true e f g h = omega arith
    by false false false false e f g h = omega arith

rest_fills : (b : ℕ) (t : List ℕ) → 194 ≤ b → b ≤ 244 → Fills (continuation_len b) (second_byte_min b) (second_byte_max b) t → IsUtf8 (b ∷ t)
rest_fills b t l h fills = elim (cases_lt b 224) [
  | inl less ↦
      let count : continuation_len b ≡ 1 = rw (le-ltb b 128 (omega (arith, l)), lt-ltb b 224 less) refl in
      one t less (subst (λ k. Fills k (second_byte_min b) (second_byte_max b) t) count fills)
  | inr more ↦ elim (cases_lt b 240) [
    | inl less ↦
        let count : continuation_len b ≡ 2 = rw (le-ltb b 128 (omega (arith, l)), le-ltb b 224 more, lt-ltb b 240 less) refl in
        others t more less (subst (λ k. Fills k (second_byte_min b) (second_byte_max b) t) count fills)
    | inr past ↦
        let count : continuation_len b ≡ 3 = rw (le-ltb b 128 (omega (arith, l)), le-ltb b 224 more, le-ltb b 240 past) refl in
        most t past (subst (λ k. Fills k (second_byte_min b) (second_byte_max b) t) count fills)
  ]
]
  where
    one : (t : List ℕ) → b < 224 → Fills 1 (second_byte_min b) (second_byte_max b) t → IsUtf8 (b ∷ t)
    one [] less f = absurd f
    one (x ∷ t) less f = rw f.2 (char_two b x l less (least_said b x f.0).0 (most_said b x f.1).0)

    others : (t : List ℕ) → 224 ≤ b → b < 240 → Fills 2 (second_byte_min b) (second_byte_max b) t → IsUtf8 (b ∷ t)
    others [] more less f = absurd f
    others (x ∷ []) more less f = absurd f.2
    others (x ∷ y ∷ t) more less f = rw f.2.2 (char_three b x y more less f.0 f.1 f.2.0 f.2.1)

    most : (t : List ℕ) → 240 ≤ b → Fills 3 (second_byte_min b) (second_byte_max b) t → IsUtf8 (b ∷ t)
    most [] more f = absurd f
    most (x ∷ []) more f = absurd f.2
    most (x ∷ y ∷ []) more f = absurd f.2.2
    most (x ∷ y ∷ z ∷ t) more f = rw f.2.2.2 (char_four b x y z more h f.0 f.1 f.2.0 f.2.1 f.2.2.0 f.2.2.1)

abbrev wide : ℕ → Lack
wide b = record { count = continuation_len b; least = second_byte_min b; most = second_byte_max b }

begun_first : (b : ℕ) (next : Lack) → after_first b ≡ Some next → Begun (b ∷ []) next
begun_first b next e = elim (chosen (ltb b 128) (Some (tail 0)) (cond (leb 194 b && leb b 244) (Some (wide b)) None) (Some next) e) [
  | inl w ↦ subst (Begun (b ∷ [])) (some_is (tail 0) next w.1) (record {
    whole = λ t f. rw f (char_one b (ltb-true b 128 w.0));
    some = omega arith;
  })
  | inr w ↦ elim (chosen (leb 194 b && leb b 244) (Some (wide b)) None (Some next) w.1) [
    | inl v ↦ let is = range_said 194 244 b v.0 in subst (Begun (b ∷ [])) (some_is (wide b) next v.1) (record {
      whole = λ t f. rest_fills b t is.0 is.1 f;
      some = least_below_most b;
    })
    | inr v ↦ absurd cc
  ]
]

inside : (k least most b : ℕ) → after_byte (record { count = suc k; least = least; most = most }) b ≡ cond (leb least b && leb b most) (Some (tail k)) None
inside k least most b =
    let count : eqb (suc k) 0 ≡ false = ne_eqb (suc k) 0 (λ e. absurd (omega (arith, e))) in
    let left : suc k - 1 ≡ k = omega arith in
    rw (count, left) refl

begun_next : (pre : List ℕ) (l : Lack) (b : ℕ) (next : Lack) → Begun pre l → after_byte l b ≡ Some next → Begun (pre ++ b ∷ []) next
begun_next pre l b next begun e = by l.count refl e
  where
    by : (k : ℕ) → l.count ≡ k → after_byte (record { count = k; least = l.least; most = l.most }) b ≡ Some next → Begun (pre ++ b ∷ []) next
    by zero is e =
        let first = begun_first b next e in
        let front : IsUtf8 pre = subst IsUtf8 (append-nil pre) (begun.whole [] (rw is refl)) in
        record {
          whole = λ t f. subst IsUtf8 (sym (append_assoc pre (b ∷ []) t)) (IsUtf8-append pre (b ∷ t) front (first.whole t f));
          some = first.some;
        }
    by (suc k) is e = elim (chosen (leb l.least b && leb b l.most) (Some (tail k)) None (Some next) (sym (inside k l.least l.most b) ∙ e)) [
      | inl w ↦ let in_range = range_said l.least l.most b w.0 in subst (Begun (pre ++ b ∷ [])) (some_is (tail k) next w.1) (record {
        whole = λ t f. subst IsUtf8 (sym (append_assoc pre (b ∷ []) t)) (begun.whole (b ∷ t) (rw is (in_range.0, in_range.1, f)));
        some = omega arith;
      })
      | inr w ↦ absurd cc
    ]

-- ---- what was read

within_said : (n : ℕ) (o : Option Lack) (next : Lack) → within n o ≡ Some next → (o ≡ Some next) × (next.count ≤ n)
within_said n None next e = absurd cc
within_said n (Some l) next e = elim (chosen (ltb n l.count) None (Some l) (Some next) e) [
  | inl w ↦ absurd cc
  | inr w ↦ (w.1, subst (λ k. k.count ≤ n) (some_is l next w.1) (ltb-false n l.count w.0))
]

sound_from : (l : Lack) (n : ℕ) (bs x rest pre : List ℕ) → Begun pre l → l.count ≤ n → text_at l n bs ≡ Ok (x, rest)
    → (bs ≡ x ++ rest) × (length x ≡ n) × IsUtf8 (pre ++ x)
unfolding text_at
sound_from l zero bs x rest pre begun le e =
    let none : l.count ≡ 0 = omega (arith, le) in
    subst (λ (p : List ℕ × List ℕ). (bs ≡ p.0 ++ p.1) × (length p.0 ≡ 0) × IsUtf8 (pre ++ p.0)) (ok_is ([], bs) (x, rest) e) (refl, refl, begun.whole [] (rw none refl))
sound_from l (suc n) [] x rest pre begun le e = absurd cc
sound_from l (suc n) (b ∷ bs) x rest pre begun le e =
    let a = bind_ok (or_refused fault.NotUtf8 (b ∷ bs) (within n (after_byte l b))) (λ next. text_at next n bs >>= λ y. Ok (b ∷ y.0, y.1)) (x, rest) e in
    let c = bind_ok (text_at a.0 n bs) (λ y. Ok (b ∷ y.0, y.1)) (x, rest) a.2 in
    let next = within_said n (after_byte l b) a.0 (there fault.NotUtf8 (b ∷ bs) (within n (after_byte l b)) a.0 a.1) in
    let later = sound_from a.0 n bs c.0.0 c.0.1 (pre ++ b ∷ []) (begun_next pre l b a.0 begun next.0) next.1 c.1 in
    let whole : IsUtf8 (pre ++ b ∷ c.0.0) = subst IsUtf8 (append_assoc pre (b ∷ []) c.0.0) later.2 in
    subst (λ (p : List ℕ × List ℕ). (b ∷ bs ≡ p.0 ++ p.1) × (length p.0 ≡ suc n) × IsUtf8 (pre ++ p.0)) (ok_is (b ∷ c.0.0, c.0.1) (x, rest) c.2)
    (ap (λ t. b ∷ t) later.0, ap suc later.1, whole)

begun_none : Begun [] (tail 0)
begun_none = record { whole = λ t f. rw f IsUtf8-nil; some = omega arith }

pub text_sound : (n : ℕ) (bs x rest : List ℕ) → text_at (tail 0) n bs ≡ Ok (x, rest) → (bs ≡ x ++ rest) × (length x ≡ n) × IsUtf8 x
text_sound n bs x rest e = sound_from (tail 0) n bs x rest [] begun_none (omega arith) e

-- ---- a text is read

step : (l next : Lack) (n b : ℕ) (bs xs rest : List ℕ) → after_byte l b ≡ Some next → next.count ≤ n → text_at next n bs ≡ Ok (xs, rest)
    → text_at l (suc n) (b ∷ bs) ≡ Ok (b ∷ xs, rest)
unfolding text_at
step l next n b bs xs rest is le read =
    let fits : within n (after_byte l b) ≡ Some next = ap (within n) is ∙ rw (le-ltb n next.count le) refl in
    rw (fits, read) refl

lead : (b k : ℕ) → 194 ≤ b → b ≤ 244 → continuation_len b ≡ k → after_byte (tail 0) b ≡ Some (record { count = k; least = second_byte_min b; most = second_byte_max b })
lead b k l h count = rw (count, le-ltb b 128 (omega (arith, l)), le-leb 194 b l, le-leb b 244 h) refl

later : (k least most b : ℕ) → least ≤ b → b ≤ most → after_byte (record { count = suc k; least = least; most = most }) b ≡ Some (tail k)
later k least most b l h = inside k least most b ∙ rw (le-leb least b l, le-leb b most h) refl

abbrev Reads : List ℕ → List ℕ → Type 0
Reads rest xs = text_at (tail 0) (length xs) (xs ++ rest) ≡ Ok (xs, rest)

reads_two : (a b : ℕ) (xs rest : List ℕ) → 194 ≤ a → a < 224 → second_byte_min a ≤ b → b ≤ second_byte_max a → Reads rest xs → Reads rest (a ∷ b ∷ xs)
reads_two a b xs rest l h m n read =
    let count : continuation_len a ≡ 1 = rw (le-ltb a 128 (omega (arith, l)), lt-ltb a 224 h) refl in
    let least = second_byte_min a in
    let most = second_byte_max a in
    step (tail 0) (record { count = 1; least = least; most = most }) (suc (length xs)) a (b ∷ (xs ++ rest)) (b ∷ xs) rest (lead a 1 l (omega (arith, h)) count) (omega arith)
    (step (record { count = 1; least = least; most = most }) (tail 0) (length xs) b (xs ++ rest) xs rest (later 0 least most b m n) (omega arith) read)

reads_three : (a b d : ℕ) (xs rest : List ℕ) → 224 ≤ a → a < 240 → second_byte_min a ≤ b → b ≤ second_byte_max a → 128 ≤ d → d ≤ 191 → Reads rest xs
    → Reads rest (a ∷ b ∷ d ∷ xs)
reads_three a b d xs rest l h m n v w read =
    let count : continuation_len a ≡ 2 = rw (le-ltb a 128 (omega (arith, l)), le-ltb a 224 l, lt-ltb a 240 h) refl in
    let least = second_byte_min a in
    let most = second_byte_max a in
    step (tail 0) (record { count = 2; least = least; most = most }) (suc (suc (length xs))) a (b ∷ d ∷ (xs ++ rest)) (b ∷ d ∷ xs) rest
    (lead a 2 (omega (arith, l)) (omega (arith, h)) count) (omega arith)
    (step (record { count = 2; least = least; most = most }) (tail 1) (suc (length xs)) b (d ∷ (xs ++ rest)) (d ∷ xs) rest (later 1 least most b m n) (omega arith)
    (step (tail 1) (tail 0) (length xs) d (xs ++ rest) xs rest (later 0 128 191 d v w) (omega arith) read))

reads_four : (a b d e : ℕ) (xs rest : List ℕ) → 240 ≤ a → a ≤ 244 → second_byte_min a ≤ b → b ≤ second_byte_max a → 128 ≤ d → d ≤ 191 → 128 ≤ e → e ≤ 191
    → Reads rest xs → Reads rest (a ∷ b ∷ d ∷ e ∷ xs)
reads_four a b d e xs rest l h m n v w p q read =
    let count : continuation_len a ≡ 3 = rw (le-ltb a 128 (omega (arith, l)), le-ltb a 224 (omega (arith, l)), le-ltb a 240 l) refl in
    let least = second_byte_min a in
    let most = second_byte_max a in
    step (tail 0) (record { count = 3; least = least; most = most }) (suc (suc (suc (length xs)))) a (b ∷ d ∷ e ∷ (xs ++ rest)) (b ∷ d ∷ e ∷ xs) rest
    (lead a 3 (omega (arith, l)) h count) (omega arith)
    (step (record { count = 3; least = least; most = most }) (tail 2) (suc (suc (length xs))) b (d ∷ e ∷ (xs ++ rest)) (d ∷ e ∷ xs) rest (later 2 least most b m n) (omega arith)
    (step (tail 2) (tail 1) (suc (length xs)) d (e ∷ (xs ++ rest)) (e ∷ xs) rest (later 1 128 191 d v w) (omega arith)
    (step (tail 1) (tail 0) (length xs) e (xs ++ rest) xs rest (later 0 128 191 e p q) (omega arith) read)))

reads_char : (c : ℕ) (xs rest : List ℕ) → (c < 55296) ⊎ ((57344 ≤ c) × (c < 1114112)) → Reads rest xs → Reads rest (encode_utf8 c ++ xs)
reads_char c xs rest is read = elim (cases_lt c 128) [
  | inl less ↦ subst (λ t. Reads rest (t ++ xs)) (sym (encode_ascii c less))
      (step (tail 0) (tail 0) (length xs) c (xs ++ rest) xs rest (rw (lt-ltb c 128 less) refl) (omega arith) read)
  | inr one ↦ elim (cases_lt c 2048) [
    | inl less ↦ subst (λ t. Reads rest (t ++ xs)) (sym (two c one less))
        (let a : ℕ = 192 + c / 64 in
        let b : ℕ = 128 + c % 64 in
        reads_two a b xs rest (omega (arith, one)) (omega (arith, less))
        (least_from a b (omega arith) (λ e. absurd (omega (arith, e, less))) (λ e. absurd (omega (arith, e, less))))
        (most_from a b (omega arith) (λ e. absurd (omega (arith, e, less))) (λ e. absurd (omega (arith, e, less)))) read)
    | inr many ↦ elim (cases_lt c 65536) [
      | inl less ↦ subst (λ t. Reads rest (t ++ xs)) (sym (three c many less))
          (let a : ℕ = 224 + c / 4096 in
          let b : ℕ = 128 + (c / 64) % 64 in
          reads_three a b (128 + c % 64) xs rest (omega arith) (omega (arith, less))
          (least_from a b (omega arith) (λ e. omega (arith, e, many)) (λ e. absurd (omega (arith, e, less))))
          (most_from a b (omega arith) (λ e. no_surrogate e is) (λ e. absurd (omega (arith, e, less)))) (omega arith) (omega arith) read)
      | inr most ↦ subst (λ t. Reads rest (t ++ xs)) (sym (four c most))
          (let a : ℕ = 240 + c / 262144 in
          let b : ℕ = 128 + (c / 4096) % 64 in
          reads_four a b (128 + (c / 64) % 64) (128 + c % 64) xs rest (omega arith) (omega (arith, below is))
          (least_from a b (omega arith) (λ e. absurd (omega (arith, e))) (λ e. omega (arith, e, most)))
          (most_from a b (omega arith) (λ e. absurd (omega (arith, e))) (λ e. omega (arith, e, below is))) (omega arith) (omega arith) (omega arith) (omega arith) read)
    ]
  ]
]
  where
    below : (c < 55296) ⊎ ((57344 ≤ c) × (c < 1114112)) → c < 1114112
    below (inl less) = omega (arith, less)
    below (inr w) = w.1

    no_surrogate : 224 + c / 4096 ≡ 237 → (c < 55296) ⊎ ((57344 ≤ c) × (c < 1114112)) → 128 + (c / 64) % 64 ≤ 159
    no_surrogate e (inl less) = omega (arith, e, less)
    no_surrogate e (inr w) = absurd (omega (arith, e, w.0))

complete_from : (cs rest : List ℕ) → all_scalars cs ≡ true → Reads rest (encode_utf8_all cs)
unfolding text_at
complete_from [] rest is = refl
complete_from (c ∷ cs) rest is =
    let each = and_parts (scalar c) (all_scalars cs) is in
    reads_char c (encode_utf8_all cs) rest (scalar_cases c each.0) (complete_from cs rest each.1)

pub text_complete : (x rest : List ℕ) → IsUtf8 x → text_at (tail 0) (length x) (x ++ rest) ≡ Ok (x, rest)
text_complete x rest is = subst (Reads rest) is.1.1 (complete_from is.0 rest is.1.0)

-- ---- what stands before a refusal, and what makes a text of it

abbrev pub spaces : ℕ → List ℕ
spaces zero = []
spaces (suc n) = 32 ∷ spaces n

pub so_many : (n : ℕ) → length (spaces n) ≡ n
so_many zero = refl
so_many (suc n) = ap suc (so_many n)

pub spaces_text : (n : ℕ) → IsUtf8 (spaces n)
spaces_text zero = IsUtf8-nil
spaces_text (suc n) = IsUtf8-append (32 ∷ []) (spaces n) (char_one 32 (omega arith)) (spaces_text n)

abbrev least_of : ℕ → ℕ → List ℕ
least_of zero least = []
least_of (suc k) least = least ∷ least_of k 128

least_fills : (k least most : ℕ) → least ≤ most → Fills k least most (least_of k least)
least_fills zero least most le = refl
least_fills (suc k) least most le = (omega arith, le, least_fills k 128 191 (omega arith))

least_many : (k least : ℕ) → length (least_of k least) ≡ k
least_many zero least = refl
least_many (suc k) least = ap suc (least_many k 128)

finished : (l : Lack) (n : ℕ) (pre : List ℕ) → Begun pre l → l.count ≤ n → (more : List ℕ) × (length more ≡ n) × IsUtf8 (pre ++ more)
finished l n pre begun le =
    let t = least_of l.count l.least in
    let u = spaces (n - l.count) in (
      t ++ u,
      omega (arith, length-append t u, least_many l.count l.least, so_many (n - l.count), le),
      subst IsUtf8 (append_assoc pre t u) (IsUtf8-append (pre ++ t) u (begun.whole t (least_fills l.count l.least l.most begun.some)) (spaces_text (n - l.count))),
    )

abbrev Before : List ℕ → ℕ → List ℕ → ℕ → Type 0
Before pre n bs left = (front : List ℕ) × (more : List ℕ) × (behind : List ℕ) × (bs ≡ front ++ behind) × (length behind ≡ left) × (length (front ++ more) ≡ n) × IsUtf8 (pre ++ (front ++ more))

before_none : (l : Lack) (n : ℕ) (bs pre : List ℕ) (left : ℕ) → Begun pre l → l.count ≤ n → left ≡ length bs → Before pre n bs left
before_none l n bs pre left begun le is = let m = finished l n pre begun le in ([], m.0, bs, refl, sym is, m.1, m.2)

before_more : (n b : ℕ) (bs pre : List ℕ) (left : ℕ) → Before (pre ++ b ∷ []) n bs left → Before pre (suc n) (b ∷ bs) left
before_more n b bs pre left w =
    (b ∷ w.0, w.1, w.2, ap (λ t. b ∷ t) w.3, w.4, ap suc w.5, subst IsUtf8 (append_assoc pre (b ∷ []) (w.0 ++ w.1)) w.6)

placed_from : (l : Lack) (n : ℕ) (bs : List ℕ) (e : Refusal) (pre : List ℕ) → Begun pre l → l.count ≤ n → text_at l n bs ≡ Err e → Before pre n bs e.left
unfolding text_at
placed_from l zero bs e pre begun le is = absurd cc
placed_from l (suc n) [] e pre begun le is =
    before_none l (suc n) [] pre e.left begun le (sym (same_left {A = List ℕ × List ℕ} (record { «fault» = fault.Ended; left = 0 }) e is))
placed_from l (suc n) (b ∷ bs) e pre begun le is =
    elim (bind_err (or_refused fault.NotUtf8 (b ∷ bs) (within n (after_byte l b))) (λ next. text_at next n bs >>= λ y. Ok (b ∷ y.0, y.1)) e is) [
      | inl w ↦ before_none l (suc n) (b ∷ bs) pre e.left begun le (sym (not_there fault.NotUtf8 (b ∷ bs) (within n (after_byte l b)) e w))
      | inr a ↦ elim (bind_err (text_at a.0 n bs) (λ y. Ok (b ∷ y.0, y.1)) e a.2) [
        | inl w ↦
            let next = within_said n (after_byte l b) a.0 (there fault.NotUtf8 (b ∷ bs) (within n (after_byte l b)) a.0 a.1) in
            before_more n b bs pre e.left (placed_from a.0 n bs e (pre ++ b ∷ []) (begun_next pre l b a.0 begun next.0) next.1 w)
        | inr w ↦ absurd cc
      ]
    ]

pub text_placed : (n : ℕ) (bs : List ℕ) (e : Refusal) → text_at (tail 0) n bs ≡ Err e
    → (front more behind : List ℕ) × (bs ≡ front ++ behind) × (length behind ≡ e.left) × (length (front ++ more) ≡ n) × IsUtf8 (front ++ more)
text_placed n bs e is = placed_from (tail 0) n bs e [] begun_none (omega arith) is
