-- What is read is what the rule says.
use Rattle.std.proofs.Common.{◌≡◌, ℕ, suc, zero, ◌+◌, ◌-◌, ◌*◌, ◌<◌, ◌≤◌, ◌⊎◌, inl, inr, Bool, true, false, not, List, [], ◌∷◌, ◌++◌, length, map, take, drop, Result, Ok, Err, Option, Some, None, refl, sym, ap, subst, ◌∙◌, arith, nat_lt, if◌then◌else◌, take-append-drop, get_or, cond, unwrap_or, ℤ}
use Rattle.std.specs.Int.{is_in_range}
use Rattle.std.specs.Int.Digits.{number_from_digits_after}
use Rattle.std.specs.List.{list_all, position_or_len, position}
use Rattle.std.specs.Str.{IsUtf8, is_utf8}
use Rattle.std.proofs.lemmas.Bool.Decides.{eqb_tells}
use Rattle.std.proofs.lemmas.Bool.{cases_lt, le-ltb, lt-ltb}
use Rattle.std.proofs.lemmas.Str.{IsUtf8-from_is_utf8}
use Rattle.std.proofs.lemmas.List.Sums.{fails_before_first}
use Rattle.content_tree.specs.declared.number.Number.{Number}
use Rattle.content_json.specs.declared.decode_error.Fault.{Fault}
use Rattle.content_json.specs.declared.decode_error.Fault.TheVariants as fault
use Rattle.content_json.specs.declared.stop.Refusal.{Refusal}
use Rattle.content_json.specs.Strings.{has_escape}
use Rattle.content_json.specs.Codes.{AreBlanks, begins_with, greatest, hex_value, is_blank, IsInteger, IsRun, IsSize, number_of, signed}
use Rattle.content_json.specs.Inner.Steps.{◌>>=◌, or_refused, refused}
use Rattle.content_json.specs.Inner.Numbers.{begins_digit, begins_float, digits_at, number_at, size_at}
use Rattle.content_json.specs.Inner.Strings.{byte_at, hex_at, run_at, run_length, tail, wrong_at}
use Rattle.content_json.specs.Inner.Reading.{after_blanks, word_at}
use Rattle.content_json.proofs.Runs.{run_le, truth}

-- what a step led to
pub bound : {A B : Type 0} (r : Result A Refusal) (f : A → Result B Refusal) (y : B) → (r >>= f) ≡ Ok y → (x : A) × (r ≡ Ok x) × (f x ≡ Ok y)
bound (Ok x) f y is = (x, refl, is)
bound (Err e) f y is = absurd (cc is)

-- what is read
abbrev pub done : {A : Type 0} → A → Result A Refusal
done x = Ok x

pub ok_is : {A : Type 0} (x y : A) → done x ≡ done y → x ≡ y
ok_is x y e = cc

-- two answers that are the same
pub same_ok : {A B : Type 0} (x y : A) (u v : B) → done {A = A × B} (x, u) ≡ done {A = A × B} (y, v) → (x ≡ y) × (u ≡ v)
same_ok {A} {B} x y u v is = let pair = ok_is {A = A × B} (x, u) (y, v) is in (ap (λ p. p.0) pair, ap (λ p. p.1) pair)

-- ---- bytes

pub blanks_read : (bs : List ℕ) → (front : List ℕ) × AreBlanks front × (bs ≡ front ++ after_blanks bs)
unfolding after_blanks
blanks_read [] = ([], refl, refl)
blanks_read (b ∷ bs) = elim (truth (is_blank b)) [
  | inl pass ↦ let r = blanks_read bs in (b ∷ r.0, rw pass r.1, rw pass (ap (λ l. b ∷ l) r.2))
  | inr miss ↦ ([], refl, rw miss refl)
]

pub byte_read : (f : Fault) (due : ℕ) (bs rest : List ℕ) → byte_at f due bs ≡ Ok rest → bs ≡ due ∷ rest
unfolding byte_at
byte_read f due [] rest is = absurd (cc is)
byte_read f due (b ∷ bs) rest is = elim (eqb_tells b due) [
  | inl w ↦ let e : Ok bs ≡ Ok rest = rw w.0 at is in let same : bs ≡ rest = cc in (λ i. w.1 i ∷ same i)
  | inr w ↦ let e : refused f (b ∷ bs) ≡ Ok rest = rw w.0 at is in absurd (cc e)
]

pub next_read : (due : ℕ) (bs : List ℕ) → begins_with due bs ≡ true → bs ≡ due ∷ drop 1 bs
next_read due [] is = absurd (cc is)
next_read due (b ∷ bs) is = elim (eqb_tells b due) [
  | inl w ↦ ap (λ x. x ∷ bs) w.1
  | inr w ↦ let e : false ≡ true = sym w.0 ∙ is in absurd (cc e)
]

pub word_read : (word bs rest : List ℕ) → word_at word bs ≡ Ok rest → bs ≡ word ++ rest
unfolding word_at
word_read [] bs rest is = let same : bs ≡ rest = cc in same
word_read (w ∷ ws) bs rest is =
    let h = bound (byte_at fault.Unexpected w bs) (λ behind. word_at ws behind) rest is in
    byte_read fault.Unexpected w bs h.0 h.1 ∙ ap (λ l. w ∷ l) (word_read ws h.0 rest h.2)

-- ---- numbers

past : (a b : ℕ) → ((nat_lt a b ≡ true) × (a < b)) ⊎ ((nat_lt a b ≡ false) × (b ≤ a))
past a b = elim (cases_lt a b) [ inl lt ↦ inl (lt-ltb a b lt, lt) | inr le ↦ inr (le-ltb a b le, le) ]

pub digits_read : (most n m : ℕ) (bs rest : List ℕ) → n ≤ most → digits_at most n bs ≡ Ok (m, rest)
    → (front : List ℕ) × (list_all (is_in_range 48 57) front ≡ true) × (m ≡ number_from_digits_after 10 n (map (λ b. b - 48) front)) × (m ≤ most)
    × (begins_digit rest ≡ false) × (bs ≡ front ++ rest)
unfolding digits_at
digits_read most n m [] rest le is =
    let e = same_ok n m [] rest is in
    let same = e.0 in
    let none = e.1 in
    ([], refl, sym same, subst (λ k. k ≤ most) same le, subst (λ r. begins_digit r ≡ false) none refl, none)
digits_read most n m (b ∷ bs) rest le is = elim (truth (is_in_range 48 57 b)) [
  | inl pass ↦
      let one = rw pass at is in
      elim (past most (n * 10 + (b - 48))) [
        | inl w ↦ let two : refused fault.TooWide (b ∷ bs) ≡ Ok (m, rest) = rw w.0 at one in absurd (cc two)
        | inr w ↦
            let two : digits_at most (n * 10 + (b - 48)) bs ≡ Ok (m, rest) = rw w.0 at one in
            let r = digits_read most (n * 10 + (b - 48)) m bs rest w.1 two in
            (b ∷ r.0, rw pass r.1, r.2, r.3, r.4, ap (λ l. b ∷ l) r.5)
      ]
  | inr miss ↦
      let one : Ok (n, b ∷ bs) ≡ Ok (m, rest) = rw miss at is in
      let e = same_ok n m (b ∷ bs) rest one in
      let same = e.0 in
      let none = e.1 in
      ([], refl, sym same, subst (λ k. k ≤ most) same le, subst (λ r. begins_digit r ≡ false) none miss, none)
]

-- digits that were read where one comes next are some
some_digits : (bs front rest : List ℕ) → begins_digit bs ≡ true → begins_digit rest ≡ false → bs ≡ front ++ rest → begins_with 48 bs ≡ false
    → (0 < length front) × (begins_with 48 front ≡ false)
some_digits bs [] rest digit none is nonzero = let e : true ≡ false = sym digit ∙ ap begins_digit is ∙ none in absurd (cc e)
some_digits bs (f ∷ fs) rest digit none is nonzero = (omega arith, ap (begins_with 48) (sym is) ∙ nonzero)

pub size_read : (most n : ℕ) (bs rest : List ℕ) → size_at most bs ≡ Ok (n, rest) → (front : List ℕ) × IsSize n front × (n ≤ most) × (begins_digit rest ≡ false) × (bs ≡ front ++ rest)
unfolding size_at
size_read most n bs rest is = elim (truth (begins_with 48 bs)) [
  | inl is_zero ↦
      let one = rw is_zero at is in
      elim (truth (begins_digit (drop 1 bs))) [
        | inl more ↦ let two : refused fault.LeadingZero (drop 1 bs) ≡ Ok (n, rest) = rw more at one in absurd (cc two)
        | inr alone ↦
            let two : Ok (0, drop 1 bs) ≡ Ok (n, rest) = rw alone at one in
            let e = same_ok 0 n (drop 1 bs) rest two in
            let same = e.0 in
            let left = e.1 in (
              48 ∷ [],
              (refl, sym same, inl refl),
              subst (λ k. k ≤ most) same (omega arith),
              subst (λ r. begins_digit r ≡ false) left alone,
              next_read 48 bs is_zero ∙ ap (λ l. 48 ∷ l) left,
            )
      ]
  | inr other ↦
      let one = rw other at is in
      elim (truth (begins_digit bs)) [
        | inl digit ↦
            let two : digits_at most 0 bs ≡ Ok (n, rest) = rw digit at one in
            let r = digits_read most 0 n bs rest (omega arith) two in
            let some = some_digits bs r.0 rest digit r.4 r.5 other in
            (r.0, (r.1, r.2, inr some), r.3, r.4, r.5)
        | inr none ↦ let two : refused fault.Unexpected bs ≡ Ok (n, rest) = rw none at one in absurd (cc two)
      ]
]

pub integer_read : (is_negative : Bool) (n : ℕ) (digits : List ℕ) → n ≤ greatest is_negative → IsSize n digits → IsInteger (signed is_negative n) (if is_negative then 45 ∷ digits else digits)
integer_read is_negative n digits le size = (is_negative, n, digits, le, size, refl, refl)

pub number_read : (is_negative : Bool) (x : Number) (bs rest : List ℕ) → number_at is_negative bs ≡ Ok (x, rest)
    → (z : ℤ) × (digits : List ℕ) × (x ≡ number_of z) × IsInteger z (if is_negative then 45 ∷ digits else digits) × (bs ≡ digits ++ rest)
unfolding number_at
number_read is_negative x bs rest is =
    let h = bound (size_at (greatest is_negative) bs) (λ s. if begins_float s.1 then refused fault.Float s.1 else Ok (number_of (signed is_negative s.0), s.1)) (x, rest) is in
    let n = h.0.0 in
    let r = size_read (greatest is_negative) n bs h.0.1 h.1 in
    elim (truth (begins_float h.0.1)) [
      | inl float ↦ let e : refused fault.Float h.0.1 ≡ Ok (x, rest) = rw float at h.2 in absurd (cc e)
      | inr whole ↦
          let e : Ok (number_of (signed is_negative n), h.0.1) ≡ Ok (x, rest) = rw whole at h.2 in
          let o = same_ok (number_of (signed is_negative n)) x h.0.1 rest e in
          (signed is_negative n, r.0, sym o.0, integer_read is_negative n r.0 r.2 r.1, r.4 ∙ ap (λ l. r.0 ++ l) o.1)
    ]

-- ---- texts

-- how far a run goes
reach : (o : Option ℕ) (k n i : ℕ) → o ≡ cond (nat_lt k n) (Some k) None → i < unwrap_or o n → i < k
reach o k n i is lt = elim (past k n) [
  | inl w ↦ let e : o ≡ Some k = rw w.0 at is in subst (λ p. i < unwrap_or p n) e lt
  | inr w ↦ let e : o ≡ None = rw w.0 at is in let low : i < n = subst (λ p. i < unwrap_or p n) e lt in omega (arith, low, w.1)
]

run_plain : (bs : List ℕ) (i : ℕ) → i < run_length bs → has_escape (get_or bs i 0) ≡ false
run_plain bs i lt = fails_before_first has_escape bs i 0 (reach (position has_escape bs) (position_or_len has_escape bs) (length bs) i refl lt)

all_before : (bs : List ℕ) (k : ℕ) → ((i : ℕ) → i < k → has_escape (get_or bs i 0) ≡ false) → k ≤ length bs → list_all (λ b. not (has_escape b)) (take k bs) ≡ true
all_before bs zero each le = refl
all_before [] (suc k) each le = absurd (omega (arith, le))
all_before (b ∷ bs) (suc k) each le =
    let here : has_escape b ≡ false = each 0 (omega arith) in
    rw here (all_before bs k (λ i lt. each (suc i) (omega (arith, lt))) (omega (arith, le)))

pub run_read : (bs run rest : List ℕ) → run_at bs ≡ Ok (run, rest) → IsRun run × (bs ≡ run ++ rest)
unfolding run_at
run_read bs run rest is = elim (truth (is_utf8 (take (run_length bs) bs))) [
  | inl pass ↦
      let e : Ok (take (run_length bs) bs, drop (run_length bs) bs) ≡ Ok (run, rest) = rw pass at is in
      let o = same_ok (take (run_length bs) bs) run (drop (run_length bs) bs) rest e in
      let front = o.0 in
      let back = o.1 in
      let plain = all_before bs (run_length bs) (run_plain bs) (run_le bs) in (
        (subst IsUtf8 front (IsUtf8-from_is_utf8 (take (run_length bs) bs) pass), subst (λ r. list_all (λ b. not (has_escape b)) r ≡ true) front plain),
        sym (take-append-drop (run_length bs) bs) ∙ (λ i. front i ++ back i),
      )
  | inr miss ↦ let e : Err (wrong_at (tail 0) bs) ≡ Ok (run, rest) = rw miss at is in absurd (cc e)
]

pub hex_read : (d : ℕ) (bs rest : List ℕ) → hex_at bs ≡ Ok (d, rest) → (b : ℕ) × (hex_value b ≡ Some d) × (bs ≡ b ∷ rest)
unfolding hex_at
hex_read d [] rest is = absurd (cc is)
hex_read d (b ∷ bs) rest is =
    let h = bound (or_refused fault.Escape (b ∷ bs) (hex_value b)) (λ x. Ok (x, bs)) (d, rest) is in
    let e : Ok (h.0, bs) ≡ Ok (d, rest) = h.2 in
    let o = same_ok h.0 d bs rest e in
    (b, or_read (b ∷ bs) (hex_value b) h.0 h.1 ∙ ap Some o.0, ap (λ l. b ∷ l) o.1)
  where
    or_read : (left : List ℕ) (o : Option ℕ) (x : ℕ) → or_refused fault.Escape left o ≡ Ok x → o ≡ Some x
    or_read left None x is = absurd (cc is)
    or_read left (Some y) x is = let same : y ≡ x = cc is in ap Some same
