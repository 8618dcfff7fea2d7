-- Runs of characters, the rest of a text with escapes, and digits.
use Rattle.std.proofs.Common.{◌≡◌, ℕ, ◌+◌, ◌-◌, ◌*◌, ◌<◌, ◌≤◌, ◌⊎◌, inl, inr, Bool, true, false, List, [], ◌∷◌, ◌++◌, length, take, drop, Result, Ok, Err, Option, Some, None, refl, sym, subst, ◌∙◌, arith, position, unwrap_or}
use Rattle.std.specs.Prelude.{encode_utf8}
use Rattle.std.specs.Int.{is_in_range}
use Rattle.std.specs.Str.{IsUtf8, is_utf8}
use Rattle.std.proofs.lemmas.Bool.{le-ltb, lt-ltb}
use Rattle.std.proofs.lemmas.List.Quantifiers.{position-Some}
use Rattle.std.proofs.lemmas.Str.{is_utf8-from_IsUtf8, IsUtf8-from_is_utf8}
use Rattle.content_json.specs.Codes.{begins_with}
use Rattle.content_json.specs.declared.decode_error.Fault.TheVariants as fault
use Rattle.content_json.specs.declared.stop.Refusal.{Refusal}
use Rattle.content_json.specs.Strings.{has_escape}
use Rattle.content_json.specs.Inner.Steps.{refused}
use Rattle.content_json.specs.Inner.Numbers.{digit_at, digits_at}
use Rattle.content_json.specs.Inner.Strings.{escape_at, rest_at, run_at, run_length, tail, wrong_at}
use Rattle.content_json.proofs.Loops.{left_over, nothing_left}

-- a test passes or fails
pub truth : (b : Bool) → (b ≡ true) ⊎ (b ≡ false)
truth true = inl refl
truth false = inr refl

-- ---- runs

within : (o : Option ℕ) (n : ℕ) → ((i : ℕ) → o ≡ Some i → i ≤ n) → unwrap_or o n ≤ n
within None n each = omega arith
within (Some i) n each = each i refl

pub run_le : (bs : List ℕ) → run_length bs ≤ length bs
run_le bs = within (position has_escape bs) (length bs) (λ i is. let first = position-Some has_escape bs i 0 is in omega (arith, first.0))

pub run_good : (bs run behind : List ℕ) → run ≡ take (run_length bs) bs → behind ≡ drop (run_length bs) bs → IsUtf8 run → run_at bs ≡ Ok (run, behind)
unfolding run_at
run_good bs run behind front back good =
    let pass : is_utf8 (take (run_length bs) bs) ≡ true = is_utf8-from_IsUtf8 (take (run_length bs) bs) (subst IsUtf8 front good) in
    rw pass (λ i. Ok (sym front i, sym back i))

pub run_bad : (bs run : List ℕ) → run ≡ take (run_length bs) bs → ¬ (IsUtf8 run) → run_at bs ≡ Err (wrong_at (tail 0) bs)
unfolding run_at
run_bad bs run front bad = elim (truth (is_utf8 (take (run_length bs) bs))) [
  | inl pass ↦ absurd (bad (subst IsUtf8 (sym front) (IsUtf8-from_is_utf8 (take (run_length bs) bs) pass)))
  | inr miss ↦ rw miss refl
]

-- ---- the rest of a text

pub rest_ends : (count i : ℕ) (done bs : List ℕ) (total : Result (List ℕ × List ℕ) Refusal) → i < count → begins_with 34 bs ≡ true
    → rest_at (count - i) done bs ≡ total → total ≡ Ok (done, drop 1 bs)
unfolding rest_at
rest_ends count i done bs total lt quote so_far =
    let one : rest_at (count - i) done bs ≡ Ok (done, drop 1 bs) = rw (left_over count i lt, quote) refl in
    sym so_far ∙ one

pub rest_wrong : (count i : ℕ) (done bs : List ℕ) (total : Result (List ℕ × List ℕ) Refusal) → i < count → begins_with 34 bs ≡ false → begins_with 92 bs ≡ false
    → rest_at (count - i) done bs ≡ total → total ≡ refused fault.Control bs
unfolding rest_at
rest_wrong count i done bs total lt quote escape so_far =
    let one : rest_at (count - i) done bs ≡ refused fault.Control bs = rw (left_over count i lt, quote, escape) refl in
    sym so_far ∙ one

pub rest_escape_fails : (count i : ℕ) (done bs : List ℕ) (r : Refusal) (total : Result (List ℕ × List ℕ) Refusal) → i < count → begins_with 34 bs ≡ false → begins_with 92 bs ≡ true
    → escape_at (drop 1 bs) ≡ Err r → rest_at (count - i) done bs ≡ total → total ≡ Err r
unfolding rest_at
rest_escape_fails count i done bs r total lt quote escape none so_far =
    let one : rest_at (count - i) done bs ≡ Err r = rw (left_over count i lt, quote, escape, none) refl in
    sym so_far ∙ one

pub rest_run_fails : (count i c : ℕ) (done bs after : List ℕ) (r : Refusal) (total : Result (List ℕ × List ℕ) Refusal) → i < count → begins_with 34 bs ≡ false → begins_with 92 bs ≡ true
    → escape_at (drop 1 bs) ≡ Ok (c, after) → run_at after ≡ Err r → rest_at (count - i) done bs ≡ total → total ≡ Err r
unfolding rest_at
rest_run_fails count i c done bs after r total lt quote escape is none so_far =
    let one : rest_at (count - i) done bs ≡ Err r = rw (left_over count i lt, quote, escape, is, none) refl in
    sym so_far ∙ one

pub rest_goes_on : (count i c : ℕ) (done bs after run next : List ℕ) (total : Result (List ℕ × List ℕ) Refusal) → i < count → begins_with 34 bs ≡ false → begins_with 92 bs ≡ true
    → escape_at (drop 1 bs) ≡ Ok (c, after) → run_at after ≡ Ok (run, next) → rest_at (count - i) done bs ≡ total
    → rest_at (count - (i + 1)) ((done ++ encode_utf8 c) ++ run) next ≡ total
unfolding rest_at
rest_goes_on count i c done bs after run next total lt quote escape is more so_far =
    let one : rest_at (count - i) done bs ≡ rest_at (count - (i + 1)) ((done ++ encode_utf8 c) ++ run) next = rw (left_over count i lt, quote, escape, is, more) refl in
    sym one ∙ so_far

pub rest_ended : (count i : ℕ) (done bs : List ℕ) (total : Result (List ℕ × List ℕ) Refusal) → count ≤ i → rest_at (count - i) done bs ≡ total → total ≡ refused fault.Ended []
unfolding rest_at
rest_ended count i done bs total le so_far =
    let one : rest_at (count - i) done bs ≡ refused fault.Ended [] = rw (nothing_left count i le) refl in
    sym so_far ∙ one

-- ---- digits

pub digits_go : (most n d : ℕ) (bs : List ℕ) → digit_at bs ≡ Some d → n * 10 + d ≤ most → digits_at most n bs ≡ digits_at most (n * 10 + d) (drop 1 bs)
unfolding digits_at
digits_go most n d [] is room = absurd (cc)
digits_go most n d (b ∷ bs) is room = elim (truth (is_in_range 48 57 b)) [
  | inl pass ↦
      let some : Some (b - 48) ≡ Some d = rw pass at is in
      let same : b - 48 ≡ d = cc in
      let fits = le-ltb most (n * 10 + d) room in
      rw (pass, same, fits) refl
  | inr miss ↦ let none : None ≡ Some d = rw miss at is in absurd (cc none)
]

pub digits_stop : (most n d : ℕ) (bs : List ℕ) → digit_at bs ≡ Some d → most < n * 10 + d → digits_at most n bs ≡ refused fault.TooWide bs
unfolding digits_at
digits_stop most n d [] is past = absurd (cc)
digits_stop most n d (b ∷ bs) is past = elim (truth (is_in_range 48 57 b)) [
  | inl pass ↦
      let some : Some (b - 48) ≡ Some d = rw pass at is in
      let same : b - 48 ≡ d = cc in
      let over = lt-ltb most (n * 10 + d) past in
      rw (pass, same, over) refl
  | inr miss ↦ let none : None ≡ Some d = rw miss at is in absurd (cc none)
]

pub digits_end : (most n : ℕ) (bs : List ℕ) → digit_at bs ≡ None → digits_at most n bs ≡ Ok (n, bs)
unfolding digits_at
digits_end most n [] is = refl
digits_end most n (b ∷ bs) is = elim (truth (is_in_range 48 57 b)) [
  | inl pass ↦ let some : Some (b - 48) ≡ None = rw pass at is in absurd (cc some)
  | inr miss ↦ rw miss refl
]
