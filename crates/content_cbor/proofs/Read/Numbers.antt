-- Numbers that are read digit by digit.
use Rattle.std.proofs.Common.{◌≡◌, ℕ, suc, zero, ◌+◌, ◌*◌, ◌-◌, ◌/◌, ◌^◌, ◌<◌, ◌≤◌, true, false, List, [], ◌∷◌, ◌++◌, get_or, length, take, drop, Ok, Err, refl, sym, ap, subst, ◌∙◌, arith, shr-shr, inl, inr}
use Rattle.std.specs.Int.{is_in_range}
use Rattle.std.specs.Int.Digits.{number_from_digits_after}
use Rattle.std.proofs.lemmas.Bool.{and_parts, and_from, leb-true, le-leb, cases_lt}
use Rattle.std.proofs.lemmas.List.{get_or_past}
use Rattle.content_cbor.specs.declared.decode_error.Fault.{Fault}
use Rattle.content_cbor.specs.declared.decode_error.Fault.TheVariants as fault
use Rattle.content_cbor.specs.declared.stop.Refusal.{Refusal}
use Rattle.content_cbor.specs.Inner.Steps.{refused}
use Rattle.content_cbor.specs.Inner.Numbers.{Bounds, between, digits_at, leading, unbounded}
use Rattle.content_cbor.proofs.Read.Steps.{ok_is, chosen, failed, same_left}
use Rattle.content_cbor.proofs.Read.Took.{IsBytes, IsBytes-rest, Took}

-- ---- ranges

pub in_range_is : (l m n : ℕ) → is_in_range l m n ≡ true → (l ≤ n) × (n ≤ m)
in_range_is l m n is = let p = and_parts _ _ is in (leb-true _ _ p.0, leb-true _ _ p.1)

pub in_range_from : (l m n : ℕ) → l ≤ n → n ≤ m → is_in_range l m n ≡ true
in_range_from l m n low high = and_from _ _ (le-leb _ _ low) (le-leb _ _ high)

pub beyond_range : (l m n : ℕ) → n < l → is_in_range l m n ≡ false
beyond_range l m n lt = grind arith

pub leading_le : (due l m : ℕ) → l ≤ m → leading due l ≤ leading due m
leading_le zero l m le = le
leading_le (suc due) l m le = let shorter = leading_le due l m le in omega (arith, shorter)

pub leading_none : (due : ℕ) → leading due 0 ≡ 0
leading_none zero = refl
leading_none (suc due) = let shorter = leading_none due in omega (arith, shorter)

-- ---- bounds

-- a digit can follow, and what can be followed by one can be
pub record Fair (Digit : ℕ → Type 0) (bounds : Bounds) : Type 0 where
  pub on : (due n : ℕ) → bounds.admits (suc due) n ≡ true → (b : ℕ) × (b < 256) × (bounds.admits due (n * 256 + b) ≡ true)
  pub back : (due n b : ℕ) → Digit b → bounds.admits due (n * 256 + b) ≡ true → bounds.admits (suc due) n ≡ true

-- the digits of bytes, and any
abbrev pub IsByte : ℕ → Type 0
IsByte b = b < 256

abbrev pub IsAny : ℕ → Type 0
IsAny b = Unit {0}

pub unbounded_fair : (Digit : ℕ → Type 0) → Fair Digit unbounded
unbounded_fair Digit = record { on = λ due n is. (0, omega arith, refl); back = λ due n b digit is. refl }

-- the least digit that leads into the range
next_digit : (l m n : ℕ) → l ≤ m → l / 256 ≤ n → n ≤ m / 256 → (b : ℕ) × (b < 256) × (l ≤ n * 256 + b) × (n * 256 + b ≤ m)
next_digit l m n le low high =
    elim (cases_lt (n * 256) l) [
      | inl lt ↦ (l - n * 256, omega (arith, lt, low), omega (arith, lt), omega (arith, lt, le))
      | inr ge ↦ (0, omega arith, omega (arith, ge), omega (arith, high))
    ]

between_on : (least most : ℕ) (f : Fault) → least ≤ most → (due n : ℕ) → (between least most f).admits (suc due) n ≡ true
    → (b : ℕ) × (b < 256) × ((between least most f).admits due (n * 256 + b) ≡ true)
between_on least most f le due n is =
    let r = in_range_is (leading (suc due) least) (leading (suc due) most) n is in
    let d = next_digit (leading due least) (leading due most) n (leading_le due least most le) r.0 r.1 in
    (d.0, d.1, in_range_from (leading due least) (leading due most) (n * 256 + d.0) d.2 d.3)

pub between_fair : (least most : ℕ) (f : Fault) → least ≤ most → Fair IsByte (between least most f)
between_fair least most f le = record {
  on = between_on least most f le;
  back = λ due n b small is.
      let r = in_range_is (leading due least) (leading due most) (n * 256 + b) is in
      in_range_from (leading (suc due) least) (leading (suc due) most) n (omega (arith, r.0, small)) (omega (arith, r.1));
}

pub up_to_fair : (most : ℕ) (f : Fault) → Fair IsAny (between 0 most f)
up_to_fair most f = record {
  on = between_on 0 most f (omega arith);
  back = λ due n b any is.
      let r = in_range_is (leading due 0) (leading due most) (n * 256 + b) is in
      in_range_from (leading (suc due) 0) (leading (suc due) most) n (omega (arith, leading_none (suc due))) (omega (arith, r.1));
}

-- ---- digits

-- what is read: so many digits, which lead to a number that is admitted where the first was
abbrev pub Counts : Bounds → ℕ → ℕ → ℕ → List ℕ → Type 0
Counts bounds due n m ds = (length ds ≡ due) × (number_from_digits_after 256 n ds ≡ m) × IsBytes ds
    × (bounds.admits due n ≡ true → bounds.admits 0 m ≡ true)

pub no_bytes : IsBytes []
no_bytes i = let none : get_or [] i 0 ≡ 0 = get_or_past {X = ℕ} [] i 0 (omega arith) in omega (arith, none)

pub one_more : (b : ℕ) (bs : List ℕ) → b < 256 → IsBytes bs → IsBytes (b ∷ bs)
one_more b bs small fits zero = small
one_more b bs small fits (suc i) = fits i

pub digits_sound : (bounds : Bounds) (due n : ℕ) (bs : List ℕ) (m : ℕ) (rest : List ℕ) → IsBytes bs → digits_at bounds due n bs ≡ Ok (m, rest)
    → Took (Counts bounds due n m) bs rest
unfolding digits_at
digits_sound bounds zero n bs m rest fits is =
    subst (λ (p : ℕ × List ℕ). Took (Counts bounds 0 n p.0) bs p.1) (ok_is (n, bs) (m, rest) is)
    (record { front = []; part = (refl, refl, no_bytes, λ same. same); split = refl; fits = fits })
digits_sound bounds (suc due) n [] m rest fits is = absurd cc
digits_sound bounds (suc due) n (b ∷ bs) m rest fits is =
    let l = n * 256 + b in
    let g = failed (bounds.admits due l) (record { «fault» = bounds.otherwise; left = length (b ∷ bs) }) (digits_at bounds due l bs) (m, rest) is in
    let d = digits_sound bounds due l bs m rest (IsBytes-rest b bs fits) g.1 in
    record {
      front = b ∷ d.front;
      part = (ap suc d.part.0, d.part.1, one_more b d.front (fits 0) d.part.2, λ known. d.part.3 g.0);
      split = ap (λ t. b ∷ t) d.split;
      fits = d.fits;
    }

-- a number that is read is admitted, where it could begin
pub digits_admitted : (bounds : Bounds) (due n : ℕ) (bs : List ℕ) (m : ℕ) (rest : List ℕ) → bounds.admits due n ≡ true → digits_at bounds due n bs ≡ Ok (m, rest) → bounds.admits 0 m ≡ true
unfolding digits_at
digits_admitted bounds zero n bs m rest admitted is =
    subst (λ (p : ℕ × List ℕ). bounds.admits 0 p.0 ≡ true) (ok_is (n, bs) (m, rest) is) admitted
digits_admitted bounds (suc due) n [] m rest admitted is = absurd cc
digits_admitted bounds (suc due) n (b ∷ bs) m rest admitted is =
    let g = failed (bounds.admits due (n * 256 + b)) (record { «fault» = bounds.otherwise; left = length (b ∷ bs) }) (digits_at bounds due (n * 256 + b) bs) (m, rest) is in
    digits_admitted bounds due (n * 256 + b) bs m rest g.0 g.1

-- all digits of a list
abbrev pub All : (ℕ → Type 0) → List ℕ → Type 0
All Digit [] = Unit {0}
All Digit (d ∷ ds) = Digit d × All Digit ds

pub all_bytes : (ds : List ℕ) → IsBytes ds → All IsByte ds
all_bytes [] fits = tt
all_bytes (d ∷ ds) fits = (fits 0, all_bytes ds (IsBytes-rest d ds fits))

pub all_any : (ds : List ℕ) → All IsAny ds
all_any [] = tt
all_any (d ∷ ds) = (tt, all_any ds)

-- what leads to a number is admitted where the number is
pub leads_back : (Digit : ℕ → Type 0) (bounds : Bounds) → Fair Digit bounds → (n : ℕ) (ds : List ℕ) → All Digit ds
    → bounds.admits 0 (number_from_digits_after 256 n ds) ≡ true → bounds.admits (length ds) n ≡ true
leads_back Digit bounds fair n [] all is = is
leads_back Digit bounds fair n (d ∷ ds) all is = fair.back (length ds) n d all.0 (leads_back Digit bounds fair (n * 256 + d) ds all.1 is)

pub digits_complete : (Digit : ℕ → Type 0) (bounds : Bounds) → Fair Digit bounds → (n : ℕ) (ds rest : List ℕ) → All Digit ds
    → bounds.admits 0 (number_from_digits_after 256 n ds) ≡ true
    → digits_at bounds (length ds) n (ds ++ rest) ≡ Ok (number_from_digits_after 256 n ds, rest)
unfolding digits_at
digits_complete Digit bounds fair n [] rest all is = refl
digits_complete Digit bounds fair n (d ∷ ds) rest all is =
    rw (leads_back Digit bounds fair (n * 256 + d) ds all.1 is) (digits_complete Digit bounds fair (n * 256 + d) ds rest all.1 is)

-- ---- digits that are missing

-- so many digits can follow
pub some_digits : (Digit : ℕ → Type 0) (bounds : Bounds) → Fair Digit bounds → (due n : ℕ) → bounds.admits due n ≡ true
    → (ds : List ℕ) × (length ds ≡ due) × IsBytes ds × (bounds.admits 0 (number_from_digits_after 256 n ds) ≡ true)
some_digits Digit bounds fair zero n is = ([], refl, no_bytes, is)
some_digits Digit bounds fair (suc due) n is =
    let d = fair.on due n is in
    let more = some_digits Digit bounds fair due (n * 256 + d.0) d.2 in
    (d.0 ∷ more.0, ap suc more.1, one_more d.0 more.0 d.1 more.2, more.3)

-- what stands before a fault can go on to a number that is admitted
pub digits_placed : (Digit : ℕ → Type 0) (bounds : Bounds) → Fair Digit bounds → (due n : ℕ) (bs : List ℕ) (e : Refusal) → IsBytes bs
    → bounds.admits due n ≡ true → digits_at bounds due n bs ≡ Err e
    → (front more behind : List ℕ) × (bs ≡ front ++ behind) × (length behind ≡ e.left) × (length (front ++ more) ≡ due) × IsBytes (front ++ more)
    × (bounds.admits 0 (number_from_digits_after 256 n (front ++ more)) ≡ true)
unfolding digits_at
digits_placed Digit bounds fair zero n bs e fits admitted is = absurd cc
digits_placed Digit bounds fair (suc due) n [] e fits admitted is =
    let d = some_digits Digit bounds fair (suc due) n admitted in
    ([], d.0, [], refl, same_left {A = ℕ × List ℕ} (record { «fault» = fault.Ended; left = 0 }) e is, d.1, d.2, d.3)
digits_placed Digit bounds fair (suc due) n (b ∷ bs) e fits admitted is =
    let l = n * 256 + b in
    elim (chosen (bounds.admits due l) (digits_at bounds due l bs) (refused bounds.otherwise (b ∷ bs)) (Err e) is) [
      | inl w ↦
          let d = digits_placed Digit bounds fair due l bs e (IsBytes-rest b bs fits) w.0 w.1 in
          (b ∷ d.0, d.1, d.2, ap (λ t. b ∷ t) d.3, d.4, ap suc d.5, one_more b (d.0 ++ d.1) (fits 0) d.6, d.7)
      | inr w ↦
          let d = some_digits Digit bounds fair (suc due) n admitted in
          ([], d.0, b ∷ bs, refl, same_left {A = ℕ × List ℕ} (record { «fault» = bounds.otherwise; left = length (b ∷ bs) }) e w.1, d.1, d.2, d.3)
    ]

-- ---- as functions read them

-- the more digits are due, the less may stand before them
pub leading_falls : (k l m : ℕ) → k ≤ l → leading l m ≤ leading k m
leading_falls k zero m le = let none : k ≡ 0 = omega (arith, le) in rw none (omega arith)
leading_falls k (suc l) m le =
    elim (cases_lt l k) [
      | inl lt ↦ let same : k ≡ suc l = omega (arith, lt, le) in rw same (omega arith)
      | inr ge ↦ let less = leading_falls k l m ge in omega (arith, less)
    ]

-- leading digits, by a shift
pub leading_is : (due n : ℕ) → n / 2 ^ (8 * due) ≡ leading due n
leading_is zero n = omega arith
leading_is (suc due) n =
    let one : 8 * suc due ≡ 8 * due + 8 = omega arith in
    ap (λ j. n / 2 ^ j) one ∙ sym (shr-shr n (8 * due) 8) ∙ ap (λ j. j / 256) (leading_is due n)

-- past the width nothing leads
pub leading_past : (due n : ℕ) → 16 ≤ due → n < 2 ^ 128 → leading due n ≡ 0
leading_past due n wide room =
    let falls : leading due n ≤ leading 16 n = leading_falls 16 due n wide in
    let none : leading 16 n ≡ 0 = sym (leading_is 16 n) ∙ omega (arith, room) in
    omega (arith, falls, none)

pub ends_unbounded : (due n : ℕ) (bs : List ℕ) → length bs < due → digits_at unbounded due n bs ≡ refused fault.Ended []
unfolding digits_at
ends_unbounded zero n bs short = absurd (omega (arith, short))
ends_unbounded (suc due) n [] short = refl
ends_unbounded (suc due) n (b ∷ bs) short = ends_unbounded due (n * 256 + b) bs (omega (arith, short))

pub reads_unbounded : (due n : ℕ) (bs : List ℕ) → due ≤ length bs → digits_at unbounded due n bs ≡ Ok (number_from_digits_after 256 n (take due bs), drop due bs)
unfolding digits_at
reads_unbounded zero n bs long = refl
reads_unbounded (suc due) n [] long = absurd (omega (arith, long))
reads_unbounded (suc due) n (b ∷ bs) long = reads_unbounded due (n * 256 + b) bs (omega (arith, long))
