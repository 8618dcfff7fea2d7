-- Loops that read byte by byte.
use Rattle.std.proofs.Common.{◌≡◌, ℕ, suc, zero, ◌+◌, ◌*◌, ◌-◌, ◌<◌, ◌≤◌, Bool, true, false, ltb, List, [], ◌∷◌, get_or, length, take, drop, Some, None, Result, Ok, Err, ◌⊎◌, refl, sym, ap, ◌∙◌, arith, inl, inr}
use Rattle.std.specs.Int.{is_in_range}
use Rattle.std.proofs.lemmas.Bool.{and_left, and_right, le-leb, le-ltb, lt-leb, lt-ltb}
use Rattle.std.proofs.lemmas.List.{take_all}
use Rattle.content_cbor.specs.declared.decode_error.Fault.{Fault}
use Rattle.content_cbor.specs.declared.decode_error.Fault.TheVariants as fault
use Rattle.content_cbor.specs.declared.stop.Refusal.{Refusal}
use Rattle.content_cbor.specs.declared.utf8.Lack.{Lack}
use Rattle.content_cbor.specs.Inner.Steps.{◌>>=◌, refused}
use Rattle.content_cbor.specs.Inner.Numbers.{between, digits_at, leading}
use Rattle.content_cbor.specs.Inner.Texts.{after_byte, text_at}
use Rattle.content_cbor.specs.Inner.Reading.{at_break, chunk_bounds, digits_behind, digits_until, length_at, room}
use Rattle.content_cbor.proofs.Read.Numbers.{in_range_from}

-- the bytes behind the first
abbrev pub rest_of : List ℕ → List ℕ
rest_of bs = take (length bs - 1) (drop 1 bs)

rest_is : (b : ℕ) (bs : List ℕ) → rest_of (b ∷ bs) ≡ bs
rest_is b bs = take_all (suc (length bs) - 1) bs (omega arith)

-- ---- digits

pub digit_on : (least most : ℕ) (f : Fault) (due n : ℕ) (bs : List ℕ) → 0 < due → 1 ≤ length bs
    → leading (due - 1) least ≤ n * 256 + get_or bs 0 0 → n * 256 + get_or bs 0 0 ≤ leading (due - 1) most
    → digits_at (between least most f) (due - 1) (n * 256 + get_or bs 0 0) (rest_of bs) ≡ digits_at (between least most f) due n bs
unfolding digits_at
digit_on least most f zero n bs some long low high = absurd (omega (arith, some))
digit_on least most f (suc due) n [] some long low high = absurd (omega (arith, long))
digit_on least most f (suc due) n (b ∷ bs) some long low high =
    let one : suc due - 1 ≡ due = omega arith in
    let l = n * 256 + b in
    let fits : is_in_range (leading due least) (leading due most) l ≡ true =
    in_range_from (leading due least) (leading due most) l (omega (arith, low, ap (λ k. leading k least) one)) (omega (arith, high, ap (λ k. leading k most) one)) in
    rw (one, rest_is b bs, fits) refl

pub digit_off : (least most : ℕ) (f : Fault) (due n : ℕ) (bs : List ℕ) → 0 < due → 1 ≤ length bs
    → (n * 256 + get_or bs 0 0 < leading (due - 1) least) ⊎ (leading (due - 1) most < n * 256 + get_or bs 0 0)
    → digits_at (between least most f) due n bs ≡ refused f bs
unfolding digits_at
digit_off least most f zero n bs some long out = absurd (omega (arith, some))
digit_off least most f (suc due) n [] some long out = absurd (omega (arith, long))
digit_off least most f (suc due) n (b ∷ bs) some long out =
    let one : suc due - 1 ≡ due = omega arith in
    let l = n * 256 + b in
    let none : is_in_range (leading due least) (leading due most) l ≡ false = elim out [
      | inl w ↦ and_left _ _ (lt-leb (leading due least) l (omega (arith, w, ap (λ k. leading k least) one)))
      | inr w ↦ and_right _ _ (lt-leb l (leading due most) (omega (arith, w, ap (λ k. leading k most) one)))
    ] in
    rw none refl

pub digit_ended : (least most : ℕ) (f : Fault) (due n : ℕ) (bs : List ℕ) → 0 < due → length bs < 1 → digits_at (between least most f) due n bs ≡ refused fault.Ended bs
unfolding digits_at
digit_ended least most f zero n bs some short = absurd (omega (arith, some))
digit_ended least most f (suc due) n [] some short = refl
digit_ended least most f (suc due) n (b ∷ bs) some short = absurd (omega (arith, short))

pub no_digits : (least most : ℕ) (f : Fault) (due n : ℕ) (bs : List ℕ) → due ≤ 0 → digits_at (between least most f) due n bs ≡ Ok (n, bs)
unfolding digits_at
no_digits least most f zero n bs none = refl
no_digits least most f (suc due) n bs none = absurd (omega (arith, none))

-- a longer number has room in its type
pub longer_fits : (due n most b : ℕ) → 0 < due → n ≤ leading due most → most < 340282366920938463463374607431768211456 → b < 256
    → n * 256 + b < 340282366920938463463374607431768211456
longer_fits zero n most b some le fits small = absurd (omega (arith, some))
longer_fits (suc due) n most b some le fits small = let less = leading_le_all due most in omega (arith, le, less, fits, small)
  where
    leading_le_all : (due m : ℕ) → leading due m ≤ m
    leading_le_all zero m = omega arith
    leading_le_all (suc due) m = let less = leading_le_all due m in omega (arith, less)

-- ---- how many digits can go on

pub behind_on : (due most n : ℕ) → 0 < due → leading due most < n → digits_behind (due - 1) most n ≡ digits_behind due most n
behind_on zero most n some less = absurd (omega (arith, some))
behind_on (suc due) most n some less =
    let one : suc due - 1 ≡ due = omega arith in
    rw (one, lt-leb _ _ less) refl

pub behind_now : (due most n : ℕ) → n ≤ leading due most → digits_behind due most n ≡ due
behind_now zero most n le = refl
behind_now (suc due) most n le = rw (le-leb _ _ le) refl

-- ---- texts

-- a byte that can stand next
text_step : (lack next : Lack) (due : ℕ) (bs : List ℕ) → 0 < due → 1 ≤ length bs → after_byte lack (get_or bs 0 0) ≡ Some next → next.count ≤ due - 1
    → text_at lack due bs ≡ (text_at next (due - 1) (rest_of bs) >>= λ x. Ok (get_or bs 0 0 ∷ x.0, x.1))
unfolding text_at
text_step lack next zero bs some long is enough = absurd (omega (arith, some))
text_step lack next (suc due) [] some long is enough = absurd (omega (arith, long))
text_step lack next (suc due) (b ∷ bs) some long is enough =
    let one : suc due - 1 ≡ due = omega arith in
    let room_ : ltb due next.count ≡ false = le-ltb _ _ (omega (arith, enough)) in
    rw (one, rest_is b bs, is, room_) refl

pub text_none : (lack next : Lack) (due : ℕ) (bs : List ℕ) → 0 < due → 1 ≤ length bs → after_byte lack (get_or bs 0 0) ≡ Some next → next.count ≤ due - 1
    → ((x : List ℕ × List ℕ) → text_at lack due bs ≡ Ok x → ⊥) → (x : List ℕ × List ℕ) → text_at next (due - 1) (rest_of bs) ≡ Ok x → ⊥
text_none lack next due bs some long is enough none x read =
    none (get_or bs 0 0 ∷ x.0, x.1) (text_step lack next due bs some long is enough ∙ ap (λ r. r >>= λ y. Ok (get_or bs 0 0 ∷ y.0, y.1)) read)

pub text_same : (lack next : Lack) (due : ℕ) (bs : List ℕ) → 0 < due → 1 ≤ length bs → after_byte lack (get_or bs 0 0) ≡ Some next → next.count ≤ due - 1
    → (e : Refusal) → text_at next (due - 1) (rest_of bs) ≡ Err e → text_at lack due bs ≡ Err e
text_same lack next due bs some long is enough e fails =
    text_step lack next due bs some long is enough ∙ ap (λ r. r >>= λ y. Ok (get_or bs 0 0 ∷ y.0, y.1)) fails

pub text_off : (lack : Lack) (due : ℕ) (bs : List ℕ) → 0 < due → 1 ≤ length bs
    → (after_byte lack (get_or bs 0 0) ≡ None) ⊎ ((next : Lack) × (after_byte lack (get_or bs 0 0) ≡ Some next) × (due - 1 < next.count))
    → text_at lack due bs ≡ refused fault.NotUtf8 bs
unfolding text_at
text_off lack zero bs some long out = absurd (omega (arith, some))
text_off lack (suc due) [] some long out = absurd (omega (arith, long))
text_off lack (suc due) (b ∷ bs) some long (inl none) = rw none refl
text_off lack (suc due) (b ∷ bs) some long (inr w) =
    let past : ltb due w.0.count ≡ true = lt-ltb _ _ (omega (arith, w.2)) in
    rw (w.1, past) refl

pub text_ended : (lack : Lack) (due : ℕ) (bs : List ℕ) → ((x : List ℕ × List ℕ) → text_at lack due bs ≡ Ok x → ⊥) → length bs < 1 → text_at lack due bs ≡ refused fault.Ended bs
unfolding text_at
text_ended lack zero bs none short = absurd (none ([], bs) refl)
text_ended lack (suc due) [] none short = refl
text_ended lack (suc due) (b ∷ bs) none short = absurd (omega (arith, short))

-- what is no text lacks a byte
pub text_due : (lack : Lack) (due : ℕ) (bs : List ℕ) → ((x : List ℕ × List ℕ) → text_at lack due bs ≡ Ok x → ⊥) → 1 ≤ due
unfolding text_at
text_due lack zero bs none = absurd (none ([], bs) refl)
text_due lack (suc due) bs none = omega arith

-- ---- digits in chunks

left_over : (count i : ℕ) → i < count → count - i ≡ suc (count - (i + 1))
left_over count i lt = omega arith

nothing_left : (count i : ℕ) → count ≤ i → count - i ≡ 0
nothing_left count i le = omega arith

pub chunks_break : (negative : Bool) (count i n : ℕ) (bs : List ℕ) (total : Result (ℕ × List ℕ) Refusal) → i < count → at_break bs ≡ true
    → digits_until negative n (count - i) bs ≡ total → total ≡ Ok (n, drop 1 bs)
unfolding digits_until
chunks_break negative count i n bs total lt broken so_far =
    let one : digits_until negative n (count - i) bs ≡ Ok (n, drop 1 bs) = rw (left_over count i lt, broken) refl in
    sym so_far ∙ one

pub chunks_no_length : (negative : Bool) (r : Refusal) (count i n : ℕ) (bs : List ℕ) (total : Result (ℕ × List ℕ) Refusal) → i < count → at_break bs ≡ false
    → length_at false (chunk_bounds negative n) bs ≡ Err r → digits_until negative n (count - i) bs ≡ total → total ≡ Err r
unfolding digits_until
chunks_no_length negative r count i n bs total lt going is so_far =
    let one : digits_until negative n (count - i) bs ≡ Err r = rw (left_over count i lt, going, is) refl in
    sym so_far ∙ one

pub chunks_no_digits : (negative : Bool) (r : Refusal) (count i n l : ℕ) (bs mid : List ℕ) (total : Result (ℕ × List ℕ) Refusal) → i < count → at_break bs ≡ false
    → length_at false (chunk_bounds negative n) bs ≡ Ok (l, mid) → digits_at (room negative) l n mid ≡ Err r → digits_until negative n (count - i) bs ≡ total → total ≡ Err r
unfolding digits_until
chunks_no_digits negative r count i n l bs mid total lt going long is so_far =
    let one : digits_until negative n (count - i) bs ≡ Err r = rw (left_over count i lt, going, long, is) refl in
    sym so_far ∙ one

pub chunks_go_on : (negative : Bool) (count i n l m : ℕ) (bs mid after : List ℕ) (total : Result (ℕ × List ℕ) Refusal) → i < count → at_break bs ≡ false
    → length_at false (chunk_bounds negative n) bs ≡ Ok (l, mid) → digits_at (room negative) l n mid ≡ Ok (m, after)
    → digits_until negative n (count - i) bs ≡ total → digits_until negative m (count - (i + 1)) after ≡ total
unfolding digits_until
chunks_go_on negative count i n l m bs mid after total lt going long is so_far =
    let one : digits_until negative n (count - i) bs ≡ digits_until negative m (count - (i + 1)) after = rw (left_over count i lt, going, long, is) refl in
    sym one ∙ so_far

pub chunks_ended : (negative : Bool) (count i n : ℕ) (bs : List ℕ) (total : Result (ℕ × List ℕ) Refusal) → count ≤ i
    → digits_until negative n (count - i) bs ≡ total → total ≡ refused fault.Ended []
unfolding digits_until
chunks_ended negative count i n bs total le so_far =
    let one : digits_until negative n (count - i) bs ≡ refused fault.Ended [] = rw (nothing_left count i le) refl in
    sym so_far ∙ one
