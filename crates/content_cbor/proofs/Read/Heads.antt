-- Heads that are read.
use Rattle.std.proofs.Common.{◌≡◌, ℕ, suc, zero, ◌+◌, ◌*◌, ◌-◌, ◌/◌, ◌%◌, ◌<◌, ◌≤◌, true, false, cond, eqb, ltb, List, [], ◌∷◌, ◌++◌, get_or, length, take, drop, Option, Some, None, Ok, Err, ◌⊎◌, refl, sym, ap, subst, ◌∙◌, arith, inl, inr}
use Rattle.std.specs.Int.{Width, byte_len, from_be_bytes, is_in_range, to_be_bytes, w8}
use Rattle.std.specs.Int.Digits.{number_from_digits_after}
use Rattle.std.proofs.lemmas.Bool.{ltb-false, ltb-true, le-ltb, lt-ltb, eqb-true, eqb-false, ne_eqb, cases_lt}
use Rattle.std.proofs.lemmas.List.{length-take, take_all}
use Rattle.std.proofs.lemmas.Nat.{be_bytes_2, be_bytes_4, be_bytes_8, from_be_bytes-to_be_bytes_2, from_be_bytes-to_be_bytes_4, from_be_bytes-to_be_bytes_8}
use Rattle.content_cbor.specs.Heads.{code, first_byte}
use Rattle.content_cbor.specs.Codes as size
use Rattle.content_cbor.specs.Codes.{Size, IsHead, info_of, room, width_of}
use Rattle.content_cbor.specs.declared.decode_error.Fault.{Fault}
use Rattle.content_cbor.specs.declared.decode_error.Fault.TheVariants as fault
use Rattle.content_cbor.specs.declared.heads.First.{First}
use Rattle.content_cbor.specs.declared.heads.Head.{Head}
use Rattle.content_cbor.specs.declared.heads.Major.{Major}
use Rattle.content_cbor.specs.declared.heads.Major.TheVariants as major
use Rattle.content_cbor.specs.declared.stop.Refusal.{Refusal}
use Rattle.content_cbor.specs.Inner.Steps.{◌>>=◌, refused, refused_before, unless}
use Rattle.content_cbor.specs.Inner.Numbers.{Bounds, argument_at, between, digits_at, leading, size_of, unbounded}
use Rattle.content_cbor.specs.Inner.Reading.{bounds_of, first_at, head_at, head_behind, is_reserved, is_simple, item_fault, kind_at, major_of}
use Rattle.content_cbor.proofs.Read.Steps.{ok_is, bind_err, bind_ok, chosen, failed, not_wrong, passed, same_left, wrong_left}
use Rattle.content_cbor.proofs.Read.Took.{IsBytes, IsBytes-rest, Took, Sound, Complete, regrouped}
use Rattle.content_cbor.proofs.Read.Begun.{Before, Opens, behind_a, instead}
use Rattle.content_cbor.proofs.Read.Numbers.{All, Fair, IsByte, between_fair, unbounded_fair, beyond_range, in_range_from, in_range_is, leading_none, digits_admitted, digits_complete, digits_placed, digits_sound, reads_unbounded}

-- ---- numbers of a width

pub record IsWide (w : Width) (limit : ℕ) : Type 0 where
  pub len : (n : ℕ) → length (to_be_bytes w n) ≡ byte_len w
  pub back : (bs : List ℕ) → length bs ≡ byte_len w → IsBytes bs → to_be_bytes w (from_be_bytes w bs) ≡ bs
  pub again : (n : ℕ) → n < limit → from_be_bytes w (to_be_bytes w n) ≡ n
  pub below : (bs : List ℕ) → IsBytes bs → from_be_bytes w bs < limit
  pub small : (n : ℕ) → All IsByte (to_be_bytes w n)

one_byte : (bs : List ℕ) → length bs ≡ 1 → IsBytes bs → to_be_bytes w8 (from_be_bytes w8 bs) ≡ bs
one_byte [] len fits = absurd (omega (arith, len))
one_byte (b ∷ []) len fits = ap (λ n. n ∷ []) (omega (arith, fits 0))
one_byte (b ∷ c ∷ bs) len fits = absurd (omega (arith, len))

pub wide : (s : Size) → IsWide (width_of s) (room s)
wide size.one = record {
  len = λ n. refl;
  back = λ bs len fits. one_byte bs len fits;
  again = λ n lt. omega (arith, lt);
  below = λ bs fits. omega (arith, fits 0);
  small = λ n. (omega arith, tt);
}
wide size.two = record {
  len = λ n. refl;
  back = λ bs len fits. be_bytes_2 bs _ len fits refl;
  again = λ n lt. from_be_bytes-to_be_bytes_2 n lt;
  below = λ bs fits. omega (arith, fits 0, fits 1);
  small = λ n. (omega arith, (omega arith, tt));
}
wide size.four = record {
  len = λ n. refl;
  back = λ bs len fits. be_bytes_4 bs _ len fits refl;
  again = λ n lt. from_be_bytes-to_be_bytes_4 n lt;
  below = λ bs fits. omega (arith, fits 0, fits 1, fits 2, fits 3);
  small = λ n. (omega arith, (omega arith, (omega arith, (omega arith, tt))));
}
wide size.eight = record {
  len = λ n. refl;
  back = λ bs len fits. be_bytes_8 bs _ len fits refl;
  again = λ n lt. from_be_bytes-to_be_bytes_8 n lt;
  below = λ bs fits. omega (arith, fits 0, fits 1, fits 2, fits 3, fits 4, fits 5, fits 6, fits 7);
  small = λ n. (omega arith, (omega arith, (omega arith, (omega arith, (omega arith, (omega arith, (omega arith, (omega arith, tt))))))));
}

-- the number of so many digits
pub same_number : (s : Size) (ds : List ℕ) → length ds ≡ byte_len (width_of s) → number_from_digits_after 256 0 ds ≡ from_be_bytes (width_of s) ds
same_number size.one (a ∷ []) len = omega arith
same_number size.one [] len = absurd (omega (arith, len))
same_number size.one (a ∷ b ∷ ds) len = absurd (omega (arith, len))
same_number size.two (a ∷ b ∷ []) len = omega arith
same_number size.two [] len = absurd (omega (arith, len))
same_number size.two (a ∷ []) len = absurd (omega (arith, len))
same_number size.two (a ∷ b ∷ c ∷ ds) len = absurd (omega (arith, len))
same_number size.four (a ∷ b ∷ c ∷ d ∷ []) len = omega arith
same_number size.four [] len = absurd (omega (arith, len))
same_number size.four (a ∷ []) len = absurd (omega (arith, len))
same_number size.four (a ∷ b ∷ []) len = absurd (omega (arith, len))
same_number size.four (a ∷ b ∷ c ∷ []) len = absurd (omega (arith, len))
same_number size.four (a ∷ b ∷ c ∷ d ∷ e ∷ ds) len = absurd (omega (arith, len))
same_number size.eight (a ∷ b ∷ c ∷ d ∷ e ∷ f ∷ g ∷ h ∷ []) len = omega arith
same_number size.eight [] len = absurd (omega (arith, len))
same_number size.eight (a ∷ []) len = absurd (omega (arith, len))
same_number size.eight (a ∷ b ∷ []) len = absurd (omega (arith, len))
same_number size.eight (a ∷ b ∷ c ∷ []) len = absurd (omega (arith, len))
same_number size.eight (a ∷ b ∷ c ∷ d ∷ []) len = absurd (omega (arith, len))
same_number size.eight (a ∷ b ∷ c ∷ d ∷ e ∷ []) len = absurd (omega (arith, len))
same_number size.eight (a ∷ b ∷ c ∷ d ∷ e ∷ f ∷ []) len = absurd (omega (arith, len))
same_number size.eight (a ∷ b ∷ c ∷ d ∷ e ∷ f ∷ g ∷ []) len = absurd (omega (arith, len))
same_number size.eight (a ∷ b ∷ c ∷ d ∷ e ∷ f ∷ g ∷ h ∷ i ∷ ds) len = absurd (omega (arith, len))

-- bytes that spell the number in a width
abbrev pub Spelled : Size → ℕ → List ℕ → Type 0
Spelled s n bs = (n < room s) × (bs ≡ to_be_bytes (width_of s) n)

pub spelled : (s : Size) (ds : List ℕ) → length ds ≡ byte_len (width_of s) → IsBytes ds → Spelled s (number_from_digits_after 256 0 ds) ds
spelled s ds len fits =
    let same = same_number s ds len in
    subst (λ n. Spelled s n ds) (sym same) ((wide s).below ds fits, sym ((wide s).back ds len fits))

pub spelled_back : (s : Size) (n : ℕ) → n < room s → number_from_digits_after 256 0 (to_be_bytes (width_of s) n) ≡ n
spelled_back s n lt = same_number s (to_be_bytes (width_of s) n) ((wide s).len n) ∙ (wide s).again n lt

pub size_is : (s : Size) → size_of (info_of s) ≡ byte_len (width_of s)
size_is size.one = refl
size_is size.two = refl
size_is size.four = refl
size_is size.eight = refl

-- ---- first bytes

bits_of : (m : Major) → major_of (code m) ≡ m
bits_of major.Unsigned = refl
bits_of major.Negative = refl
bits_of major.Bytes = refl
bits_of major.Text = refl
bits_of major.Array = refl
bits_of major.Map = refl
bits_of major.Tag = refl
bits_of major.Simple = refl

top_of : (m : Major) (info : ℕ) → info < 32 → first_byte m info / 32 ≡ code m
top_of m info lt = omega (arith, lt)

low_of : (m : Major) (info : ℕ) → info < 32 → first_byte m info % 32 ≡ info
low_of m info lt = omega (arith, lt)

major_back : (m : Major) (info : ℕ) → info < 32 → major_of (first_byte m info / 32) ≡ m
major_back m info lt = ap major_of (top_of m info lt) ∙ bits_of m

code_back : (q : ℕ) → q < 8 → code (major_of q) ≡ q
code_back q lt = grind arith

pub byte_back : (b : ℕ) → b < 256 → b ≡ first_byte (major_of (b / 32)) (b % 32)
byte_back b lt =
    let e : code (major_of (b / 32)) ≡ b / 32 = code_back (b / 32) (omega (arith, lt)) in
    rw e (omega arith)

-- what a first byte can say: the number, that there is none, or where it stands
abbrev pub Says : Major → ℕ → Type 0
Says m info = (info < 24) ⊎ ((info ≡ 31) ⊎ ((is_simple m ≡ false) × (24 ≤ info) × (info ≤ 27)))

abbrev pub IsFirst : First → List ℕ → Type 0
IsFirst first bs = (is_reserved first.«major» first.info ≡ false) × (first.info < 32) × (bs ≡ first_byte first.«major» first.info ∷ [])

abbrev pub made : Major → ℕ → First
made m info = record { «major» = m; info = info }

pub first_sound : Sound IsFirst first_at
unfolding first_at
first_sound [] h rest fits e = absurd cc
first_sound (b ∷ bs) h rest fits e =
    let m = major_of (b / 32) in
    let info = b % 32 in
    let g = passed (is_reserved m info) (record { «fault» = fault.Reserved; left = length (b ∷ bs) }) (Ok (made m info, bs)) (h, rest) e in
    subst (λ (p : First × List ℕ). Took (IsFirst p.0) (b ∷ bs) p.1) (ok_is (made m info, bs) (h, rest) g.1)
    (record { front = b ∷ []; part = (g.0, omega arith, ap (λ x. x ∷ []) (byte_back b (fits 0))); split = refl; fits = IsBytes-rest b bs fits })

pub first_again : (m : Major) (info : ℕ) (rest : List ℕ) → is_reserved m info ≡ false → info < 32 → first_at (first_byte m info ∷ rest) ≡ Ok (made m info, rest)
unfolding first_at
first_again m info rest known lt = rw (low_of m info lt, major_back m info lt, known) refl

pub first_placed : (bs : List ℕ) (e : Refusal) → first_at bs ≡ Err e → length bs ≡ e.left
unfolding first_at
first_placed [] e is = same_left {A = First × List ℕ} (record { «fault» = fault.Ended; left = 0 }) e is
first_placed (b ∷ bs) e is =
    elim (chosen (is_reserved (major_of (b / 32)) (b % 32)) (refused fault.Reserved (b ∷ bs)) (Ok (made (major_of (b / 32)) (b % 32), bs)) (Err e) is) [
      | inl w ↦ same_left {A = First × List ℕ} (record { «fault» = fault.Reserved; left = length (b ∷ bs) }) e w.1
      | inr w ↦ absurd cc
    ]

-- what is not reserved says something
pub open_or_low : (info : ℕ) → info < 32 → is_in_range 28 30 info ≡ false → (info ≡ 31) ⊎ (info ≤ 27)
open_or_low info lt is =
    elim (cases_lt info 28) [
      | inl low ↦ inr (omega (arith, low))
      | inr high ↦ elim (cases_lt info 31) [
        | inl below ↦ let in_ : is_in_range 28 30 info ≡ true = in_range_from 28 30 info high (omega (arith, below)) in absurd cc
        | inr all ↦ inl (omega (arith, all, lt))
      ]
    ]

short_or_long : (m : Major) (info : ℕ) → is_simple m ≡ false → info ≤ 27 → Says m info
short_or_long m info plain le =
    elim (cases_lt info 24) [
      | inl low ↦ inl low
      | inr high ↦ inr (inr (plain, high, le))
    ]

opened : (m : Major) (info : ℕ) → is_simple m ≡ false → (info ≡ 31) ⊎ (info ≤ 27) → Says m info
opened m info plain (inl is) = inr (inl is)
opened m info plain (inr le) = short_or_long m info plain le

pub says_plain : (m : Major) (info : ℕ) → is_simple m ≡ false → info < 32 → is_reserved m info ≡ false → Says m info
says_plain major.Unsigned info plain lt known = short_or_long major.Unsigned info refl (ltb-false 27 info known)
says_plain major.Negative info plain lt known = short_or_long major.Negative info refl (ltb-false 27 info known)
says_plain major.Tag info plain lt known = short_or_long major.Tag info refl (ltb-false 27 info known)
says_plain major.Bytes info plain lt known = opened major.Bytes info refl (open_or_low info lt known)
says_plain major.Text info plain lt known = opened major.Text info refl (open_or_low info lt known)
says_plain major.Array info plain lt known = opened major.Array info refl (open_or_low info lt known)
says_plain major.Map info plain lt known = opened major.Map info refl (open_or_low info lt known)
says_plain major.Simple info plain lt known = absurd cc

-- a first byte with its number in it or behind it is none of them
pub unreserved : (m : Major) (info : ℕ) → info ≤ 27 → is_reserved m info ≡ false
unreserved m info le = grind arith

-- ---- first bytes of items

-- with nothing wrong, a simple value has its number in its first byte
abbrev faultless : Option Fault
faultless = None

simple_low : (info : ℕ) → info < 32 → item_fault major.Simple info ≡ None → info < 24
simple_low info lt is =
    elim (chosen (eqb info 31) (Some fault.Break) (cond (is_in_range 25 27 info) (Some fault.Float) (cond (is_in_range 20 22 info) None (Some fault.Simple))) faultless is) [
      | inl w ↦ absurd cc
      | inr v ↦ elim (chosen (is_in_range 25 27 info) (Some fault.Float) (cond (is_in_range 20 22 info) None (Some fault.Simple)) faultless v.1) [
        | inl w ↦ absurd cc
        | inr u ↦ elim (chosen (is_in_range 20 22 info) faultless (Some fault.Simple) faultless u.1) [
          | inl w ↦ omega (arith, (in_range_is 20 22 info w.0).1)
          | inr w ↦ absurd cc
        ]
      ]
    ]

says_of : (m : Major) (info : ℕ) → info < 32 → is_reserved m info ≡ false → item_fault m info ≡ None → Says m info
says_of major.Simple info lt known right = inl (simple_low info lt right)
says_of major.Unsigned info lt known right = says_plain major.Unsigned info refl lt known
says_of major.Negative info lt known right = says_plain major.Negative info refl lt known
says_of major.Tag info lt known right = says_plain major.Tag info refl lt known
says_of major.Bytes info lt known right = says_plain major.Bytes info refl lt known
says_of major.Text info lt known right = says_plain major.Text info refl lt known
says_of major.Array info lt known right = says_plain major.Array info refl lt known
says_of major.Map info lt known right = says_plain major.Map info refl lt known

abbrev pub IsKind : First → List ℕ → Type 0
IsKind first bs = Says first.«major» first.info × (bs ≡ first_byte first.«major» first.info ∷ [])

pub kind_sound : Sound IsKind kind_at
unfolding kind_at
kind_sound bs h rest fits e =
    let a = bind_ok (first_at bs) (λ h. unless (item_fault h.0.«major» h.0.info) bs h) (h, rest) e in
    let f = first_sound bs a.0.0 a.0.1 fits a.1 in
    let right = not_wrong (item_fault a.0.0.«major» a.0.0.info) bs a.0 (h, rest) a.2 in
    subst (λ (p : First × List ℕ). Took (IsKind p.0) bs p.1) right.1
    (record { front = f.front; part = (says_of a.0.0.«major» a.0.0.info f.part.1 f.part.0 right.0, f.part.2); split = f.split; fits = f.fits })

pub kind_again : (m : Major) (info : ℕ) (rest : List ℕ) → is_reserved m info ≡ false → info < 32 → item_fault m info ≡ None
    → kind_at (first_byte m info ∷ rest) ≡ Ok (made m info, rest)
unfolding kind_at
kind_again m info rest known lt right = rw (first_again m info rest known lt, right) refl

pub kind_placed : (bs : List ℕ) (e : Refusal) → kind_at bs ≡ Err e → length bs ≡ e.left
unfolding kind_at
kind_placed bs e is =
    elim (bind_err (first_at bs) (λ h. unless (item_fault h.0.«major» h.0.info) bs h) e is) [
      | inl w ↦ first_placed bs e w
      | inr a ↦ wrong_left (item_fault a.0.0.«major» a.0.0.info) bs a.0 e a.2
    ]

-- ---- arguments

-- a number in its first byte or behind it
abbrev pub Argument : ℕ → ℕ → List ℕ → Type 0
Argument info n bs = ((info < 24) × (n ≡ info) × (bs ≡ [])) ⊎ ((s : Size) × (info ≡ info_of s) × Spelled s n bs)

-- the same, where it is admitted
abbrev pub Admitted : Bounds → ℕ → ℕ → List ℕ → Type 0
Admitted bounds info n bs = Argument info n bs × (bounds.admits 0 n ≡ true)

-- a number can begin in each width
abbrev pub Starts : Bounds → Type 0
Starts bounds = (s : Size) → bounds.admits (byte_len (width_of s)) 0 ≡ true

pub which_size : (info : ℕ) → 24 ≤ info → info ≤ 27 → (s : Size) × (info ≡ info_of s)
which_size info low high =
    elim (cases_lt info 25) [
      | inl a ↦ (size.one, omega (arith, low, a))
      | inr a ↦ elim (cases_lt info 26) [
        | inl b ↦ (size.two, omega (arith, a, b))
        | inr b ↦ elim (cases_lt info 27) [
          | inl c ↦ (size.four, omega (arith, b, c))
          | inr c ↦ (size.eight, omega (arith, c, high))
        ]
      ]
    ]

pub argument_sound : (bounds : Bounds) → Starts bounds → (info : ℕ) → info ≤ 27 → Sound (Admitted bounds info) (argument_at bounds info)
unfolding argument_at
argument_sound bounds starts info high bs n rest fits is =
    elim (chosen (ltb info 24) (cond (bounds.admits 0 info) (Ok (info, bs)) (refused_before bounds.otherwise bs)) (digits_at bounds (size_of info) 0 bs) (Ok (n, rest)) is) [
      | inl w ↦
          let g = failed (bounds.admits 0 info) (record { «fault» = bounds.otherwise; left = suc (length bs) }) (Ok (info, bs)) (n, rest) w.1 in
          subst (λ (p : ℕ × List ℕ). Took (Admitted bounds info p.0) bs p.1) (ok_is (info, bs) (n, rest) g.1)
          (record { front = []; part = (inl (ltb-true info 24 w.0, refl, refl), g.0); split = refl; fits = fits })
      | inr w ↦
          let s = which_size info (ltb-false info 24 w.0) high in
          let long : size_of info ≡ byte_len (width_of s.0) = ap size_of s.1 ∙ size_is s.0 in
          let d = digits_sound bounds (size_of info) 0 bs n rest fits w.1 in
          record {
            front = d.front;
            part = (
              inr (s.0, s.1, subst (λ k. Spelled s.0 k d.front) d.part.1 (spelled s.0 d.front (d.part.0 ∙ long) d.part.2)),
              d.part.3 (subst (λ k. bounds.admits k 0 ≡ true) (sym long) (starts s.0)),
            );
            split = d.split;
            fits = d.fits;
          }
    ]

pub argument_admitted : (bounds : Bounds) → ((due : ℕ) → bounds.admits due 0 ≡ true) → (info : ℕ) (bs : List ℕ) (n : ℕ) (rest : List ℕ) → argument_at bounds info bs ≡ Ok (n, rest)
    → bounds.admits 0 n ≡ true
unfolding argument_at
argument_admitted bounds starts info bs n rest is =
    elim (chosen (ltb info 24) (cond (bounds.admits 0 info) (Ok (info, bs)) (refused_before bounds.otherwise bs)) (digits_at bounds (size_of info) 0 bs) (Ok (n, rest)) is) [
      | inl w ↦
          let g = failed (bounds.admits 0 info) (record { «fault» = bounds.otherwise; left = suc (length bs) }) (Ok (info, bs)) (n, rest) w.1 in
          subst (λ (p : ℕ × List ℕ). bounds.admits 0 p.0 ≡ true) (ok_is (info, bs) (n, rest) g.1) g.0
      | inr w ↦ digits_admitted bounds (size_of info) 0 bs n rest (starts (size_of info)) w.1
    ]

pub long_info : (s : Size) → ltb (info_of s) 24 ≡ false
long_info size.one = refl
long_info size.two = refl
long_info size.four = refl
long_info size.eight = refl

pub argument_complete : (bounds : Bounds) → Fair IsByte bounds → (info : ℕ) → Complete (Admitted bounds info) (argument_at bounds info)
unfolding argument_at
argument_complete bounds fair info n front rest (inl w, admitted) =
    rw (lt-ltb info 24 w.0, ← w.1, admitted, w.2) refl
argument_complete bounds fair info n front rest (inr w, admitted) =
    let s = w.0 in
    let ds = to_be_bytes (width_of s) n in
    let back = spelled_back s n w.2.0 in
    let read : digits_at bounds (length ds) 0 (ds ++ rest) ≡ Ok (number_from_digits_after 256 0 ds, rest) =
    digits_complete IsByte bounds fair 0 ds rest ((wide s).small n) (ap (bounds.admits 0) back ∙ admitted) in
    let long : size_of info ≡ length ds = ap size_of w.1 ∙ size_is s ∙ sym ((wide s).len n) in
    rw (ap (λ k. ltb k 24) w.1 ∙ long_info s, long, w.2.1) (read ∙ ap (λ k. Ok (k, rest)) back)

pub argument_placed : (bounds : Bounds) → Fair IsByte bounds → Starts bounds → (info : ℕ) → info ≤ 27 → (bs : List ℕ) (e : Refusal) → IsBytes bs → argument_at bounds info bs ≡ Err e
    → (suc (length bs) ≡ e.left) ⊎ ((24 ≤ info) × Before (Opens (Admitted bounds info)) bs e.left)
unfolding argument_at
argument_placed bounds fair starts info high bs e fits is =
    elim (chosen (ltb info 24) (cond (bounds.admits 0 info) (Ok (info, bs)) (refused_before bounds.otherwise bs)) (digits_at bounds (size_of info) 0 bs) (Err e) is) [
      | inl w ↦ elim (chosen (bounds.admits 0 info) (Ok (info, bs)) (refused_before bounds.otherwise bs) (Err e) w.1) [
        | inl v ↦ absurd cc
        | inr v ↦ inl (same_left {A = ℕ × List ℕ} (record { «fault» = bounds.otherwise; left = suc (length bs) }) e v.1)
      ]
      | inr w ↦
          let s = which_size info (ltb-false info 24 w.0) high in
          let long : size_of info ≡ byte_len (width_of s.0) = ap size_of s.1 ∙ size_is s.0 in
          let d = digits_placed IsByte bounds fair (size_of info) 0 bs e fits (subst (λ k. bounds.admits k 0 ≡ true) (sym long) (starts s.0)) w.1 in
          inr (
            ltb-false info 24 w.0,
            record {
              front = d.0;
              opens = (number_from_digits_after 256 0 (d.0 ++ d.1), d.1, (inr (s.0, s.1, spelled s.0 (d.0 ++ d.1) (d.5 ∙ long) d.6), d.7));
              behind = d.2;
              split = d.3;
              last = d.4;
            },
          )
    ]

-- ---- heads

-- a number in the bytes behind the first
abbrev pub IsLong : Major → ℕ → List ℕ → Type 0
IsLong m n bs = (is_simple m ≡ false) × (s : Size) × (n < room s) × (bs ≡ first_byte m (info_of s) ∷ to_be_bytes (width_of s) n)

-- what is read as a head
abbrev pub HeadOf : Major → Option ℕ → List ℕ → Type 0
HeadOf m None bs = bs ≡ first_byte m 31 ∷ []
HeadOf m (Some n) bs = ((n < 24) × (bs ≡ first_byte m n ∷ [])) ⊎ IsLong m n bs

-- the same, with a number that is admitted
abbrev pub HeadIn : Bounds → Major → Option ℕ → List ℕ → Type 0
HeadIn bounds m None bs = HeadOf m None bs
HeadIn bounds m (Some n) bs = HeadOf m (Some n) bs × (bounds.admits 0 n ≡ true)

abbrev pub HeadIs : Bounds → Head → List ℕ → Type 0
HeadIs bounds h bs = HeadIn bounds h.«major» h.number bs

pub head_is : (bounds : Bounds) (m : Major) (o : Option ℕ) (bs : List ℕ) → HeadIn bounds m o bs → HeadOf m o bs
head_is bounds m None bs is = is
head_is bounds m (Some n) bs is = is.0

abbrev pub headed : Major → Option ℕ → Head
headed m o = record { «major» = m; number = o }

-- a first byte with the number behind it
pub long_is : (s : Size) → 24 ≤ info_of s
long_is size.one = omega arith
long_is size.two = omega arith
long_is size.four = omega arith
long_is size.eight = omega arith

pub first_and : (m : Major) (info n : ℕ) (bs : List ℕ) → Says m info → (info ≡ 31 → ⊥) → Argument info n bs → HeadOf m (Some n) (first_byte m info ∷ bs)
first_and m info n bs says open_ (inl w) = inl (omega (arith, w.0, w.1), rw (w.1, w.2) refl)
first_and m info n bs (inl low) open_ (inr w) = absurd (omega (arith, low, w.1, long_is w.0))
first_and m info n bs (inr (inl is)) open_ (inr w) = absurd (open_ is)
first_and m info n bs (inr (inr says)) open_ (inr w) = inr (says.0, w.0, w.2.0, rw (w.1, w.2.1) refl)

pub below_28 : (m : Major) (info : ℕ) → Says m info → (info ≡ 31 → ⊥) → info ≤ 27
below_28 m info (inl low) open_ = omega (arith, low)
below_28 m info (inr (inl is)) open_ = absurd (open_ is)
below_28 m info (inr (inr says)) open_ = says.2

pub behind_sound : (bounds : Bounds) → Starts bounds → (first : First) → Says first.«major» first.info
    → Sound (λ h bs. HeadIn bounds h.«major» h.number (first_byte first.«major» first.info ∷ bs) × (h.«major» ≡ first.«major»)) (head_behind bounds first)
behind_sound bounds starts first says bs h rest fits is =
    let m = first.«major» in
    let info = first.info in
    elim (chosen (eqb info 31) (Ok (headed m None, bs)) (argument_at bounds info bs >>= λ n. Ok (headed m (Some n.0), n.1)) (Ok (h, rest)) is) [
      | inl w ↦ subst (λ (p : Head × List ℕ). Took (λ b. HeadIn bounds p.0.«major» p.0.number (first_byte m info ∷ b) × (p.0.«major» ≡ m)) bs p.1) (ok_is (headed m None, bs) (h, rest) w.1)
          (record { front = []; part = (ap (λ k. first_byte m k ∷ []) (eqb-true info 31 w.0), refl); split = refl; fits = fits })
      | inr w ↦
          let open_ = eqb-false info 31 w.0 in
          let a = bind_ok (argument_at bounds info bs) (λ n. Ok (headed m (Some n.0), n.1)) (h, rest) w.1 in
          let t = argument_sound bounds starts info (below_28 m info says open_) bs a.0.0 a.0.1 fits a.1 in
          subst (λ (p : Head × List ℕ). Took (λ b. HeadIn bounds p.0.«major» p.0.number (first_byte m info ∷ b) × (p.0.«major» ≡ m)) bs p.1) (ok_is (headed m (Some a.0.0), a.0.1) (h, rest) a.2)
          (record { front = t.front; part = ((first_and m info a.0.0 t.front says open_ t.part.0, t.part.1), refl); split = t.split; fits = t.fits })
    ]

-- the bytes of a head, apart
pub record Apart (bounds : Bounds) (m : Major) (o : Option ℕ) (front : List ℕ) : Type 0 where
  pub info : ℕ
  pub says : Says m info
  pub back : List ℕ
  pub split : front ≡ first_byte m info ∷ back
  pub read : (rest : List ℕ) → head_behind bounds (made m info) (back ++ rest) ≡ Ok (headed m o, rest)

pub low_info : (s : Size) → (info_of s ≡ 31 → ⊥)
low_info size.one is = omega (arith, is)
low_info size.two is = omega (arith, is)
low_info size.four is = omega (arith, is)
low_info size.eight is = omega (arith, is)

pub high_info : (s : Size) → info_of s ≤ 27
high_info size.one = omega arith
high_info size.two = omega arith
high_info size.four = omega arith
high_info size.eight = omega arith

numbered_again : (bounds : Bounds) (m : Major) (info n : ℕ) (back rest : List ℕ) → (info ≡ 31 → ⊥) → argument_at bounds info (back ++ rest) ≡ Ok (n, rest)
    → head_behind bounds (made m info) (back ++ rest) ≡ Ok (headed m (Some n), rest)
numbered_again bounds m info n back rest other is = rw (ne_eqb info 31 other, is) refl

pub head_apart : (bounds : Bounds) → Fair IsByte bounds → (m : Major) (o : Option ℕ) (front : List ℕ) → HeadIn bounds m o front → Apart bounds m o front
head_apart bounds fair m None front is =
    record { info = 31; says = inr (inl refl); back = []; split = is; read = λ rest. refl }
head_apart bounds fair m (Some n) front (inl w, admitted) = record {
  info = n;
  says = inl w.0;
  back = [];
  split = w.1;
  read = λ rest. numbered_again bounds m n n [] rest (λ e. omega (arith, w.0, e)) (argument_complete bounds fair n n [] rest (inl (w.0, refl, refl), admitted));
}
head_apart bounds fair m (Some n) front (inr w, admitted) = record {
  info = info_of w.1;
  says = inr (inr (w.0, long_is w.1, high_info w.1));
  back = to_be_bytes (width_of w.1) n;
  split = w.3;
  read = λ rest. numbered_again bounds m (info_of w.1) n (to_be_bytes (width_of w.1) n) rest (low_info w.1)
      (argument_complete bounds fair (info_of w.1) n (to_be_bytes (width_of w.1) n) rest (inr (w.1, refl, (w.2, refl)), admitted));
}

-- ---- bounds of heads

pub bounds_fair : (limit : ℕ) (m : Major) → Fair IsByte (bounds_of limit m)
bounds_fair limit major.Tag = between_fair 2 3 fault.Tag (omega arith)
bounds_fair zero major.Array = between_fair 0 0 fault.TooDeep (omega arith)
bounds_fair zero major.Map = between_fair 0 0 fault.TooDeep (omega arith)
bounds_fair (suc limit) major.Array = unbounded_fair IsByte
bounds_fair (suc limit) major.Map = unbounded_fair IsByte
bounds_fair limit major.Unsigned = unbounded_fair IsByte
bounds_fair limit major.Negative = unbounded_fair IsByte
bounds_fair limit major.Bytes = unbounded_fair IsByte
bounds_fair limit major.Text = unbounded_fair IsByte
bounds_fair limit major.Simple = unbounded_fair IsByte

tag_starts : Starts (between 2 3 fault.Tag)
tag_starts size.one = refl
tag_starts size.two = refl
tag_starts size.four = refl
tag_starts size.eight = refl

pub up_to_starts : (most : ℕ) (f : Fault) → Starts (between 0 most f)
up_to_starts most f s = in_range_from (leading (byte_len (width_of s)) 0) (leading (byte_len (width_of s)) most) 0 (omega (arith, leading_none (byte_len (width_of s)))) (omega arith)

pub bounds_start : (limit : ℕ) (m : Major) → Starts (bounds_of limit m)
bounds_start limit major.Tag = tag_starts
bounds_start zero major.Array = up_to_starts 0 fault.TooDeep
bounds_start zero major.Map = up_to_starts 0 fault.TooDeep
bounds_start (suc limit) major.Array = λ s. refl
bounds_start (suc limit) major.Map = λ s. refl
bounds_start limit major.Unsigned = λ s. refl
bounds_start limit major.Negative = λ s. refl
bounds_start limit major.Bytes = λ s. refl
bounds_start limit major.Text = λ s. refl
bounds_start limit major.Simple = λ s. refl

-- ---- heads of items

abbrev pub ItemHead : ℕ → Head → List ℕ → Type 0
ItemHead limit h bs = HeadIs (bounds_of limit h.«major») h bs

same_bounds : (limit : ℕ) (h : Head) (m : Major) (bs : List ℕ) → h.«major» ≡ m → HeadIs (bounds_of limit m) h bs → ItemHead limit h bs
same_bounds limit h m bs is head = subst (λ k. HeadIs (bounds_of limit k) h bs) (sym is) head

pub head_sound : (limit : ℕ) → Sound (ItemHead limit) (head_at limit)
unfolding head_at
head_sound limit bs h rest fits is =
    let a = bind_ok (kind_at bs) (λ f. head_behind (bounds_of limit f.0.«major») f.0 f.1) (h, rest) is in
    let f = kind_sound bs a.0.0 a.0.1 fits a.1 in
    let m = a.0.0.«major» in
    let b = behind_sound (bounds_of limit m) (bounds_start limit m) a.0.0 f.part.0 a.0.1 h rest f.fits a.2 in
    record {
      front = first_byte m a.0.0.info ∷ b.front;
      part = same_bounds limit h m (first_byte m a.0.0.info ∷ b.front) b.part.1 b.part.0;
      split = regrouped bs f.front a.0.1 b.front rest f.split b.split ∙ ap (λ t. (t ++ b.front) ++ rest) f.part.1;
      fits = b.fits;
    }

-- a head that an item can have
abbrev pub Stands : Major → Option ℕ → Type 0
Stands major.Simple (Some n) = (20 ≤ n) × (n ≤ 22)
Stands m (Some n) = Unit {0}
Stands major.Bytes None = Unit {0}
Stands major.Text None = Unit {0}
Stands major.Array None = Unit {0}
Stands major.Map None = Unit {0}
Stands m None = ⊥

-- a first byte that an item can have
abbrev IsRight : Major → ℕ → Type 0
IsRight m info = (is_reserved m info ≡ false) × (info < 32) × (item_fault m info ≡ None)

short_right : (limit : ℕ) (m : Major) (n : ℕ) → n < 24 → (bounds_of limit m).admits 0 n ≡ true → Stands m (Some n) → IsRight m n
short_right limit major.Simple n lt admitted stands =
    (unreserved major.Simple n (omega (arith, lt)), omega (arith, lt), rw (ne_eqb n 31 (λ e. omega (arith, e, lt)), beyond_range 25 27 n (omega (arith, lt)), in_range_from 20 22 n stands.0 stands.1) refl)
short_right limit major.Tag n lt admitted stands =
    (unreserved major.Tag n (omega (arith, lt)), omega (arith, lt), rw (le-ltb 23 n (omega (arith, lt)), admitted) refl)
short_right limit major.Unsigned n lt admitted stands = (unreserved major.Unsigned n (omega (arith, lt)), omega (arith, lt), refl)
short_right limit major.Negative n lt admitted stands = (unreserved major.Negative n (omega (arith, lt)), omega (arith, lt), refl)
short_right limit major.Bytes n lt admitted stands = (unreserved major.Bytes n (omega (arith, lt)), omega (arith, lt), refl)
short_right limit major.Text n lt admitted stands = (unreserved major.Text n (omega (arith, lt)), omega (arith, lt), refl)
short_right limit major.Array n lt admitted stands = (unreserved major.Array n (omega (arith, lt)), omega (arith, lt), refl)
short_right limit major.Map n lt admitted stands = (unreserved major.Map n (omega (arith, lt)), omega (arith, lt), refl)

long_right : (m : Major) (s : Size) → is_simple m ≡ false → IsRight m (info_of s)
long_right m s plain =
    let le = high_info s in
    (unreserved m (info_of s) le, omega (arith, le), no_fault m (info_of s) plain (long_is s))
  where
    no_fault : (m : Major) (info : ℕ) → is_simple m ≡ false → 24 ≤ info → item_fault m info ≡ None
    no_fault major.Simple info plain long = absurd cc
    no_fault major.Tag info plain long = rw (lt-ltb 23 info (omega (arith, long))) refl
    no_fault major.Unsigned info plain long = refl
    no_fault major.Negative info plain long = refl
    no_fault major.Bytes info plain long = refl
    no_fault major.Text info plain long = refl
    no_fault major.Array info plain long = refl
    no_fault major.Map info plain long = refl

open_right : (m : Major) → Stands m None → IsRight m 31
open_right major.Bytes stands = (refl, omega arith, refl)
open_right major.Text stands = (refl, omega arith, refl)
open_right major.Array stands = (refl, omega arith, refl)
open_right major.Map stands = (refl, omega arith, refl)
open_right major.Unsigned stands = absurd stands
open_right major.Negative stands = absurd stands
open_right major.Tag stands = absurd stands
open_right major.Simple stands = absurd stands

head_right : (limit : ℕ) (m : Major) (o : Option ℕ) (front : List ℕ) (is : HeadIn (bounds_of limit m) m o front) → Stands m o
    → IsRight m (head_apart (bounds_of limit m) (bounds_fair limit m) m o front is).info
unfolding head_apart bounds_fair
head_right limit m None front is stands = open_right m stands
head_right limit m (Some n) front (inl w, admitted) stands = short_right limit m n w.0 admitted stands
head_right limit m (Some n) front (inr w, admitted) stands = long_right m w.1 w.0

pub head_complete : (limit : ℕ) (h : Head) (front rest : List ℕ) → ItemHead limit h front → Stands h.«major» h.number → head_at limit (front ++ rest) ≡ Ok (h, rest)
unfolding head_at
head_complete limit h front rest is stands =
    let bounds = bounds_of limit h.«major» in
    let a = head_apart bounds (bounds_fair limit h.«major») h.«major» h.number front is in
    let right = head_right limit h.«major» h.number front is stands in
    ap (λ t. head_at limit (t ++ rest)) a.split
    ∙ rw (kind_again h.«major» a.info (a.back ++ rest) right.0 right.1 right.2) (a.read rest)

-- where nothing is refused before its first byte
not_so_simple : (m : Major) (info : ℕ) → Says m info → (info ≡ 31 → ⊥) → 24 ≤ info → is_simple m ≡ false
not_so_simple m info (inl low) open_ long = absurd (omega (arith, low, long))
not_so_simple m info (inr (inl is)) open_ long = absurd (open_ is)
not_so_simple m info (inr (inr says)) open_ long = says.0

pub head_behind_placed : (bounds : Bounds) → Fair IsByte bounds → Starts bounds → (first : First) → Says first.«major» first.info → (bs : List ℕ) (e : Refusal) → IsBytes bs
    → head_behind bounds first bs ≡ Err e
    → (suc (length bs) ≡ e.left) ⊎ ((is_simple first.«major» ≡ false) × Before (Opens (λ n back. HeadIn bounds first.«major» (Some n) (first_byte first.«major» first.info ∷ back))) bs e.left)
head_behind_placed bounds fair starts first says bs e fits is =
    let m = first.«major» in
    let info = first.info in
    elim (chosen (eqb info 31) (Ok (headed m None, bs)) (argument_at bounds info bs >>= λ n. Ok (headed m (Some n.0), n.1)) (Err e) is) [
      | inl w ↦ absurd cc
      | inr w ↦
          let open_ = eqb-false info 31 w.0 in
          elim (bind_err (argument_at bounds info bs) (λ n. Ok (headed m (Some n.0), n.1)) e w.1) [
            | inl v ↦ elim (argument_placed bounds fair starts info (below_28 m info says open_) bs e fits v) [
              | inl at ↦ inl at
              | inr (long, b) ↦ inr (
                not_so_simple m info says open_ long,
                instead (Opens (Admitted bounds info)) (Opens (λ n back. HeadIn bounds m (Some n) (first_byte m info ∷ back))) bs e.left
                    (λ front o. (o.0, o.1, (first_and m info o.0 (front ++ o.1) says open_ o.2.0, o.2.1))) b,
              )
            ]
            | inr v ↦ absurd cc
          ]
    ]

-- heads with a number
abbrev pub NumberedHead : ℕ → (Major × ℕ) → List ℕ → Type 0
NumberedHead limit p bs = (is_simple p.0 ≡ false) × HeadIn (bounds_of limit p.0) p.0 (Some p.1) bs

-- refused at its first byte, or behind what begins a head with a number
pub head_placed : (limit : ℕ) (bs : List ℕ) (e : Refusal) → IsBytes bs → head_at limit bs ≡ Err e
    → (length bs ≡ e.left) ⊎ Before (Opens (NumberedHead limit)) bs e.left
unfolding head_at
head_placed limit bs e fits is =
    elim (bind_err (kind_at bs) (λ f. head_behind (bounds_of limit f.0.«major») f.0 f.1) e is) [
      | inl w ↦ inl (kind_placed bs e w)
      | inr a ↦
          let f = kind_sound bs a.0.0 a.0.1 fits a.1 in
          let m = a.0.0.«major» in
          let byte = first_byte m a.0.0.info in
          let split : bs ≡ (byte ∷ []) ++ a.0.1 = f.split ∙ ap (λ t. t ++ a.0.1) f.part.1 in
          elim (head_behind_placed (bounds_of limit m) (bounds_fair limit m) (bounds_start limit m) a.0.0 f.part.0 a.0.1 e f.fits a.2) [
            | inl at ↦ inl (omega (arith, ap length split, at))
            | inr (simple, b) ↦ inr (behind_a (Opens (λ n back. HeadIn (bounds_of limit m) m (Some n) (byte ∷ back))) (Opens (NumberedHead limit)) (byte ∷ []) a.0.1 bs e.left split
                (λ front o. ((m, o.0), o.1, (simple, o.2))) b)
          ]
    ]

-- what is read as a head with a number is one
pub numbered : (m : Major) (n : ℕ) (front : List ℕ) → HeadOf m (Some n) front → IsHead m n front
numbered m n front (inl w) = inl w
numbered m n front (inr w) = inr (w.1, w.2, w.3)

pub of_head : (m : Major) → is_simple m ≡ false → (n : ℕ) (front : List ℕ) → IsHead m n front → HeadOf m (Some n) front
of_head m simple n front (inl w) = inl w
of_head m simple n front (inr w) = inr (simple, w.0, w.1, w.2)

-- ---- as functions read them

pub byte_is : (bs : List ℕ) → 1 ≤ length bs → digits_at unbounded 1 0 bs ≡ Ok (get_or bs 0 0, take (length bs - 1) (drop 1 bs))
unfolding digits_at
byte_is [] long = absurd (omega (arith, long))
byte_is (b ∷ bs) long =
    let same : 0 * 256 + b ≡ b = omega arith in
    rw (take_all (suc (length bs) - 1) bs (omega arith)) (ap (λ n. Ok (n, bs)) same)

pub wide_is : (s : Size) (bs : List ℕ) (n : ℕ) (rest : List ℕ) → byte_len (width_of s) ≤ length bs
    → n ≡ from_be_bytes (width_of s) (take (byte_len (width_of s)) bs) → rest ≡ drop (byte_len (width_of s)) bs
    → digits_at unbounded (byte_len (width_of s)) 0 bs ≡ Ok (n, rest)
wide_is s bs n rest long number behind =
    let k = byte_len (width_of s) in
    reads_unbounded k 0 bs long
    ∙ rw (same_number s (take k bs) (omega (arith, length-take k bs, long)), ← number, ← behind) refl
