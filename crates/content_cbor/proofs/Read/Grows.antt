-- What is refused, but not as malformed, begins a well-formed item up to and with the place.
use Rattle.std.proofs.Common.{◌≡◌, ℕ, suc, zero, ◌+◌, ◌*◌, ◌-◌, ◌/◌, ◌%◌, ◌<◌, ◌≤◌, Bool, true, false, cond, eqb, ltb, List, [], ◌∷◌, ◌++◌, length, take, drop, Option, Some, None, Result, Ok, Err, ◌⊎◌, refl, sym, ap, subst, ◌∙◌, append_assoc, append-nil, arith, length-append, inl, inr}
use Rattle.std.specs.Int.{byte_len}
use Rattle.std.specs.Int.Digits.{number_from_digits_after}
use Rattle.std.specs.List.{concat}
use Rattle.std.proofs.lemmas.Bool.{eqb-false, ltb-false, ltb-true}
use Rattle.std.proofs.lemmas.List.{nil_from_length}
use Rattle.content_tree.specs.Values.Text.{static_name, owned_text}
use Rattle.content_tree.specs.Values.Tree.{Tree}
use Rattle.content_cbor.specs.Codes.{IsHead, info_of, width_of}
use Rattle.content_cbor.specs.Heads.{first_byte}
use Rattle.content_cbor.specs.WellFormed.{IsChunk, IsFormed, Row, Two}
use Rattle.content_cbor.specs.declared.decode_error.Fault.{Fault}
use Rattle.content_cbor.specs.declared.decode_error.Fault.TheVariants as fault
use Rattle.content_cbor.specs.declared.heads.First.{First}
use Rattle.content_cbor.specs.declared.heads.Major.{Major}
use Rattle.content_cbor.specs.declared.heads.Major.TheVariants as major
use Rattle.content_cbor.specs.declared.stop.Refusal.{Refusal}
use Rattle.content_cbor.specs.declared.utf8.Lack.{Lack}
use Rattle.content_cbor.specs.Inner.Steps.{◌>>=◌, Reader, or_refused, refused, refused_before, unless}
use Rattle.content_cbor.specs.Inner.Numbers.{Bounds, argument_at, digits_at, size_of, unbounded}
use Rattle.content_cbor.specs.Inner.Texts.{after_byte, tail, text_at, within}
use Rattle.content_cbor.specs.Inner.Reading.{at_break, begins_chunk, bounds_of, bytes_at, chunk_at, chunks_at, content_at, each_at, first_at, head_at, head_behind}
use Rattle.content_cbor.specs.Inner.Reading.{is_reserved, is_simple, item_at, item_fault, kind_at, length_at, major_of, pair_at, room, string_at, string_major, until_at}
use Rattle.content_cbor.proofs.Read.Begun.{Before, behind_a, instead}
use Rattle.content_cbor.proofs.Read.Fills.{Fronts, HeadGoes, byte_begun, head_begun, piece_chunk, read_numbered, rows, zero_item}
use Rattle.content_cbor.proofs.Read.Formed.{ArePlain, IsPlain}
use Rattle.content_cbor.proofs.Read.Heads.{HeadOf, Says, below_28, first_sound, headed, kind_sound, made, size_is, spelled, which_size}
use Rattle.content_cbor.proofs.Read.Numbers.{no_bytes, one_more}
use Rattle.content_cbor.proofs.Read.Shrinks.{Advances, advances_chunk, shorter}
use Rattle.content_cbor.proofs.Read.Steps.{bind_err, bind_ok, chosen, not_wrong, ok_is, same_left, same_refusal, told, wrong_left}
use Rattle.content_cbor.proofs.Read.Strings.{begins_is, chunk_sound, length_sound, open_starts, says_chunk}
use Rattle.content_cbor.proofs.Read.Took.{IsBytes, IsBytes-rest, Took, regrouped}
use Rattle.content_cbor.proofs.Read.Utf8.{so_many, spaces}

-- where a reader refuses, but not as malformed, such a part is begun up to and with the place
abbrev pub Grows : {A : Type 0} → (List ℕ → Type 0) → Reader A → Type 0
Grows {A} Part read = (bs : List ℕ) (e : Refusal) → IsBytes bs → read bs ≡ Err e → IsPlain e.«fault» → Before (Fronts Part) bs (e.left - 1)

-- what is read is such a part
abbrev pub Finds : {A : Type 0} → (List ℕ → Type 0) → Reader A → Type 0
Finds {A} Part read = (bs : List ℕ) (x : A) (rest : List ℕ) → IsBytes bs → read bs ≡ Ok (x, rest) → Took Part bs rest

-- ---- places

all_of : (Begun : List ℕ → Type 0) (bs : List ℕ) (left : ℕ) → Begun bs → 0 ≡ left → Before Begun bs (left - 1)
all_of Begun bs left opens is = record { front = bs; opens = opens; behind = []; split = sym (append-nil bs); last = omega (arith, is) }

one_of : (Begun : List ℕ → Type 0) (b : ℕ) (bs : List ℕ) (left : ℕ) → Begun (b ∷ []) → suc (length bs) ≡ left → Before Begun (b ∷ bs) (left - 1)
one_of Begun b bs left opens is = record { front = b ∷ []; opens = opens; behind = bs; split = refl; last = omega (arith, is) }

pub byte_before : (Begun : List ℕ → Type 0) (bs : List ℕ) (left : ℕ) → Begun [] → suc (length bs) ≡ left → Before Begun bs (left - 1)
byte_before Begun bs left opens is = record { front = []; opens = opens; behind = bs; split = refl; last = omega (arith, is) }

pub ended_of : (Begun : List ℕ → Type 0) (bs : List ℕ) (left : ℕ) → Begun [] → (bs ≡ []) × (0 ≡ left) → Before Begun bs (left - 1)
ended_of Begun bs left opens is = record { front = []; opens = opens; behind = bs; split = refl; last = omega (arith, ap length is.0, is.1) }

-- ---- faults

pub true_false : true ≡ false → ⊥
true_false e = absurd cc

pub same_fault : {A : Type 0} (d e : Refusal) → told {A = A} d ≡ told e → IsPlain e.«fault» → IsPlain d.«fault»
same_fault {A} d e is plain = subst (λ (u : Refusal). IsPlain u.«fault») (sym (same_refusal {A = A} d e is)) plain

-- ---- first bytes

pub none_first : (bs : List ℕ) (e : Refusal) → first_at bs ≡ Err e → IsPlain e.«fault» → (bs ≡ []) × (0 ≡ e.left)
unfolding first_at
none_first [] e is plain = (refl, same_left {A = First × List ℕ} (record { «fault» = fault.Ended; left = 0 }) e is)
none_first (b ∷ bs) e is plain =
    elim (chosen (is_reserved (major_of (b / 32)) (b % 32)) (refused fault.Reserved (b ∷ bs)) (Ok (made (major_of (b / 32)) (b % 32), bs)) (Err e) is) [
      | inl w ↦ absurd (true_false (same_fault {A = First × List ℕ} (record { «fault» = fault.Reserved; left = suc (length bs) }) e w.1 plain))
      | inr w ↦ absurd cc
    ]

no_break : (m : Major) (info : ℕ) → ArePlain (item_fault m info) → m ≡ major.Simple → info ≡ 31 → ⊥
no_break m info plain is all =
    let p : ArePlain (item_fault major.Simple 31) = subst (λ k. ArePlain (item_fault k 31)) is (subst (λ i. ArePlain (item_fault m i)) all plain) in true_false p

byte_grown : (Inner : List ℕ → Type 0) → Inner (0 ∷ []) → (bs : List ℕ) (h : First) (rest : List ℕ) (left : ℕ) → IsBytes bs → first_at bs ≡ Ok (h, rest)
    → (h.«major» ≡ major.Simple → h.info ≡ 31 → ⊥) → length bs ≡ left → Before (Fronts (IsFormed Inner)) bs (left - 1)
byte_grown Inner zeros bs h rest left fits is isnt at =
    let f = first_sound bs h rest fits is in
    let byte = first_byte h.«major» h.info in
    let split : bs ≡ (byte ∷ []) ++ rest = f.split ∙ ap (λ t. t ++ rest) f.part.2 in
    record {
      front = byte ∷ [];
      opens = byte_begun Inner zeros h.«major» h.info f.part.1 f.part.0 isnt;
      behind = rest;
      split = split;
      last = omega (arith, at, ap length split);
    }

wrong_plain : {A : Type 0} (o : Option Fault) (left : List ℕ) (x : A) (e : Refusal) → unless o left x ≡ Err e → IsPlain e.«fault» → ArePlain o
wrong_plain None left x e is plain = absurd cc
wrong_plain {A} (Some f) left x e is plain = same_fault {A = A} (record { «fault» = f; left = length left }) e is plain

kind_grown : (Inner : List ℕ → Type 0) → Inner (0 ∷ []) → Grows (IsFormed Inner) kind_at
unfolding kind_at
kind_grown Inner zeros bs e fits is plain =
    elim (bind_err (first_at bs) (λ h. unless (item_fault h.0.«major» h.0.info) bs h) e is) [
      | inl w ↦ ended_of (Fronts (IsFormed Inner)) bs e.left (0 ∷ [], zero_item Inner) (none_first bs e w plain)
      | inr a ↦
          let o = item_fault a.0.0.«major» a.0.0.info in
          byte_grown Inner zeros bs a.0.0 a.0.1 e.left fits a.1 (no_break a.0.0.«major» a.0.0.info (wrong_plain o bs a.0 e a.2 plain)) (wrong_left o bs a.0 e a.2)
    ]

kind_known : (bs : List ℕ) (x : First × List ℕ) → kind_at bs ≡ Ok x → (h : First × List ℕ) × (first_at bs ≡ Ok h) × ArePlain (item_fault h.0.«major» h.0.info)
unfolding kind_at
kind_known bs x is =
    let a = bind_ok (first_at bs) (λ h. unless (item_fault h.0.«major» h.0.info) bs h) x is in
    let n = not_wrong (item_fault a.0.0.«major» a.0.0.info) bs a.0 x a.2 in
    (a.0, a.1, subst ArePlain (sym n.0) tt)

pub deep_grown : (Inner : List ℕ → Type 0) → Inner (0 ∷ []) → Grows (IsFormed Inner) (item_at 0)
unfolding item_at
deep_grown Inner zeros bs e fits is plain =
    elim (bind_err (kind_at bs) (λ h. refused fault.TooDeep bs) e is) [
      | inl w ↦ kind_grown Inner zeros bs e fits w plain
      | inr a ↦
          let b = kind_known bs a.0 a.1 in
          byte_grown Inner zeros bs b.0.0 b.0.1 e.left fits b.1 (no_break b.0.0.«major» b.0.0.info b.2)
          (same_left {A = Tree × List ℕ} (record { «fault» = fault.TooDeep; left = length bs }) e a.2)
    ]

-- ---- numbers

-- digits up to and with a place, and more that make them so many
record DigitsGo (due : ℕ) (bs : List ℕ) (left : ℕ) : Type 0 where
  front : List ℕ
  more : List ℕ
  behind : List ℕ
  split : bs ≡ front ++ behind
  last : length behind ≡ left
  long : length (front ++ more) ≡ due
  fits : IsBytes (front ++ more)

zeros_of : (n : ℕ) → (ds : List ℕ) × (length ds ≡ n) × IsBytes ds
zeros_of zero = ([], refl, no_bytes)
zeros_of (suc n) = let z = zeros_of n in (0 ∷ z.0, ap suc z.1, one_more 0 z.0 (omega arith) z.2)

digits_go : (bounds : Bounds) (due n : ℕ) (bs : List ℕ) (e : Refusal) → IsBytes bs → digits_at bounds due n bs ≡ Err e → DigitsGo due bs (e.left - 1)
unfolding digits_at
digits_go bounds zero n bs e fits is = absurd cc
digits_go bounds (suc due) n [] e fits is =
    let z = zeros_of (suc due) in
    record {
      front = [];
      more = z.0;
      behind = [];
      split = refl;
      last = omega (arith, same_left {A = ℕ × List ℕ} (record { «fault» = fault.Ended; left = 0 }) e is);
      long = z.1;
      fits = z.2;
    }
digits_go bounds (suc due) n (b ∷ bs) e fits is =
    elim (chosen (bounds.admits due (n * 256 + b)) (digits_at bounds due (n * 256 + b) bs) (refused bounds.otherwise (b ∷ bs)) (Err e) is) [
      | inl w ↦
          let d = digits_go bounds due (n * 256 + b) bs e (IsBytes-rest b bs fits) w.1 in
          record {
            front = b ∷ d.front;
            more = d.more;
            behind = d.behind;
            split = ap (λ t. b ∷ t) d.split;
            last = d.last;
            long = ap suc d.long;
            fits = one_more b (d.front ++ d.more) (fits 0) d.fits;
          }
      | inr w ↦
          let z = zeros_of due in
          record {
            front = b ∷ [];
            more = z.0;
            behind = bs;
            split = refl;
            last = omega (arith, same_left {A = ℕ × List ℕ} (record { «fault» = bounds.otherwise; left = suc (length bs) }) e w.1);
            long = ap suc z.1;
            fits = one_more b z.0 (fits 0) z.2;
          }
    ]

-- so many bytes are begun
abbrev pub Filled : ℕ → List ℕ → Type 0
Filled n front = (more : List ℕ) × (length (front ++ more) ≡ n)

pub digits_grown : (bounds : Bounds) (due n : ℕ) (bs : List ℕ) (e : Refusal) → IsBytes bs → digits_at bounds due n bs ≡ Err e → Before (Filled due) bs (e.left - 1)
digits_grown bounds due n bs e fits is =
    let d = digits_go bounds due n bs e fits is in
    record { front = d.front; opens = (d.more, d.long); behind = d.behind; split = d.split; last = d.last }

pub argument_goes : (bounds : Bounds) (m : Major) (info : ℕ) (bs : List ℕ) (e : Refusal) → info ≤ 27 → IsBytes bs → argument_at bounds info bs ≡ Err e → Before (HeadGoes m info) bs (e.left - 1)
unfolding argument_at
argument_goes bounds m info bs e low fits is =
    elim (chosen (ltb info 24) (cond (bounds.admits 0 info) (Ok (info, bs)) (refused_before bounds.otherwise bs)) (digits_at bounds (size_of info) 0 bs) (Err e) is) [
      | inl w ↦ elim (chosen (bounds.admits 0 info) (Ok (info, bs)) (refused_before bounds.otherwise bs) (Err e) w.1) [
        | inl v ↦ absurd cc
        | inr v ↦ byte_before (HeadGoes m info) bs e.left ([], info, inl (ltb-true info 24 w.0, refl))
            (same_left {A = ℕ × List ℕ} (record { «fault» = bounds.otherwise; left = suc (length bs) }) e v.1)
      ]
      | inr w ↦
          let s = which_size info (ltb-false info 24 w.0) low in
          let long : size_of info ≡ byte_len (width_of s.0) = ap size_of s.1 ∙ size_is s.0 in
          let d = digits_go bounds (size_of info) 0 bs e fits w.1 in
          let ds : List ℕ = d.front ++ d.more in
          let p = spelled s.0 ds (d.long ∙ long) d.fits in
          record {
            front = d.front;
            opens = (
              d.more,
              number_from_digits_after 256 0 ds,
              inr (s.0, p.0, ap (λ k. first_byte m k ∷ ds) s.1 ∙ ap (λ t. first_byte m (info_of s.0) ∷ t) p.1),
            );
            behind = d.behind;
            split = d.split;
            last = d.last;
          }
    ]

-- ---- heads

never : (info : ℕ) (bs : List ℕ) (e : Refusal) → info < 24 → argument_at unbounded info bs ≡ Err e → ⊥
unfolding argument_at
never info bs e lt is =
    elim (chosen (ltb info 24) (Ok (info, bs)) (digits_at unbounded (size_of info) 0 bs) (Err e) is) [
      | inl w ↦ absurd cc
      | inr w ↦ absurd (omega (arith, lt, ltb-false info 24 w.0))
    ]

-- where a number is refused, the head is none of a simple value
refused_plain : (limit : ℕ) (m : Major) (info : ℕ) (bs : List ℕ) (e : Refusal) → Says m info → (info ≡ 31 → ⊥) → argument_at (bounds_of limit m) info bs ≡ Err e → is_simple m ≡ false
refused_plain limit major.Simple info bs e (inl low) isnt is = absurd (never info bs e low is)
refused_plain limit major.Simple info bs e (inr (inl all)) isnt is = absurd (isnt all)
refused_plain limit major.Simple info bs e (inr (inr says)) isnt is = absurd cc
refused_plain limit major.Unsigned info bs e says isnt is = refl
refused_plain limit major.Negative info bs e says isnt is = refl
refused_plain limit major.Bytes info bs e says isnt is = refl
refused_plain limit major.Text info bs e says isnt is = refl
refused_plain limit major.Array info bs e says isnt is = refl
refused_plain limit major.Map info bs e says isnt is = refl
refused_plain limit major.Tag info bs e says isnt is = refl

pub head_grown : (limit : ℕ) (Inner : List ℕ → Type 0) → Inner (0 ∷ []) → Grows (IsFormed Inner) (head_at limit)
unfolding head_at
head_grown limit Inner zeros bs e fits is plain =
    elim (bind_err (kind_at bs) (λ f. head_behind (bounds_of limit f.0.«major») f.0 f.1) e is) [
      | inl w ↦ kind_grown Inner zeros bs e fits w plain
      | inr a ↦
          let f = kind_sound bs a.0.0 a.0.1 fits a.1 in
          let m = a.0.0.«major» in
          let info = a.0.0.info in
          let bounds = bounds_of limit m in
          let byte = first_byte m info in
          let split : bs ≡ (byte ∷ []) ++ a.0.1 = f.split ∙ ap (λ t. t ++ a.0.1) f.part.1 in
          elim (chosen (eqb info 31) (Ok (headed m None, a.0.1)) (argument_at bounds info a.0.1 >>= λ n. Ok (headed m (Some n.0), n.1)) (Err e) a.2) [
            | inl w ↦ absurd cc
            | inr w ↦
                let isnt = eqb-false info 31 w.0 in
                elim (bind_err (argument_at bounds info a.0.1) (λ n. Ok (headed m (Some n.0), n.1)) e w.1) [
                  | inl v ↦ behind_a (HeadGoes m info) (Fronts (IsFormed Inner)) (byte ∷ []) a.0.1 bs (e.left - 1) split
                      (λ front o. head_begun Inner zeros m info front (refused_plain limit m info a.0.1 e f.part.0 isnt v) o)
                      (argument_goes bounds m info a.0.1 e (below_28 m info f.part.0 isnt) f.fits v)
                  | inr v ↦ absurd cc
                ]
          ]
    ]

-- ---- texts and bytes

bytes_grown : (n : ℕ) (bs : List ℕ) (e : Refusal) → bytes_at n bs ≡ Err e → Before (Filled n) bs (e.left - 1)
bytes_grown n bs e is =
    elim (chosen (ltb (length bs) n) (refused fault.Ended []) (Ok (take n bs, drop n bs)) (Err e) is) [
      | inl w ↦
          let more = spaces (n - length bs) in
          let whole : length (bs ++ more) ≡ n = omega (arith, length-append bs more, so_many (n - length bs), ltb-true (length bs) n w.0) in
          all_of (Filled n) bs e.left (more, whole) (same_left {A = List ℕ × List ℕ} (record { «fault» = fault.Ended; left = 0 }) e w.1)
      | inr w ↦ absurd cc
    ]

there_err : {A B : Type 0} (f : Fault) (left : List ℕ) (o : Option A) (then : A → Result B Refusal) (e : Refusal) → (or_refused f left o >>= then) ≡ Err e
    → (length left ≡ e.left) ⊎ ((x : A) × (then x ≡ Err e))
there_err {A} {B} f left None then e is = inl (same_left {A = B} (record { «fault» = f; left = length left }) e is)
there_err f left (Some x) then e is = inr (x, is)

text_grown : (lack : Lack) (n : ℕ) (bs : List ℕ) (e : Refusal) → text_at lack n bs ≡ Err e → Before (Filled n) bs (e.left - 1)
unfolding text_at
text_grown lack zero bs e is = absurd cc
text_grown lack (suc n) [] e is =
    all_of (Filled (suc n)) [] e.left (spaces (suc n), so_many (suc n)) (same_left {A = List ℕ × List ℕ} (record { «fault» = fault.Ended; left = 0 }) e is)
text_grown lack (suc n) (b ∷ bs) e is =
    elim (there_err fault.NotUtf8 (b ∷ bs) (within n (after_byte lack b)) (λ next. text_at next n bs >>= λ x. Ok (b ∷ x.0, x.1)) e is) [
      | inl at ↦ one_of (Filled (suc n)) b bs e.left (spaces n, ap suc (so_many n)) at
      | inr a ↦ elim (bind_err (text_at a.0 n bs) (λ x. Ok (b ∷ x.0, x.1)) e a.1) [
        | inl w ↦ behind_a (Filled n) (Filled (suc n)) (b ∷ []) bs (b ∷ bs) (e.left - 1) refl (λ front o. (o.0, ap suc o.1)) (text_grown a.0 n bs e w)
        | inr w ↦ absurd cc
      ]
    ]

content_grown : (t : Bool) (n : ℕ) (bs : List ℕ) (e : Refusal) → content_at t n bs ≡ Err e → Before (Filled n) bs (e.left - 1)
unfolding content_at
content_grown false n bs e is = bytes_grown n bs e is
content_grown true n bs e is = text_grown (tail 0) n bs e is

-- the head of a text or of bytes is begun
abbrev pub LengthGoes : Bool → List ℕ → Type 0
LengthGoes t front = (more : List ℕ) × (n : ℕ) × IsHead (string_major t) n (front ++ more)

pub length_grown : (t : Bool) (bounds : Bounds) (bs : List ℕ) (e : Refusal) → IsBytes bs → length_at t bounds bs ≡ Err e → IsPlain e.«fault» → Before (LengthGoes t) bs (e.left - 1)
unfolding length_at
length_grown t bounds bs e fits is plain =
    elim (bind_err (first_at bs) (λ h. cond (begins_chunk t h.0.«major» h.0.info) (argument_at bounds h.0.info h.1) (refused fault.WrongChunk bs)) e is) [
      | inl w ↦ ended_of (LengthGoes t) bs e.left (first_byte (string_major t) 0 ∷ [], 0, inl (omega arith, refl)) (none_first bs e w plain)
      | inr a ↦
          let m = a.0.0.«major» in
          let info = a.0.0.info in
          elim (chosen (begins_chunk t m info) (argument_at bounds info a.0.1) (refused fault.WrongChunk bs) (Err e) a.2) [
            | inr w ↦ absurd (true_false (same_fault {A = ℕ × List ℕ} (record { «fault» = fault.WrongChunk; left = length bs }) e w.1 plain))
            | inl w ↦
                let f = first_sound bs a.0.0 a.0.1 fits a.1 in
                let b = begins_is t m info w.0 in
                let byte = first_byte m info in
                let split : bs ≡ (byte ∷ []) ++ a.0.1 = f.split ∙ ap (λ u. u ++ a.0.1) f.part.2 in
                let low : info ≤ 27 = below_28 m info (says_chunk t m info b.0 f.part.1 f.part.0) (λ k. omega (arith, b.1, k)) in
                behind_a (HeadGoes m info) (LengthGoes t) (byte ∷ []) a.0.1 bs (e.left - 1) split
                (λ front o. (o.0, o.1, subst (λ k. IsHead k o.1 (byte ∷ (front ++ o.0))) b.0 o.2))
                (argument_goes bounds m info a.0.1 e low f.fits w.1)
          ]
    ]

-- a head that is begun goes on to a chunk
pub length_chunk : (t : Bool) (front : List ℕ) → LengthGoes t front → Fronts (IsChunk (string_major t)) front
length_chunk t front o =
    let more = spaces o.1 in (
      o.0 ++ more,
      (front ++ o.0, more, subst (λ k. IsHead (string_major t) k (front ++ o.0)) (sym (so_many o.1)) o.2, sym (append_assoc front o.0 more)),
    )

-- and so does what is begun behind it
pub filled_chunk : (t : Bool) (n : ℕ) (head front : List ℕ) → IsHead (string_major t) n head → Filled n front → Fronts (IsChunk (string_major t)) (head ++ front)
filled_chunk t n head front is o =
    (o.0, (head, front ++ o.0, subst (λ k. IsHead (string_major t) k head) (sym o.1) is, append_assoc head front o.0))

chunk_grown : (t : Bool) → Grows (IsChunk (string_major t)) (chunk_at t)
unfolding chunk_at
chunk_grown t bs e fits is plain =
    elim (bind_err (length_at t unbounded bs) (λ n. content_at t n.0 n.1) e is) [
      | inl w ↦ instead (LengthGoes t) (Fronts (IsChunk (string_major t))) bs (e.left - 1) (length_chunk t) (length_grown t unbounded bs e fits w plain)
      | inr a ↦
          let l = length_sound t unbounded open_starts bs a.0.0 a.0.1 fits a.1 in
          behind_a (Filled a.0.0) (Fronts (IsChunk (string_major t))) l.front a.0.1 bs (e.left - 1) l.split
          (λ front o. filled_chunk t a.0.0 l.front front l.part.0 o) (content_grown t a.0.0 a.0.1 e a.2)
    ]

chunk_found : (t : Bool) → Finds (IsChunk (string_major t)) (chunk_at t)
chunk_found t bs x rest fits is =
    let c = chunk_sound t bs x rest fits is in
    record { front = c.front; part = piece_chunk (string_major t) x c.front c.part; split = c.split; fits = c.fits }

-- ---- parts

-- parts, and a break
abbrev pub ToBreak : (List ℕ → Type 0) → List ℕ → Type 0
ToBreak Part bs = (n : ℕ) × (body : List ℕ) × Row Part n body × (bs ≡ body ++ (255 ∷ []))

-- the last part is begun
pub last_part : (Part : List ℕ → Type 0) (front : List ℕ) → Fronts Part front → Fronts (ToBreak Part) front
last_part Part front o =
    let part = front ++ o.0 in (
      o.0 ++ (255 ∷ []),
      (1, part, (part, [], o.1, refl, sym (append-nil part)), sym (append_assoc front o.0 (255 ∷ []))),
    )

-- a part before others
pub one_before : (Part : List ℕ → Type 0) (part front : List ℕ) → Part part → Fronts (ToBreak Part) front → Fronts (ToBreak Part) (part ++ front)
one_before Part part front is o =
    let rest = o.0 in
    let body = o.1.1 in (
      rest,
      (
        suc o.1.0,
        part ++ body,
        (part, body, is, o.1.2, refl),
        append_assoc part front rest ∙ ap (λ t. part ++ t) o.1.3 ∙ sym (append_assoc part body (255 ∷ [])),
      ),
    )

pub none_left : {A : Type 0} (bs : List ℕ) (e : Refusal) → length bs ≤ 0 → refused {A = A} fault.Ended [] ≡ Err e → (bs ≡ []) × (0 ≡ e.left)
none_left {A} bs e room is = (nil_from_length bs (omega (arith, room)), same_left {A = A} (record { «fault» = fault.Ended; left = 0 }) e is)

pub until_grown : {A : Type 0} (Part : List ℕ → Type 0) (read : Reader A) → Finds Part read → Grows Part read → Advances read → (k : ℕ) (bs : List ℕ) (e : Refusal)
    → length bs ≤ k → IsBytes bs → until_at read k bs ≡ Err e → IsPlain e.«fault» → Before (Fronts (ToBreak Part)) bs (e.left - 1)
unfolding until_at
until_grown {A} Part read finds grows advances zero bs e le fits is plain =
    ended_of (Fronts (ToBreak Part)) bs e.left (255 ∷ [], (0, [], refl, refl)) (none_left {A = List A × List ℕ} bs e le is)
until_grown Part read finds grows advances (suc k) bs e le fits is plain =
    elim (chosen (at_break bs) (Ok ([], drop 1 bs)) (read bs >>= λ x. until_at read k x.1 >>= λ xs. Ok (x.0 ∷ xs.0, xs.1)) (Err e) is) [
      | inl w ↦ absurd cc
      | inr w ↦ elim (bind_err (read bs) (λ x. until_at read k x.1 >>= λ xs. Ok (x.0 ∷ xs.0, xs.1)) e w.1) [
        | inl v ↦ instead (Fronts Part) (Fronts (ToBreak Part)) bs (e.left - 1) (last_part Part) (grows bs e fits v plain)
        | inr a ↦
            let s = finds bs a.0.0 a.0.1 fits a.1 in
            let fewer = shorter (length bs) (read bs) a.0 a.1 (advances bs) in
            elim (bind_err (until_at read k a.0.1) (λ xs. Ok (a.0.0 ∷ xs.0, xs.1)) e a.2) [
              | inl v ↦ behind_a (Fronts (ToBreak Part)) (Fronts (ToBreak Part)) s.front a.0.1 bs (e.left - 1) s.split
                  (λ front o. one_before Part s.front front s.part o)
                  (until_grown Part read finds grows advances k a.0.1 e (omega (arith, fewer, le)) s.fits v plain)
              | inr v ↦ absurd cc
            ]
      ]
    ]

pub each_grown : {A : Type 0} (Part : List ℕ → Type 0) (read : Reader A) → Finds Part read → Grows Part read → (some : List ℕ) → Part some → (n : ℕ) → Grows (Row Part n) (each_at read n)
unfolding each_at
each_grown Part read finds grows some has zero bs e fits is plain = absurd cc
each_grown Part read finds grows some has (suc n) bs e fits is plain =
    elim (bind_err (read bs) (λ x. each_at read n x.1 >>= λ xs. Ok (x.0 ∷ xs.0, xs.1)) e is) [
      | inl v ↦
          let r = rows Part some has n in
          instead (Fronts Part) (Fronts (Row Part (suc n))) bs (e.left - 1)
          (λ front o. (o.0 ++ r.0, (front ++ o.0, r.0, o.1, r.1, sym (append_assoc front o.0 r.0)))) (grows bs e fits v plain)
      | inr a ↦
          let s = finds bs a.0.0 a.0.1 fits a.1 in
          elim (bind_err (each_at read n a.0.1) (λ xs. Ok (a.0.0 ∷ xs.0, xs.1)) e a.2) [
            | inl v ↦ behind_a (Fronts (Row Part n)) (Fronts (Row Part (suc n))) s.front a.0.1 bs (e.left - 1) s.split
                (λ front o. (o.0, (s.front, front ++ o.0, s.part, o.1, append_assoc s.front front o.0)))
                (each_grown Part read finds grows some has n a.0.1 e s.fits v plain)
            | inr v ↦ absurd cc
          ]
    ]

pub pair_grown : (Part : List ℕ → Type 0) (read : Reader Tree) → Finds Part read → Grows Part read → (some : List ℕ) → Part some → Grows (Two Part) (pair_at read)
unfolding pair_at
pair_grown Part read finds grows some has bs e fits is plain =
    elim (bind_err (read bs) (λ k. read k.1 >>= λ v. Ok ((k.0, v.0), v.1)) e is) [
      | inl v ↦ instead (Fronts Part) (Fronts (Two Part)) bs (e.left - 1)
          (λ front o. (o.0 ++ some, (front ++ o.0, some, o.1, has, sym (append_assoc front o.0 some)))) (grows bs e fits v plain)
      | inr a ↦
          let s = finds bs a.0.0 a.0.1 fits a.1 in
          elim (bind_err (read a.0.1) (λ v. Ok ((a.0.0, v.0), v.1)) e a.2) [
            | inl v ↦ behind_a (Fronts Part) (Fronts (Two Part)) s.front a.0.1 bs (e.left - 1) s.split
                (λ front o. (o.0, (s.front, front ++ o.0, s.part, o.1, append_assoc s.front front o.0))) (grows a.0.1 e s.fits v plain)
            | inr v ↦ absurd cc
          ]
    ]

pub pair_found : (Part : List ℕ → Type 0) (read : Reader Tree) → Finds Part read → Finds (Two Part) (pair_at read)
unfolding pair_at
pair_found Part read finds bs p rest fits is =
    let a = bind_ok (read bs) (λ k. read k.1 >>= λ v. Ok ((k.0, v.0), v.1)) (p, rest) is in
    let b = bind_ok (read a.0.1) (λ v. Ok ((a.0.0, v.0), v.1)) (p, rest) a.2 in
    let k = finds bs a.0.0 a.0.1 fits a.1 in
    let v = finds a.0.1 b.0.0 b.0.1 k.fits b.1 in
    subst (λ (q : (Tree × Tree) × List ℕ). Took (Two Part) bs q.1) (ok_is ((a.0.0, b.0.0), b.0.1) (p, rest) b.2)
    (record { front = k.front ++ v.front; part = (k.front, v.front, k.part, v.part, refl); split = regrouped bs k.front a.0.1 v.front b.0.1 k.split v.split; fits = v.fits })

-- ---- a text or bytes behind the head

-- behind its head, a text or bytes are begun
abbrev pub StringGoes : Bool → Option ℕ → List ℕ → Type 0
StringGoes t (Some n) front = Filled n front
StringGoes t None front = Fronts (ToBreak (IsChunk (string_major t))) front

pub string_grown : (t : Bool) (o : Option ℕ) (bs : List ℕ) (e : Refusal) → IsBytes bs → string_at t o bs ≡ Err e → IsPlain e.«fault» → Before (StringGoes t o) bs (e.left - 1)
unfolding string_at chunks_at
string_grown t (Some n) bs e fits is plain =
    elim (bind_err (content_at t n bs) (λ x. Ok (static_name x.0, x.1)) e is) [
      | inl w ↦ content_grown t n bs e w
      | inr w ↦ absurd cc
    ]
string_grown t None bs e fits is plain =
    elim (bind_err (until_at (chunk_at t) (length bs) bs >>= λ xs. Ok (concat xs.0, xs.1)) (λ x. Ok (owned_text x.0, x.1)) e is) [
      | inl w ↦ elim (bind_err (until_at (chunk_at t) (length bs) bs) (λ xs. Ok (concat xs.0, xs.1)) e w) [
        | inl v ↦ until_grown (IsChunk (string_major t)) (chunk_at t) (chunk_found t) (chunk_grown t) (advances_chunk t) (length bs) bs e (omega arith) fits v plain
        | inr v ↦ absurd cc
      ]
      | inr w ↦ absurd cc
    ]

-- a head of indefinite length, parts and a break
pub open_whole : (m : Major) (Part : List ℕ → Type 0) (head front : List ℕ) → head ≡ first_byte m 31 ∷ [] → (o : Fronts (ToBreak Part) front)
    → (head ++ front) ++ o.0 ≡ first_byte m 31 ∷ (o.1.1 ++ (255 ∷ []))
open_whole m Part head front is o =
    append_assoc head front o.0 ∙ ap (λ h. h ++ (front ++ o.0)) is ∙ ap (λ t. first_byte m 31 ∷ t) o.1.3

pub string_formed : (Inner : List ℕ → Type 0) (t : Bool) (o : Option ℕ) (head front : List ℕ) → HeadOf (string_major t) o head → StringGoes t o front → Fronts (IsFormed Inner) (head ++ front)
string_formed Inner true (Some n) head front is f =
    (f.0, (major.Text, inl (n, head, front ++ f.0, read_numbered major.Text n head is, f.1, append_assoc head front f.0)))
string_formed Inner false (Some n) head front is f =
    (f.0, (major.Bytes, inl (n, head, front ++ f.0, read_numbered major.Bytes n head is, f.1, append_assoc head front f.0)))
string_formed Inner true None head front is f =
    (f.0, (major.Text, inr (f.1.0, f.1.1, f.1.2, open_whole major.Text (IsChunk major.Text) head front is f)))
string_formed Inner false None head front is f =
    (f.0, (major.Bytes, inr (f.1.0, f.1.1, f.1.2, open_whole major.Bytes (IsChunk major.Bytes) head front is f)))
