-- Numbers under a tag.
use Rattle.std.proofs.Common.{◌≡◌, ℕ, suc, zero, ◌^◌, ◌<◌, ◌≤◌, ℤ, pos, negsuc, Bool, true, false, cond, eqb, leb, List, [], ◌∷◌, ◌++◌, length, drop, Option, Some, None, Ok, Err, ◌⊎◌, refl, sym, ap, subst, ◌∙◌, append_assoc, arith, length-append, inl, inr}
use Rattle.std.specs.List.{concat}
use Rattle.std.specs.Int.Digits.{number_from_digits, number_from_digits_after}
use Rattle.std.proofs.lemmas.Bool.{cases_lt, eqb-false, eqb-true, leb-false, leb-true}
use Rattle.std.proofs.lemmas.Int.Digits.{number_after_append, number_after_ge}
use Rattle.content_tree.specs.Values.Text.{Text, owned_text, static_name}
use Rattle.content_tree.specs.declared.number.Number.{Number}
use Rattle.content_cbor.specs.Heads.{first_byte}
use Rattle.content_cbor.specs.Codes.{Each, IsHead, IsInteger, IsPiece, IsString, number_of}
use Rattle.content_cbor.specs.declared.decode_error.Fault.TheVariants as fault
use Rattle.content_cbor.specs.declared.heads.First.{First}
use Rattle.content_cbor.specs.declared.heads.Major.{Major}
use Rattle.content_cbor.specs.declared.heads.Major.TheVariants as major
use Rattle.content_cbor.specs.declared.stop.Refusal.{Refusal}
use Rattle.content_cbor.specs.Inner.Steps.{◌>>=◌}
use Rattle.content_cbor.specs.Inner.Numbers.{between, digits_at, leading, unbounded}
use Rattle.content_cbor.specs.Inner.Reading.{at_break, chunk_bounds, digits_behind, digits_of, digits_until, first_at, greatest, head_behind, is_reserved, length_at, magnitude_at, magnitude_behind, room, tag_at}
use Rattle.content_cbor.proofs.Read.Steps.{ok_is, bind_err, bind_ok, chosen, same_left}
use Rattle.content_cbor.proofs.Read.Took.{IsBytes, Took, Sound, Complete, regrouped}
use Rattle.content_cbor.proofs.Read.Begun.{Before, Opens, PlacedBehind, at_start, behind_a, instead, opens_behind}
use Rattle.content_cbor.proofs.Read.Parts.{Ends, broken, fits_behind}
use Rattle.content_cbor.proofs.Read.Numbers.{Fair, IsAny, IsByte, all_any, between_fair, digits_complete, digits_placed, digits_sound, in_range_from, in_range_is, leading_falls, leading_none, leads_back, some_digits, unbounded_fair, up_to_fair}
use Rattle.content_cbor.proofs.Read.Shrinks.{no_longer, shorter, shrinks_digits, shrinks_length}
use Rattle.content_cbor.proofs.Read.Heads.{HeadIn, HeadOf, Says, Starts, behind_sound, first_again, first_placed, first_sound, head_apart, head_behind_placed, head_is, numbered, says_plain, unreserved, up_to_starts}
use Rattle.content_cbor.proofs.Read.Strings.{LengthIs, StringBody, chunk_begins, length_admitted, length_complete, length_placed, length_sound, open_starts, string_apart, string_whole}

-- ---- what has room

abbrev pub Fits : Bool → ℕ → Type 0
Fits negative n = n ≤ greatest negative

admitted_is : (negative : Bool) (n : ℕ) → (room negative).admits 0 n ≡ true → Fits negative n
admitted_is negative n is = (in_range_is 0 (greatest negative) n is).1

admitted_from : (negative : Bool) (n : ℕ) → Fits negative n → (room negative).admits 0 n ≡ true
admitted_from negative n fits = in_range_from 0 (greatest negative) n (omega arith) fits

room_fair : (negative : Bool) → Fair IsAny (room negative)
room_fair negative = up_to_fair (greatest negative) fault.TooWide

-- 0 can begin any
pub zero_begins : (negative : Bool) (due : ℕ) → (room negative).admits due 0 ≡ true
zero_begins negative due = in_range_from (leading due 0) (leading due (greatest negative)) 0 (omega (arith, leading_none due)) (omega arith)

-- ---- how long a chunk may be

-- one way or the other
either_way : (b : Bool) (k l most n : ℕ) → leb n (leading k most) ≡ b → n ≤ leading l most → n ≤ leading (cond b k l) most
either_way true k l most n is le = leb-true _ _ is
either_way false k l most n is le = le

behind_fits : (k most n : ℕ) → n ≤ most → n ≤ leading (digits_behind k most n) most
behind_fits zero most n le = le
behind_fits (suc k) most n le = either_way (leb n (leading (suc k) most)) (suc k) (digits_behind k most n) most n refl (behind_fits k most n le)

at_least : (b : Bool) (l k m : ℕ) → (b ≡ true → l ≤ k) → (b ≡ false → l ≤ m) → l ≤ cond b k m
at_least true l k m at below = at refl
at_least false l k m at below = below refl

behind_most : (k l most n : ℕ) → l ≤ k → n ≤ leading l most → l ≤ digits_behind k most n
behind_most zero l most n le fits = le
behind_most (suc k) l most n le fits =
    at_least (leb n (leading (suc k) most)) l (suc k) (digits_behind k most n) (λ yes. le) (λ no.
    elim (cases_lt k l) [
      | inl lt ↦
          let same : l ≡ suc k = omega (arith, lt, le) in
          let more : leading (suc k) most < n = leb-false _ _ no in
          absurd (omega (arith, more, fits, ap (λ j. leading j most) same))
      | inr ge ↦ behind_most k l most n ge fits
    ])

-- no more than 15 digits can go on from a number that isn't 0
past_room : (negative : Bool) → leading 16 (greatest negative) ≡ 0
past_room true = refl
past_room false = refl

few : (negative : Bool) (n l : ℕ) → (n ≡ 0 → ⊥) → n ≤ leading l (greatest negative) → l ≤ 15
few negative n l some fits =
    elim (cases_lt l 16) [
      | inl lt ↦ omega (arith, lt)
      | inr ge ↦ absurd (some (omega (arith, fits, leading_falls 16 l (greatest negative) ge, past_room negative)))
    ]

-- so many digits go on to a number that has room
chunk_by : (negative : Bool) (n l : ℕ) (b : Bool) → eqb n 0 ≡ b → Fits negative n
    → (cond b unbounded (between 0 (digits_behind 15 (greatest negative) n) fault.TooWide)).admits 0 l ≡ true → (room negative).admits l n ≡ true
chunk_by negative n l true is fits admitted = rw (eqb-true n 0 is) (zero_begins negative l)
chunk_by negative n l false is fits admitted =
    let most = greatest negative in
    let long = (in_range_is 0 (digits_behind 15 most n) l admitted).1 in
    in_range_from (leading l 0) (leading l most) n (omega (arith, leading_none l)) (omega (arith, behind_fits 15 most n fits, leading_falls l (digits_behind 15 most n) most long))

chunk_back : (negative : Bool) (n l : ℕ) (b : Bool) → eqb n 0 ≡ b → (room negative).admits l n ≡ true
    → (cond b unbounded (between 0 (digits_behind 15 (greatest negative) n) fault.TooWide)).admits 0 l ≡ true
chunk_back negative n l true is admitted = refl
chunk_back negative n l false is admitted =
    let most = greatest negative in
    let fits = (in_range_is (leading l 0) (leading l most) n admitted).1 in
    in_range_from 0 (digits_behind 15 most n) l (omega arith) (behind_most 15 l most n (few negative n l (eqb-false n 0 is) fits) fits)

chunk_fair : (b : Bool) (most : ℕ) → Fair IsByte (cond b unbounded (between 0 most fault.TooWide))
chunk_fair true most = unbounded_fair IsByte
chunk_fair false most = between_fair 0 most fault.TooWide (omega arith)

chunk_starts : (b : Bool) (most : ℕ) → Starts (cond b unbounded (between 0 most fault.TooWide))
chunk_starts true most = open_starts
chunk_starts false most = up_to_starts most fault.TooWide

chunk_any : (b : Bool) (most due : ℕ) → (cond b unbounded (between 0 most fault.TooWide)).admits due 0 ≡ true
chunk_any true most due = refl
chunk_any false most due = in_range_from (leading due 0) (leading due most) 0 (omega (arith, leading_none due)) (omega arith)

-- a chunk is no longer than the number lets it be
pub chunk_fits : (negative : Bool) (n : ℕ) (bs : List ℕ) (l : ℕ) (rest : List ℕ) → Fits negative n
    → length_at false (chunk_bounds negative n) bs ≡ Ok (l, rest) → n ≤ leading l (greatest negative)
chunk_fits negative n bs l rest fits is =
    let admitted = length_admitted false (chunk_bounds negative n) (chunk_any (eqb n 0) (digits_behind 15 (greatest negative) n)) bs l rest is in
    (in_range_is (leading l 0) (leading l (greatest negative)) n (chunk_by negative n l (eqb n 0) refl fits admitted)).1

lengths_fair : (negative : Bool) (n : ℕ) → Fair IsByte (chunk_bounds negative n)
lengths_fair negative n = chunk_fair (eqb n 0) (digits_behind 15 (greatest negative) n)

pub lengths_start : (negative : Bool) (n : ℕ) → Starts (chunk_bounds negative n)
lengths_start negative n = chunk_starts (eqb n 0) (digits_behind 15 (greatest negative) n)

-- ---- digits in chunks

-- chunks up to a break, whose digits lead from one number to another
abbrev pub Leads : ℕ → ℕ → List ℕ → Type 0
Leads n m body = (pieces : List (List ℕ)) × Ends (IsPiece major.Bytes) pieces body × (number_from_digits_after 256 n (concat pieces) ≡ m)

-- the same, to a number that has room
abbrev pub Going : Bool → ℕ → ℕ → List ℕ → Type 0
Going negative n m body = Leads n m body × Fits negative m

-- a chunk before others
one_before : (negative : Bool) (n l m : ℕ) (x head body : List ℕ) → IsHead major.Bytes (length x) head → number_from_digits_after 256 n x ≡ l
    → Going negative l m body → Going negative n m ((head ++ x) ++ body)
one_before negative n l m x head body is leads (going, fits) = (
  (
    x ∷ going.0,
    (
      (head ++ x) ++ going.1.0,
      (head ++ x, going.1.0, (head, is, tt, refl), going.1.1, refl),
      ap (λ t. (head ++ x) ++ t) going.1.2 ∙ sym (append_assoc (head ++ x) going.1.0 (255 ∷ [])),
    ),
    number_after_append 256 n x (concat going.0) ∙ ap (λ k. number_from_digits_after 256 k (concat going.0)) leads ∙ going.2,
  ),
  fits,
)

-- nothing but a break
at_break_now : (negative : Bool) (n : ℕ) → Fits negative n → Going negative n n (255 ∷ [])
at_break_now negative n fits = (([], ([], refl, refl), refl), fits)

until_is : (negative : Bool) (k n : ℕ) (bs : List ℕ) (m : ℕ) (rest : List ℕ) → IsBytes bs → Fits negative n
    → digits_until negative n k bs ≡ Ok (m, rest) → Took (Going negative n m) bs rest
unfolding digits_until
until_is negative zero n bs m rest fits room_ e = absurd cc
until_is negative (suc k) n bs m rest fits room_ e =
    elim (chosen (at_break bs) (Ok (n, drop 1 bs)) (length_at false (chunk_bounds negative n) bs >>= λ l. digits_at (room negative) l.0 n l.1 >>= λ j. digits_until negative j.0 k j.1) (Ok (m, rest)) e) [
      | inl w ↦ subst (λ (p : ℕ × List ℕ). Took (Going negative n p.0) bs p.1) (ok_is (n, drop 1 bs) (m, rest) w.1)
          (record { front = 255 ∷ []; part = at_break_now negative n room_; split = broken bs w.0; fits = fits_behind bs fits })
      | inr w ↦
          let a = bind_ok (length_at false (chunk_bounds negative n) bs) (λ l. digits_at (room negative) l.0 n l.1 >>= λ j. digits_until negative j.0 k j.1) (m, rest) w.1 in
          let l = a.0.0 in
          let b = bind_ok (digits_at (room negative) l n a.0.1) (λ j. digits_until negative j.0 k j.1) (m, rest) a.2 in
          let head = length_sound false (chunk_bounds negative n) (lengths_start negative n) bs l a.0.1 fits a.1 in
          let d = digits_sound (room negative) l n a.0.1 b.0.0 b.0.1 head.fits b.1 in
          let admitted = chunk_by negative n l (eqb n 0) refl room_ head.part.1 in
          let others = until_is negative k b.0.0 b.0.1 m rest d.fits (admitted_is negative b.0.0 (d.part.3 admitted)) b.2 in
          record {
            front = (head.front ++ d.front) ++ others.front;
            part = one_before negative n b.0.0 m d.front head.front others.front (subst (λ j. IsHead major.Bytes j head.front) (sym d.part.0) head.part.0) d.part.1 others.part;
            split = regrouped bs head.front a.0.1 (d.front ++ others.front) rest head.split (regrouped a.0.1 d.front b.0.1 others.front rest d.split others.split)
                ∙ ap (λ t. t ++ rest) (sym (append_assoc head.front d.front others.front));
            fits = others.fits;
          }
    ]

until_again : (negative : Bool) (pieces : List (List ℕ)) (n m : ℕ) (body rest : List ℕ) (k : ℕ) → Each (IsPiece major.Bytes) pieces body
    → number_from_digits_after 256 n (concat pieces) ≡ m → Fits negative m → length body < k
    → digits_until negative n k (body ++ (255 ∷ rest)) ≡ Ok (m, rest)
unfolding digits_until
until_again negative pieces n m body rest zero is leads fits enough = absurd (omega (arith, enough))
until_again negative [] n m body rest (suc k) is leads fits enough = rw (is, ← leads) refl
until_again negative (x ∷ xs) n m body rest (suc k) is leads fits enough =
    let front = is.0 in
    let back = is.1 in
    let head = is.2.0 in
    let more = back ++ (255 ∷ rest) in
    let split : body ++ (255 ∷ rest) ≡ front ++ more = ap (λ t. t ++ (255 ∷ rest)) is.4 ∙ append_assoc front back (255 ∷ rest) in
    let apart : front ++ more ≡ head ++ (x ++ more) = ap (λ t. t ++ more) is.2.3 ∙ append_assoc head x more in
    let starts = chunk_begins false x front more is.2 in
    let shorter_ : length back < k = omega (arith, enough, starts.0, length-append front back, ap length is.4) in
    let l = number_from_digits_after 256 n x in
    let on : number_from_digits_after 256 l (concat xs) ≡ m = sym (number_after_append 256 n x (concat xs)) ∙ leads in
    let below : Fits negative l = omega (arith, number_after_ge 256 l (concat xs) (omega arith), on, fits) in
    let admitted = leads_back IsAny (room negative) (room_fair negative) n x (all_any x) (admitted_from negative l below) in
    let long = length_complete false (chunk_bounds negative n) (lengths_fair negative n) (length x) head (x ++ more) (is.2.1, chunk_back negative n (length x) (eqb n 0) refl admitted) in
    let read = digits_complete IsAny (room negative) (room_fair negative) n x more (all_any x) (admitted_from negative l below) in
    ap (digits_until negative n (suc k)) split
    ∙ rw (starts.1, apart, long, read) (until_again negative xs l m back rest k is.3 on fits shorter_)

-- ---- digits behind their head

-- bytes whose digits write a number
abbrev pub Written : Bool → Option ℕ → ℕ → List ℕ → Type 0
Written negative o n body = (x : Text) × StringBody false o x body × (number_from_digits 256 x.content ≡ n) × Fits negative n

-- the same with their head
abbrev pub TaggedBody : Bool → ℕ → List ℕ → Type 0
TaggedBody negative n body = (x : Text) × IsString major.Bytes x body × (number_from_digits 256 x.content ≡ n) × Fits negative n

none_fits : (negative : Bool) → Fits negative 0
none_fits negative = omega arith

written_sound : (negative : Bool) (o : Option ℕ) → Sound (Written negative o) (digits_of negative o)
written_sound negative (Some k) bs n rest fits e =
    let d = digits_sound (room negative) k 0 bs n rest fits e in
    let has = admitted_is negative n (d.part.3 (zero_begins negative k)) in
    record { front = d.front; part = (static_name d.front, (refl, d.part.0, tt, refl), d.part.1, has); split = d.split; fits = d.fits }
written_sound negative None bs n rest fits e =
    let c = until_is negative (length bs) 0 bs n rest fits (none_fits negative) e in
    let p = c.part.0 in
    record { front = c.front; part = (owned_text (concat p.0), (p.0, refl, p.1), p.2, c.part.1); split = c.split; fits = c.fits }

written_complete : (negative : Bool) (o : Option ℕ) → Complete (Written negative o) (digits_of negative o)
written_complete negative (Some k) n body rest is =
    let x = is.0.content in
    let admitted = admitted_from negative (number_from_digits 256 x) (subst (Fits negative) (sym is.2) is.3) in
    let read = digits_complete IsAny (room negative) (room_fair negative) 0 x rest (all_any x) admitted in
    rw (is.1.3, ← is.1.1) (read ∙ ap (λ j. Ok (j, rest)) is.2)
written_complete negative None n body rest is =
    let parts = is.1.2.0 in
    let whole : body ++ rest ≡ parts ++ (255 ∷ rest) = ap (λ f. f ++ rest) is.1.2.2 ∙ append_assoc parts (255 ∷ []) rest in
    let enough : length parts < length (body ++ rest) = omega (arith, ap length whole, length-append parts (255 ∷ rest)) in
    let leads : number_from_digits 256 (concat is.1.0) ≡ n = ap (λ (x : Text). number_from_digits 256 x.content) (sym is.1.1) ∙ is.2 in
    ap (digits_until negative 0 (length (body ++ rest))) whole
    ∙ until_again negative is.1.0 0 n parts rest (length (body ++ rest)) is.1.2.1 leads is.3 enough

behind_is : (negative : Bool) (from : List ℕ) (m : Major) (info : ℕ) (bs : List ℕ) (n : ℕ) (rest : List ℕ) → IsBytes bs → info < 32 → is_reserved m info ≡ false
    → magnitude_behind negative from m info bs ≡ Ok (n, rest) → Took (λ body. TaggedBody negative n (first_byte m info ∷ body)) bs rest
behind_is negative from major.Bytes info bs n rest fits lt plain e =
    let says = says_plain major.Bytes info refl lt plain in
    let first : First = record { «major» = major.Bytes; info = info } in
    let a = bind_ok (head_behind unbounded first bs) (λ h. digits_of negative h.0.number h.1) (n, rest) e in
    let h = behind_sound unbounded open_starts first says bs a.0.0 a.0.1 fits a.1 in
    let w = written_sound negative a.0.0.number a.0.1 n rest h.fits a.2 in
    let p = w.part in
    let head : List ℕ = first_byte major.Bytes info ∷ h.front in
    let is : HeadOf major.Bytes a.0.0.number head =
    subst (λ k. HeadOf k a.0.0.number head) h.part.1 (head_is unbounded a.0.0.«major» a.0.0.number head h.part.0) in
    record {
      front = h.front ++ w.front;
      part = (p.0, string_whole false a.0.0.number p.0 head w.front is p.1, p.2, p.3);
      split = regrouped bs h.front a.0.1 w.front rest h.split w.split;
      fits = w.fits;
    }
behind_is negative from major.Unsigned info bs n rest fits lt plain e = absurd cc
behind_is negative from major.Negative info bs n rest fits lt plain e = absurd cc
behind_is negative from major.Text info bs n rest fits lt plain e = absurd cc
behind_is negative from major.Array info bs n rest fits lt plain e = absurd cc
behind_is negative from major.Map info bs n rest fits lt plain e = absurd cc
behind_is negative from major.Tag info bs n rest fits lt plain e = absurd cc
behind_is negative from major.Simple info bs n rest fits lt plain e = absurd cc

magnitude_sound : (negative : Bool) → Sound (TaggedBody negative) (magnitude_at negative)
unfolding magnitude_at
magnitude_sound negative bs n rest fits e =
    let a = bind_ok (first_at bs) (λ h. magnitude_behind negative bs h.0.«major» h.0.info h.1) (n, rest) e in
    let f = first_sound bs a.0.0 a.0.1 fits a.1 in
    let m = a.0.0.«major» in
    let info = a.0.0.info in
    let b = behind_is negative bs m info a.0.1 n rest f.fits f.part.1 f.part.0 a.2 in
    record {
      front = first_byte m info ∷ b.front;
      part = b.part;
      split = regrouped bs f.front a.0.1 b.front rest f.split b.split ∙ ap (λ t. (t ++ b.front) ++ rest) f.part.2;
      fits = b.fits;
    }

-- any head has an unbounded number
any_head : (m : Major) (o : Option ℕ) (bs : List ℕ) → HeadOf m o bs → HeadIn unbounded m o bs
any_head m None bs is = is
any_head m (Some n) bs is = (is, refl)

says_below : (m : Major) (info : ℕ) → Says m info → info < 32
says_below m info (inl low) = omega (arith, low)
says_below m info (inr (inl is)) = omega (arith, is)
says_below m info (inr (inr says)) = omega (arith, says.2)

bytes_unreserved : (info : ℕ) → Says major.Bytes info → is_reserved major.Bytes info ≡ false
bytes_unreserved info (inl low) = unreserved major.Bytes info (omega (arith, low))
bytes_unreserved info (inr (inl is)) = rw is refl
bytes_unreserved info (inr (inr says)) = unreserved major.Bytes info says.2

magnitude_complete : (negative : Bool) → Complete (TaggedBody negative) (magnitude_at negative)
unfolding magnitude_at
magnitude_complete negative n front rest is =
    let p = string_apart false is.0 front is.1 in
    let o = p.0 in
    let body = p.2 in
    let a = head_apart unbounded (unbounded_fair IsByte) major.Bytes o p.1 (any_head major.Bytes o p.1 p.4) in
    let split : front ++ rest ≡ first_byte major.Bytes a.info ∷ (a.back ++ (body ++ rest)) =
    ap (λ t. t ++ rest) p.3 ∙ append_assoc p.1 body rest ∙ ap (λ t. t ++ (body ++ rest)) a.split in
    ap (magnitude_at negative) split
    ∙ rw (first_again major.Bytes a.info (a.back ++ (body ++ rest)) (bytes_unreserved a.info a.says) (says_below major.Bytes a.info a.says), a.read (body ++ rest)) (written_complete negative o n body rest (is.0, p.5, is.2, is.3))

-- a number whose bytes these are
abbrev pub IsNumber : Number → List ℕ → Type 0
IsNumber k bs = (z : ℤ) × (k ≡ number_of z) × IsInteger z bs

-- a number behind its tag
abbrev pub Numbered : List ℕ → Number → List ℕ → Type 0
Numbered head k body = IsNumber k (head ++ body)

unsigned_under : (head : List ℕ) → IsHead major.Tag 2 head → (n : ℕ) (body : List ℕ) → TaggedBody false n body → Numbered head (number_of (pos n)) body
unsigned_under head two n body is = (pos n, refl, inr (omega (arith, is.3), (head, body, is.0, two, is.1, is.2, refl)))

negative_under : (head : List ℕ) → IsHead major.Tag 3 head → (n : ℕ) (body : List ℕ) → TaggedBody true n body → Numbered head (number_of (negsuc n)) body
negative_under head three n body is = (negsuc n, refl, inr (omega (arith, is.3), (head, body, is.0, three, is.1, is.2, refl)))

-- a tag that is read
abbrev pub IsTag : ℕ → Type 0
IsTag tag = (2 ≤ tag) × (tag ≤ 3)

two_is : (tag : ℕ) (head : List ℕ) → eqb tag 2 ≡ true → IsHead major.Tag tag head → IsHead major.Tag 2 head
two_is tag head is = subst (λ t. IsHead major.Tag t head) (eqb-true tag 2 is)

three_is : (tag : ℕ) (head : List ℕ) → IsTag tag → eqb tag 2 ≡ false → IsHead major.Tag tag head → IsHead major.Tag 3 head
three_is tag head known is = subst (λ t. IsHead major.Tag t head) (omega (arith, known.0, known.1, eqb-false tag 2 is))

pub tag_sound : (tag : ℕ) (head : List ℕ) → IsTag tag → IsHead major.Tag tag head → Sound (Numbered head) (tag_at tag)
unfolding tag_at
tag_sound tag head known is bs k rest fits e =
    elim (chosen (eqb tag 2) (magnitude_at false bs >>= λ x. Ok (number_of (pos x.0), x.1)) (magnitude_at true bs >>= λ x. Ok (number_of (negsuc x.0), x.1)) (Ok (k, rest)) e) [
      | inl w ↦
          let a = bind_ok (magnitude_at false bs) (λ x. Ok (number_of (pos x.0), x.1)) (k, rest) w.1 in
          let b = magnitude_sound false bs a.0.0 a.0.1 fits a.1 in
          subst (λ (q : Number × List ℕ). Took (Numbered head q.0) bs q.1) (ok_is (number_of (pos a.0.0), a.0.1) (k, rest) a.2)
          (record { front = b.front; part = unsigned_under head (two_is tag head w.0 is) a.0.0 b.front b.part; split = b.split; fits = b.fits })
      | inr w ↦
          let a = bind_ok (magnitude_at true bs) (λ x. Ok (number_of (negsuc x.0), x.1)) (k, rest) w.1 in
          let b = magnitude_sound true bs a.0.0 a.0.1 fits a.1 in
          subst (λ (q : Number × List ℕ). Took (Numbered head q.0) bs q.1) (ok_is (number_of (negsuc a.0.0), a.0.1) (k, rest) a.2)
          (record { front = b.front; part = negative_under head (three_is tag head known w.0 is) a.0.0 b.front b.part; split = b.split; fits = b.fits })
    ]

pub unsigned_again : (n : ℕ) (front rest : List ℕ) (x : Text) → n < 2 ^ 128 → IsString major.Bytes x front → number_from_digits 256 x.content ≡ n
    → tag_at 2 (front ++ rest) ≡ Ok (number_of (pos n), rest)
unfolding tag_at
unsigned_again n front rest x lt is digits = rw (magnitude_complete false n front rest (x, is, digits, omega (arith, lt))) refl

pub negative_again : (n : ℕ) (front rest : List ℕ) (x : Text) → n < 2 ^ 127 → IsString major.Bytes x front → number_from_digits 256 x.content ≡ n
    → tag_at 3 (front ++ rest) ≡ Ok (number_of (negsuc n), rest)
unfolding tag_at
negative_again n front rest x lt is digits = rw (magnitude_complete true n front rest (x, is, digits, omega (arith, lt))) refl

-- ---- where they are refused

abbrev zeros : ℕ → List ℕ
zeros zero = []
zeros (suc n) = 0 ∷ zeros n

so_many : (n : ℕ) → length (zeros n) ≡ n
so_many zero = refl
so_many (suc n) = ap suc (so_many n)

zero_is : (n : ℕ) → number_from_digits_after 256 0 (zeros n) ≡ 0
zero_is zero = refl
zero_is (suc n) = zero_is n

regroup_chunk : (head x y z : List ℕ) → (head ++ (x ++ y)) ++ z ≡ (head ++ x) ++ (y ++ z)
regroup_chunk head x y z = ap (λ t. t ++ z) (sym (append_assoc head x y)) ∙ append_assoc (head ++ x) y z

until_placed : (negative : Bool) (k n : ℕ) (bs : List ℕ) (e : Refusal) → length bs ≤ k → IsBytes bs → Fits negative n
    → digits_until negative n k bs ≡ Err e → Before (Opens (Going negative n)) bs e.left
unfolding digits_until
until_placed negative zero n bs e enough fits has is =
    let ended = same_left {A = ℕ × List ℕ} (record { «fault» = fault.Ended; left = 0 }) e is in
    at_start (Opens (Going negative n)) bs e.left (n, 255 ∷ [], at_break_now negative n has) (omega (arith, enough, ended))
until_placed negative (suc k) n bs e enough fits has is =
    elim (chosen (at_break bs) (Ok (n, drop 1 bs)) (length_at false (chunk_bounds negative n) bs >>= λ l. digits_at (room negative) l.0 n l.1 >>= λ j. digits_until negative j.0 k j.1) (Err e) is) [
      | inl w ↦ absurd cc
      | inr v ↦ elim (bind_err (length_at false (chunk_bounds negative n) bs) (λ l. digits_at (room negative) l.0 n l.1 >>= λ j. digits_until negative j.0 k j.1) e v.1) [
        | inl w ↦ elim (length_placed false (chunk_bounds negative n) (lengths_fair negative n) (lengths_start negative n) bs e fits w) [
          | inl at ↦ at_start (Opens (Going negative n)) bs e.left (n, 255 ∷ [], at_break_now negative n has) at
          | inr b ↦ instead (Opens (LengthIs false (chunk_bounds negative n))) (Opens (Going negative n)) bs e.left (λ front o.
              let d = some_digits IsAny (room negative) (room_fair negative) o.0 n (chunk_by negative n o.0 (eqb n 0) refl has o.2.1) in
              let m = number_from_digits_after 256 n d.0 in
              let head : IsHead major.Bytes (length d.0) (front ++ o.1) = subst (λ j. IsHead major.Bytes j (front ++ o.1)) (sym d.1) o.2.0 in (
                m,
                o.1 ++ (d.0 ++ (255 ∷ [])),
                subst (Going negative n m) (append_assoc (front ++ o.1) d.0 (255 ∷ []) ∙ append_assoc front o.1 (d.0 ++ (255 ∷ [])))
                    (one_before negative n m m d.0 (front ++ o.1) (255 ∷ []) head refl (at_break_now negative m (admitted_is negative m d.3))),
              )) b
        ]
        | inr a ↦
            let l = a.0.0 in
            let head = length_sound false (chunk_bounds negative n) (lengths_start negative n) bs l a.0.1 fits a.1 in
            let admitted = chunk_by negative n l (eqb n 0) refl has head.part.1 in
            elim (bind_err (digits_at (room negative) l n a.0.1) (λ j. digits_until negative j.0 k j.1) e a.2) [
              | inl w ↦
                  let d = digits_placed IsAny (room negative) (room_fair negative) l n a.0.1 e head.fits admitted w in
                  let x : List ℕ = d.0 ++ d.1 in
                  let m = number_from_digits_after 256 n x in
                  let is_head : IsHead major.Bytes (length x) head.front = subst (λ j. IsHead major.Bytes j head.front) (sym d.5) head.part.0 in
                  record {
                    front = head.front ++ d.0;
                    opens = (
                      m,
                      d.1 ++ (255 ∷ []),
                      subst (Going negative n m) (regroup_chunk head.front d.0 d.1 (255 ∷ [])) (one_before negative n m m x head.front (255 ∷ []) is_head refl (at_break_now negative m (admitted_is negative m d.7))),
                    );
                    behind = d.2;
                    split = regrouped bs head.front a.0.1 d.0 d.2 head.split d.3;
                    last = d.4;
                  }
              | inr b ↦
                  let d = digits_sound (room negative) l n a.0.1 b.0.0 b.0.1 head.fits b.1 in
                  let fewer_ = shorter (length bs) (length_at false (chunk_bounds negative n) bs) a.0 a.1 (shrinks_length false (chunk_bounds negative n) bs) in
                  let no_more_ = no_longer (length a.0.1) (digits_at (room negative) l n a.0.1) b.0 b.1 (shrinks_digits (room negative) l n a.0.1) in
                  let others = until_placed negative k b.0.0 b.0.1 e (omega (arith, enough, fewer_, no_more_)) d.fits (admitted_is negative b.0.0 (d.part.3 admitted)) b.2 in
                  let is_head : IsHead major.Bytes (length d.front) head.front = subst (λ j. IsHead major.Bytes j head.front) (sym d.part.0) head.part.0 in
                  behind_a (Opens (Going negative b.0.0)) (Opens (Going negative n)) (head.front ++ d.front) b.0.1 bs e.left
                  (regrouped bs head.front a.0.1 d.front b.0.1 head.split d.split) (λ front o.
                  opens_behind (Going negative n) (head.front ++ d.front) front o.1 o.0 (one_before negative n b.0.0 o.0 d.front head.front (front ++ o.1) is_head d.part.1 o.2)) others
            ]
      ]
    ]

-- a number that is begun behind the head of its bytes
digits_of_placed : (negative : Bool) (o : Option ℕ) → PlacedBehind (Written negative o) (digits_of negative o)
digits_of_placed negative (Some k) bs e fits is =
    let d = digits_placed IsAny (room negative) (room_fair negative) k 0 bs e fits (zero_begins negative k) is in
    record {
      front = d.0;
      opens = (number_from_digits 256 (d.0 ++ d.1), d.1, (static_name (d.0 ++ d.1), (refl, d.5, tt, refl), refl, admitted_is negative (number_from_digits 256 (d.0 ++ d.1)) d.7));
      behind = d.2;
      split = d.3;
      last = d.4;
    }
digits_of_placed negative None bs e fits is =
    instead (Opens (Going negative 0)) (Opens (Written negative None)) bs e.left (λ front o.
    let leads = o.2.0 in (o.0, o.1, (owned_text (concat leads.0), (leads.0, refl, leads.1), leads.2, o.2.1)))
    (until_placed negative (length bs) 0 bs e (omega arith) fits (none_fits negative) is)

-- bytes of no length write 0
nothing_tagged : (negative : Bool) → Opens (TaggedBody negative) []
nothing_tagged negative = (0, 64 ∷ [], (static_name [], inl (refl, (64 ∷ [], inl (omega arith, refl), tt, refl)), refl, none_fits negative))

-- so many zeros behind their head write it too
zeros_tagged : (negative : Bool) (n : ℕ) (head : List ℕ) → IsHead major.Bytes n head → TaggedBody negative 0 (head ++ zeros n)
zeros_tagged negative n head is =
    (static_name (zeros n), inl (refl, (head, subst (λ k. IsHead major.Bytes k head) (sym (so_many n)) is, tt, refl)), zero_is n, none_fits negative)

behind_placed : (negative : Bool) (from : List ℕ) (m : Major) (info : ℕ) (bs : List ℕ) (e : Refusal) → IsBytes bs → info < 32 → is_reserved m info ≡ false → length from ≡ suc (length bs)
    → magnitude_behind negative from m info bs ≡ Err e
    → (length from ≡ e.left) ⊎ Before (Opens (λ n body. TaggedBody negative n (first_byte m info ∷ body))) bs e.left
behind_placed negative from major.Bytes info bs e fits lt plain long is =
    let says = says_plain major.Bytes info refl lt plain in
    let first : First = record { «major» = major.Bytes; info = info } in
    let byte = first_byte major.Bytes info in
    elim (bind_err (head_behind unbounded first bs) (λ h. digits_of negative h.0.number h.1) e is) [
      | inl w ↦ elim (head_behind_placed unbounded (unbounded_fair IsByte) open_starts first says bs e fits w) [
        | inl at ↦ inl (long ∙ at)
        | inr (simple, b) ↦ inr (instead (Opens (λ n back. HeadIn unbounded major.Bytes (Some n) (byte ∷ back))) (Opens (λ n body. TaggedBody negative n (byte ∷ body))) bs e.left (λ front o.
            (0, o.1 ++ zeros o.0, subst (λ t. TaggedBody negative 0 (byte ∷ t)) (append_assoc front o.1 (zeros o.0)) (zeros_tagged negative o.0 (byte ∷ (front ++ o.1)) (numbered major.Bytes o.0 (byte ∷ (front ++ o.1)) o.2.0)))) b)
      ]
      | inr a ↦
          let h = behind_sound unbounded open_starts first says bs a.0.0 a.0.1 fits a.1 in
          let head : List ℕ = byte ∷ h.front in
          let is_head : HeadOf major.Bytes a.0.0.number head =
          subst (λ k. HeadOf k a.0.0.number head) h.part.1 (head_is unbounded a.0.0.«major» a.0.0.number head h.part.0) in
          inr (behind_a (Opens (Written negative a.0.0.number)) (Opens (λ n body. TaggedBody negative n (byte ∷ body))) h.front a.0.1 bs e.left h.split (λ front o.
          let p = o.2 in
          opens_behind (λ n body. TaggedBody negative n (byte ∷ body)) h.front front o.1 o.0 (p.0, string_whole false a.0.0.number p.0 head (front ++ o.1) is_head p.1, p.2, p.3))
          (digits_of_placed negative a.0.0.number a.0.1 e h.fits a.2))
    ]
behind_placed negative from major.Unsigned info bs e fits lt plain long is = inl (same_left {A = ℕ × List ℕ} (record { «fault» = fault.WrongKind; left = length from }) e is)
behind_placed negative from major.Negative info bs e fits lt plain long is = inl (same_left {A = ℕ × List ℕ} (record { «fault» = fault.WrongKind; left = length from }) e is)
behind_placed negative from major.Text info bs e fits lt plain long is = inl (same_left {A = ℕ × List ℕ} (record { «fault» = fault.WrongKind; left = length from }) e is)
behind_placed negative from major.Array info bs e fits lt plain long is = inl (same_left {A = ℕ × List ℕ} (record { «fault» = fault.WrongKind; left = length from }) e is)
behind_placed negative from major.Map info bs e fits lt plain long is = inl (same_left {A = ℕ × List ℕ} (record { «fault» = fault.WrongKind; left = length from }) e is)
behind_placed negative from major.Tag info bs e fits lt plain long is = inl (same_left {A = ℕ × List ℕ} (record { «fault» = fault.WrongKind; left = length from }) e is)
behind_placed negative from major.Simple info bs e fits lt plain long is =
    inl (same_left {A = ℕ × List ℕ} (record { «fault» = cond (eqb info 31) fault.Break fault.WrongKind; left = length from }) e is)

magnitude_placed : (negative : Bool) → PlacedBehind (TaggedBody negative) (magnitude_at negative)
unfolding magnitude_at
magnitude_placed negative bs e fits is =
    elim (bind_err (first_at bs) (λ h. magnitude_behind negative bs h.0.«major» h.0.info h.1) e is) [
      | inl w ↦ at_start (Opens (TaggedBody negative)) bs e.left (nothing_tagged negative) (first_placed bs e w)
      | inr a ↦
          let f = first_sound bs a.0.0 a.0.1 fits a.1 in
          let byte = first_byte a.0.0.«major» a.0.0.info in
          let split : bs ≡ (byte ∷ []) ++ a.0.1 = f.split ∙ ap (λ t. t ++ a.0.1) f.part.2 in
          elim (behind_placed negative bs a.0.0.«major» a.0.0.info a.0.1 e f.fits f.part.1 f.part.0 (ap length split) a.2) [
            | inl at ↦ at_start (Opens (TaggedBody negative)) bs e.left (nothing_tagged negative) at
            | inr b ↦ behind_a (Opens (λ n body. TaggedBody negative n (byte ∷ body))) (Opens (TaggedBody negative)) (byte ∷ []) a.0.1 bs e.left split (λ front o. o) b
          ]
    ]

-- a number under a tag
under : (tag : ℕ) (head : List ℕ) → IsTag tag → IsHead major.Tag tag head → (b : Bool) → eqb tag 2 ≡ b → Opens (Numbered head) []
under tag head known is true two = let n = nothing_tagged false in (number_of (pos n.0), n.1, unsigned_under head (two_is tag head two is) n.0 n.1 n.2)
under tag head known is false three = let n = nothing_tagged true in (number_of (negsuc n.0), n.1, negative_under head (three_is tag head known three is) n.0 n.1 n.2)

pub nothing_under : (tag : ℕ) (head : List ℕ) → IsTag tag → IsHead major.Tag tag head → Opens (Numbered head) []
nothing_under tag head known is = under tag head known is (eqb tag 2) refl

pub tag_placed : (tag : ℕ) (head : List ℕ) → IsTag tag → IsHead major.Tag tag head → PlacedBehind (Numbered head) (tag_at tag)
unfolding tag_at
tag_placed tag head known is bs e fits fails =
    elim (chosen (eqb tag 2) (magnitude_at false bs >>= λ x. Ok (number_of (pos x.0), x.1)) (magnitude_at true bs >>= λ x. Ok (number_of (negsuc x.0), x.1)) (Err e) fails) [
      | inl w ↦ elim (bind_err (magnitude_at false bs) (λ x. Ok (number_of (pos x.0), x.1)) e w.1) [
        | inl u ↦ instead (Opens (TaggedBody false)) (Opens (Numbered head)) bs e.left (λ front o.
            (number_of (pos o.0), o.1, unsigned_under head (two_is tag head w.0 is) o.0 (front ++ o.1) o.2)) (magnitude_placed false bs e fits u)
        | inr u ↦ absurd cc
      ]
      | inr w ↦ elim (bind_err (magnitude_at true bs) (λ x. Ok (number_of (negsuc x.0), x.1)) e w.1) [
        | inl u ↦ instead (Opens (TaggedBody true)) (Opens (Numbered head)) bs e.left (λ front o.
            (number_of (negsuc o.0), o.1, negative_under head (three_is tag head known w.0 is) o.0 (front ++ o.1) o.2)) (magnitude_placed true bs e fits u)
        | inr u ↦ absurd cc
      ]
    ]
