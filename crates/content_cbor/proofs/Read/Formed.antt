-- What is well-formed is never refused as malformed.
use Rattle.std.proofs.Common.{◌≡◌, ℕ, suc, zero, ◌+◌, ◌*◌, ◌<◌, ◌≤◌, Bool, true, false, cond, eqb, ltb, List, [], ◌∷◌, ◌++◌, length, Option, Some, None, Result, Ok, Err, refl, sym, ap, subst, ◌∙◌, append_assoc, arith, inl, inr}
use Rattle.std.specs.Int.{is_in_range, to_be_bytes}
use Rattle.std.specs.Int.Digits.{number_from_digits_after}
use Rattle.std.specs.List.{concat}
use Rattle.std.proofs.lemmas.Bool.{lt-ltb, ne_eqb}
use Rattle.std.proofs.lemmas.List.{drop_at}
use Rattle.content_tree.specs.Values.Text.{static_name}
use Rattle.content_tree.specs.Values.Tree.{Tree}
use Rattle.content_cbor.specs.Codes.{Size, IsHead, info_of, number_of, width_of}
use Rattle.content_cbor.specs.Codes as size
use Rattle.content_cbor.specs.Heads.{first_byte}
use Rattle.content_cbor.specs.Malformed.{is_malformed}
use Rattle.content_cbor.specs.WellFormed.{Follows, IsChunk, IsClosed, IsFormed, IsOpen, Row, Two, UpToBreak, WellFormed}
use Rattle.content_cbor.specs.declared.decode_error.Fault.{Fault}
use Rattle.content_cbor.specs.declared.decode_error.Fault.TheVariants as fault
use Rattle.content_cbor.specs.declared.heads.First.{First}
use Rattle.content_cbor.specs.declared.heads.Head.{Head}
use Rattle.content_cbor.specs.declared.heads.Major.{Major}
use Rattle.content_cbor.specs.declared.heads.Major.TheVariants as major
use Rattle.content_cbor.specs.declared.stop.Refusal.{Refusal}
use Rattle.content_cbor.specs.declared.utf8.Lack.{Lack}
use Rattle.content_cbor.specs.Inner.Steps.{◌>>=◌, Reader, or_refused, refused, refused_before, unless}
use Rattle.content_cbor.specs.Inner.Numbers.{Bounds, argument_at, digits_at, size_of, unbounded}
use Rattle.content_cbor.specs.Inner.Texts.{after_byte, tail, text_at, within}
use Rattle.content_cbor.specs.Inner.Reading.{at_break, bounds_of, bytes_at, chunk_at, chunk_bounds, chunks_at, content_at, digits_of, digits_until, each_at, first_at, head_at, head_behind}
use Rattle.content_cbor.specs.Inner.Reading.{inside_at, is_simple, item_at, item_fault, kind_at, leaf_at, length_at, magnitude_at, magnitude_behind, pair_at, parts_at, room, string_at, string_major, tag_at, until_at}
use Rattle.content_cbor.proofs.Read.Heads.{first_again, high_info, kind_again, long_info, made, size_is, spelled_back, unreserved, wide}
use Rattle.content_cbor.proofs.Read.Strings.{begins_again, head_begins, opening_begins}

-- a fault of bytes that are well-formed
abbrev pub IsPlain : Fault → Type 0
IsPlain f = is_malformed f ≡ false

-- bytes are passed, or refused for such a fault
abbrev pub Passes : {A : Type 0} → Result (A × List ℕ) Refusal → List ℕ → Type 0
Passes (Ok (x, rest)) back = rest ≡ back
Passes (Err e) back = IsPlain e.«fault»

-- and what is read of them is this
abbrev Reads : {A : Type 0} → Result (A × List ℕ) Refusal → A → List ℕ → Type 0
Reads (Ok (x, rest)) v back = (x ≡ v) × (rest ≡ back)
Reads (Err e) v back = IsPlain e.«fault»

-- so of all such bytes
abbrev pub Judges : {A : Type 0} → (List ℕ → Type 0) → Reader A → Type 0
Judges Part read = (bs back : List ℕ) → Part bs → Passes (read (bs ++ back)) back

-- ---- steps

passes_then : {A B : Type 0} (r : Result (A × List ℕ) Refusal) (f : A × List ℕ → Result (B × List ℕ) Refusal) (mid back : List ℕ)
    → Passes r mid → ((x : A) → Passes (f (x, mid)) back) → Passes (r >>= f) back
passes_then (Ok (x, rest)) f mid back is next = rw is (next x)
passes_then (Err e) f mid back is next = is

passes_of : {A B : Type 0} (r : Result (A × List ℕ) Refusal) (f : A × List ℕ → Result (B × List ℕ) Refusal) (v : A) (mid back : List ℕ)
    → Reads r v mid → Passes (f (v, mid)) back → Passes (r >>= f) back
passes_of (Ok (x, rest)) f v mid back is next = rw (is.0, is.1) next
passes_of (Err e) f v mid back is next = is

reads_of : {A B : Type 0} (r : Result (A × List ℕ) Refusal) (f : A × List ℕ → Result (B × List ℕ) Refusal) (v : A) (mid : List ℕ) (w : B) (back : List ℕ)
    → Reads r v mid → Reads (f (v, mid)) w back → Reads (r >>= f) w back
reads_of (Ok (x, rest)) f v mid w back is next = rw (is.0, is.1) next
reads_of (Err e) f v mid w back is next = is

passes_if : {A : Type 0} (b : Bool) (x y : Result (A × List ℕ) Refusal) (back : List ℕ) → Passes x back → Passes y back → Passes (cond b x y) back
passes_if true x y back p q = p
passes_if false x y back p q = q

reads_if : {A : Type 0} (b : Bool) (x y : Result (A × List ℕ) Refusal) (v : A) (back : List ℕ) → Reads x v back → Reads y v back → Reads (cond b x y) v back
reads_if true x y v back p q = p
reads_if false x y v back p q = q

passes_read : {A : Type 0} (r : Result (A × List ℕ) Refusal) (v : A) (back : List ℕ) → Reads r v back → Passes r back
passes_read (Ok (x, rest)) v back is = is.1
passes_read (Err e) v back is = is

-- ---- numbers

abbrev PlainBounds : Bounds → Type 0
PlainBounds bounds = IsPlain bounds.otherwise

reads_digits : (bounds : Bounds) → PlainBounds bounds → (due n : ℕ) (ds back : List ℕ) → length ds ≡ due
    → Reads (digits_at bounds due n (ds ++ back)) (number_from_digits_after 256 n ds) back
unfolding digits_at
reads_digits bounds plain zero n [] back is = (refl, refl)
reads_digits bounds plain zero n (d ∷ ds) back is = absurd (omega (arith, is))
reads_digits bounds plain (suc due) n [] back is = absurd (omega (arith, is))
reads_digits bounds plain (suc due) n (d ∷ ds) back is =
    reads_if (bounds.admits due (n * 256 + d)) _ _ (number_from_digits_after 256 (n * 256 + d) ds) back
    (reads_digits bounds plain due (n * 256 + d) ds back (omega (arith, is))) plain

passes_digits : (bounds : Bounds) → PlainBounds bounds → (due n : ℕ) (ds back : List ℕ) → length ds ≡ due → Passes (digits_at bounds due n (ds ++ back)) back
passes_digits bounds plain due n ds back is =
    passes_read (digits_at bounds due n (ds ++ back)) (number_from_digits_after 256 n ds) back (reads_digits bounds plain due n ds back is)

reads_short : (bounds : Bounds) → PlainBounds bounds → (n : ℕ) (back : List ℕ) → n < 24 → Reads (argument_at bounds n back) n back
unfolding argument_at
reads_short bounds plain n back lt =
    rw (lt-ltb n 24 lt) (reads_if (bounds.admits 0 n) (Ok (n, back)) (refused_before bounds.otherwise back) n back (refl, refl) plain)

reads_long : (bounds : Bounds) → PlainBounds bounds → (s : Size) (n : ℕ) (back : List ℕ) → n < size.room s
    → Reads (argument_at bounds (info_of s) (to_be_bytes (width_of s) n ++ back)) n back
unfolding argument_at
reads_long bounds plain s n back lt =
    let ds = to_be_bytes (width_of s) n in
    rw (long_info s)
    (subst (λ k. Reads (digits_at bounds (size_of (info_of s)) 0 (ds ++ back)) k back) (spelled_back s n lt)
    (reads_digits bounds plain (size_of (info_of s)) 0 ds back ((wide s).len n ∙ sym (size_is s))))

-- ---- heads

-- the bytes of a head with a number, apart
record Apart (m : Major) (n : ℕ) (head : List ℕ) : Type 0 where
  info : ℕ
  low : info ≤ 27
  back : List ℕ
  split : head ≡ first_byte m info ∷ back
  reads : (bounds : Bounds) → PlainBounds bounds → (rest : List ℕ) → Reads (argument_at bounds info (back ++ rest)) n rest

apart : (m : Major) (n : ℕ) (head : List ℕ) → IsHead m n head → Apart m n head
apart m n head (inl w) =
    record { info = n; low = omega (arith, w.0); back = []; split = w.1; reads = λ bounds plain rest. reads_short bounds plain n rest w.0 }
apart m n head (inr w) = record {
  info = info_of w.0;
  low = high_info w.0;
  back = to_be_bytes (width_of w.0) n;
  split = w.2;
  reads = λ bounds plain rest. reads_long bounds plain w.0 n rest w.1;
}

first_reads : (m : Major) (info : ℕ) (rest : List ℕ) → info ≤ 27 → first_at (first_byte m info ∷ rest) ≡ Ok (made m info, rest)
first_reads m info rest low = first_again m info rest (unreserved m info low) (omega (arith, low))

-- what is wrong with an item that is well-formed, if anything is
abbrev pub ArePlain : Option Fault → Type 0
ArePlain None = Unit {0}
ArePlain (Some f) = IsPlain f

plain_if : (b : Bool) (x y : Option Fault) → ArePlain x → ArePlain y → ArePlain (cond b x y)
plain_if true x y p q = p
plain_if false x y p q = q

item_plain : (m : Major) (info : ℕ) → info ≤ 27 → ArePlain (item_fault m info)
item_plain major.Simple info low =
    rw (ne_eqb info 31 (λ e. omega (arith, e, low))) (plain_if (is_in_range 25 27 info) _ _ refl (plain_if (is_in_range 20 22 info) _ _ tt refl))
item_plain major.Tag info low = plain_if (ltb 23 info) _ _ tt (plain_if (is_in_range 2 3 info) _ _ tt refl)
item_plain major.Unsigned info low = tt
item_plain major.Negative info low = tt
item_plain major.Bytes info low = tt
item_plain major.Text info low = tt
item_plain major.Array info low = tt
item_plain major.Map info low = tt

reads_unless : (o : Option Fault) (left : List ℕ) (h : First) (back : List ℕ) → ArePlain o → Reads (unless o left (h, back)) h back
reads_unless None left h back is = (refl, refl)
reads_unless (Some f) left h back is = is

kind_reads : (m : Major) (info : ℕ) (rest : List ℕ) → info ≤ 27 → Reads (kind_at (first_byte m info ∷ rest)) (made m info) rest
unfolding kind_at
kind_reads m info rest low =
    rw (first_reads m info rest low) (reads_unless (item_fault m info) (first_byte m info ∷ rest) (made m info) rest (item_plain m info low))

abbrev headed : Major → Option ℕ → Head
headed m o = record { «major» = m; number = o }

behind_reads : (bounds : Bounds) → PlainBounds bounds → (m : Major) (n : ℕ) (head : List ℕ) (a : Apart m n head) (rest : List ℕ)
    → Reads (head_behind bounds (made m a.info) (a.back ++ rest)) (headed m (Some n)) rest
behind_reads bounds plain m n head a rest =
    rw (ne_eqb a.info 31 (λ e. omega (arith, e, a.low)))
    (reads_of (argument_at bounds a.info (a.back ++ rest)) (λ x. Ok (headed m (Some x.0), x.1)) n rest (headed m (Some n)) rest (a.reads bounds plain rest) (refl, refl))

bounds_plain : (limit : ℕ) (m : Major) → PlainBounds (bounds_of limit m)
bounds_plain limit major.Tag = refl
bounds_plain zero major.Array = refl
bounds_plain zero major.Map = refl
bounds_plain (suc limit) major.Array = refl
bounds_plain (suc limit) major.Map = refl
bounds_plain limit major.Unsigned = refl
bounds_plain limit major.Negative = refl
bounds_plain limit major.Bytes = refl
bounds_plain limit major.Text = refl
bounds_plain limit major.Simple = refl

head_reads : (limit : ℕ) (m : Major) (n : ℕ) (head rest : List ℕ) → IsHead m n head → Reads (head_at limit (head ++ rest)) (headed m (Some n)) rest
unfolding head_at
head_reads limit m n head rest is =
    let a = apart m n head is in
    subst (λ h. Reads (head_at limit (h ++ rest)) (headed m (Some n)) rest) (sym a.split)
    (reads_of (kind_at (first_byte m a.info ∷ (a.back ++ rest))) (λ h. head_behind (bounds_of limit h.0.«major») h.0 h.1) (made m a.info) (a.back ++ rest) (headed m (Some n)) rest
    (kind_reads m a.info (a.back ++ rest) a.low) (behind_reads (bounds_of limit m) (bounds_plain limit m) m n head a rest))

-- ---- texts and bytes

passes_bytes : (n : ℕ) (bs back : List ℕ) → length bs ≡ n → Passes (bytes_at n (bs ++ back)) back
passes_bytes n bs back is = passes_if (ltb (length (bs ++ back)) n) _ _ back refl (drop_at bs back n is)

passes_there : {A B : Type 0} (f : Fault) (left : List ℕ) (o : Option A) (then : A → Result (B × List ℕ) Refusal) (back : List ℕ)
    → IsPlain f → ((x : A) → Passes (then x) back) → Passes (or_refused f left o >>= then) back
passes_there f left None then back plain next = plain
passes_there f left (Some x) then back plain next = next x

passes_text : (lack : Lack) (n : ℕ) (bs back : List ℕ) → length bs ≡ n → Passes (text_at lack n (bs ++ back)) back
unfolding text_at
passes_text lack zero [] back is = refl
passes_text lack zero (b ∷ bs) back is = absurd (omega (arith, is))
passes_text lack (suc n) [] back is = absurd (omega (arith, is))
passes_text lack (suc n) (b ∷ bs) back is =
    passes_there fault.NotUtf8 (b ∷ (bs ++ back)) (within n (after_byte lack b)) _ back refl (λ next.
    passes_then (text_at next n (bs ++ back)) _ back back (passes_text next n bs back (omega (arith, is))) (λ x. refl))

passes_content : (t : Bool) (n : ℕ) (bs back : List ℕ) → length bs ≡ n → Passes (content_at t n (bs ++ back)) back
unfolding content_at
passes_content false n bs back is = passes_bytes n bs back is
passes_content true n bs back is = passes_text (tail 0) n bs back is

reads_length : (t : Bool) (bounds : Bounds) → PlainBounds bounds → (n : ℕ) (head back : List ℕ) → IsHead (string_major t) n head
    → Reads (length_at t bounds (head ++ back)) n back
unfolding length_at
reads_length t bounds plain n head back is =
    let m = string_major t in
    let a = apart m n head is in
    subst (λ h. Reads (length_at t bounds (h ++ back)) n back) (sym a.split)
    (rw (first_reads m a.info (a.back ++ back) a.low, begins_again t a.info (omega (arith, a.low))) (a.reads bounds plain back))

judges_chunk : (t : Bool) → Judges (IsChunk (string_major t)) (chunk_at t)
unfolding chunk_at
judges_chunk t bs back is =
    let head = is.0 in
    let content = is.1 in
    let split : bs ++ back ≡ head ++ (content ++ back) = ap (λ f. f ++ back) is.3 ∙ append_assoc head content back in
    subst (λ f. Passes (chunk_at t f) back) (sym split)
    (passes_of (length_at t unbounded (head ++ (content ++ back))) (λ n. content_at t n.0 n.1) (length content) (content ++ back) back
    (reads_length t unbounded refl (length content) head (content ++ back) is.2) (passes_content t (length content) content back refl))

-- ---- parts

-- no part begins as a break does
abbrev NoBreak : (List ℕ → Type 0) → Type 0
NoBreak Part = (bs rest : List ℕ) → Part bs → at_break (bs ++ rest) ≡ false

judges_each : {A : Type 0} (Part : List ℕ → Type 0) (read : Reader A) → Judges Part read → (n : ℕ) (bs back : List ℕ) → Row Part n bs → Passes (each_at read n (bs ++ back)) back
unfolding each_at
judges_each Part read judges zero bs back is = ap (λ f. f ++ back) is
judges_each Part read judges (suc n) bs back is =
    let front = is.0 in
    let rest = is.1 in
    let split : bs ++ back ≡ front ++ (rest ++ back) = ap (λ f. f ++ back) is.4 ∙ append_assoc front rest back in
    subst (λ f. Passes (each_at read (suc n) f) back) (sym split)
    (passes_then (read (front ++ (rest ++ back))) _ (rest ++ back) back (judges front (rest ++ back) is.2) (λ x.
    passes_then (each_at read n (rest ++ back)) _ back back (judges_each Part read judges n rest back is.3) (λ xs. refl)))

judges_until : {A : Type 0} (Part : List ℕ → Type 0) (read : Reader A) → Judges Part read → NoBreak Part → (k n : ℕ) (bs back : List ℕ) → Row Part n bs
    → Passes (until_at read k (bs ++ (255 ∷ back))) back
unfolding until_at
judges_until Part read judges none zero n bs back is = refl
judges_until Part read judges none (suc k) zero bs back is = subst (λ f. Passes (until_at read (suc k) (f ++ (255 ∷ back))) back) (sym is) refl
judges_until Part read judges none (suc k) (suc n) bs back is =
    let front = is.0 in
    let rest = is.1 in
    let more = rest ++ (255 ∷ back) in
    let split : bs ++ (255 ∷ back) ≡ front ++ more = ap (λ f. f ++ (255 ∷ back)) is.4 ∙ append_assoc front rest (255 ∷ back) in
    subst (λ f. Passes (until_at read (suc k) f) back) (sym split)
    (rw (none front more is.2)
    (passes_then (read (front ++ more)) _ more back (judges front more is.2) (λ x.
    passes_then (until_at read k more) _ back back (judges_until Part read judges none k n rest back is.3) (λ xs. refl))))

judges_two : (Part : List ℕ → Type 0) (read : Reader Tree) → Judges Part read → Judges (Two Part) (pair_at read)
unfolding pair_at
judges_two Part read judges bs back is =
    let front = is.0 in
    let rest = is.1 in
    let split : bs ++ back ≡ front ++ (rest ++ back) = ap (λ f. f ++ back) is.4 ∙ append_assoc front rest back in
    subst (λ f. Passes (pair_at read f) back) (sym split)
    (passes_then (read (front ++ (rest ++ back))) _ (rest ++ back) back (judges front (rest ++ back) is.2) (λ k.
    passes_then (read (rest ++ back)) _ back back (judges rest back is.3) (λ v. refl)))

chunk_no_break : (m : Major) → NoBreak (IsChunk m)
chunk_no_break m bs rest is =
    ap (λ f. at_break (f ++ rest)) is.3 ∙ ap at_break (append_assoc is.0 is.1 rest) ∙ (head_begins m (length is.1) is.0 (is.1 ++ rest) is.2).1

closed_no_break : (Inner : List ℕ → Type 0) (m : Major) (bs rest : List ℕ) → IsClosed Inner m bs → at_break (bs ++ rest) ≡ false
closed_no_break Inner m bs rest is =
    ap (λ f. at_break (f ++ rest)) is.5 ∙ ap at_break (append_assoc is.1 is.2 rest) ∙ (head_begins m is.0 is.1 (is.2 ++ rest) is.3.0).1

opened_no_break : (m : Major) (Part : List ℕ → Type 0) (bs rest : List ℕ) → is_simple m ≡ false → UpToBreak m Part bs → at_break (bs ++ rest) ≡ false
opened_no_break m Part bs rest plain is =
    ap (λ f. at_break (f ++ rest)) is.3 ∙ opening_begins m ((is.1 ++ (255 ∷ [])) ++ rest) plain

open_no_break : (Inner : List ℕ → Type 0) (m : Major) (bs rest : List ℕ) → IsOpen Inner m bs → at_break (bs ++ rest) ≡ false
open_no_break Inner major.Bytes bs rest is = opened_no_break major.Bytes (IsChunk major.Bytes) bs rest refl is
open_no_break Inner major.Text bs rest is = opened_no_break major.Text (IsChunk major.Text) bs rest refl is
open_no_break Inner major.Array bs rest is = opened_no_break major.Array Inner bs rest refl is
open_no_break Inner major.Map bs rest is = opened_no_break major.Map (Two Inner) bs rest refl is
open_no_break Inner major.Unsigned bs rest is = absurd is
open_no_break Inner major.Negative bs rest is = absurd is
open_no_break Inner major.Tag bs rest is = absurd is
open_no_break Inner major.Simple bs rest is = absurd is

formed_no_break : (Inner : List ℕ → Type 0) (bs rest : List ℕ) → IsFormed Inner bs → at_break (bs ++ rest) ≡ false
formed_no_break Inner bs rest (m, inl is) = closed_no_break Inner m bs rest is
formed_no_break Inner bs rest (m, inr is) = open_no_break Inner m bs rest is

item_no_break : (depth : ℕ) → NoBreak (WellFormed depth)
item_no_break zero bs rest is = absurd is
item_no_break (suc depth) bs rest is = formed_no_break (WellFormed depth) bs rest is

two_no_break : (Part : List ℕ → Type 0) → NoBreak Part → NoBreak (Two Part)
two_no_break Part none bs rest is =
    ap (λ f. at_break (f ++ rest)) is.4 ∙ ap at_break (append_assoc is.0 is.1 rest) ∙ none is.0 (is.1 ++ rest) is.2

-- ---- numbers under a tag

room_plain : (negative : Bool) → PlainBounds (room negative)
room_plain negative = refl

plain_bounds_if : (b : Bool) (x y : Bounds) → PlainBounds x → PlainBounds y → PlainBounds (cond b x y)
plain_bounds_if true x y p q = p
plain_bounds_if false x y p q = q

chunk_plain : (negative : Bool) (n : ℕ) → PlainBounds (chunk_bounds negative n)
chunk_plain negative n = plain_bounds_if (eqb n 0) _ _ refl refl

passes_digits_until : (negative : Bool) (number k n : ℕ) (bs back : List ℕ) → Row (IsChunk major.Bytes) n bs
    → Passes (digits_until negative number k (bs ++ (255 ∷ back))) back
unfolding digits_until
passes_digits_until negative number zero n bs back is = refl
passes_digits_until negative number (suc k) zero bs back is =
    subst (λ f. Passes (digits_until negative number (suc k) (f ++ (255 ∷ back))) back) (sym is) refl
passes_digits_until negative number (suc k) (suc n) bs back is =
    let front = is.0 in
    let rest = is.1 in
    let more = rest ++ (255 ∷ back) in
    let head = is.2.0 in
    let content = is.2.1 in
    let split : bs ++ (255 ∷ back) ≡ front ++ more = ap (λ f. f ++ (255 ∷ back)) is.4 ∙ append_assoc front rest (255 ∷ back) in
    let again : front ++ more ≡ head ++ (content ++ more) = ap (λ f. f ++ more) is.2.3 ∙ append_assoc head content more in
    subst (λ f. Passes (digits_until negative number (suc k) f) back) (sym split)
    (rw (chunk_no_break major.Bytes front more is.2)
    (subst (λ f. Passes (length_at false (chunk_bounds negative number) f >>= λ l. digits_at (room negative) l.0 number l.1 >>= λ m. digits_until negative m.0 k m.1) back) (sym again)
    (passes_of (length_at false (chunk_bounds negative number) (head ++ (content ++ more))) _ (length content) (content ++ more) back
    (reads_length false (chunk_bounds negative number) (chunk_plain negative number) (length content) head (content ++ more) is.2.2)
    (passes_then (digits_at (room negative) (length content) number (content ++ more)) _ more back
    (passes_digits (room negative) (room_plain negative) (length content) number content more refl) (λ m.
    passes_digits_until negative m k n rest back is.3)))))

-- a head with a number under a tag
closed_magnitude : (negative : Bool) (Inner : List ℕ → Type 0) (from : List ℕ) (m : Major) (n : ℕ) (head body back : List ℕ) (a : Apart m n head) → Follows Inner m n body
    → Passes (magnitude_behind negative from m a.info (a.back ++ (body ++ back))) back
closed_magnitude negative Inner from major.Bytes n head body back a follows =
    passes_of (head_behind unbounded (made major.Bytes a.info) (a.back ++ (body ++ back))) (λ h. digits_of negative h.0.number h.1) (headed major.Bytes (Some n)) (body ++ back) back
    (behind_reads unbounded refl major.Bytes n head a (body ++ back)) (passes_digits (room negative) (room_plain negative) n 0 body back follows)
closed_magnitude negative Inner from major.Simple n head body back a follows = rw (ne_eqb a.info 31 (λ e. omega (arith, e, a.low))) refl
closed_magnitude negative Inner from major.Unsigned n head body back a follows = refl
closed_magnitude negative Inner from major.Negative n head body back a follows = refl
closed_magnitude negative Inner from major.Text n head body back a follows = refl
closed_magnitude negative Inner from major.Array n head body back a follows = refl
closed_magnitude negative Inner from major.Map n head body back a follows = refl
closed_magnitude negative Inner from major.Tag n head body back a follows = refl

-- a first byte of an item of indefinite length is read
open_first : (Inner : List ℕ → Type 0) (m : Major) (bs rest : List ℕ) → IsOpen Inner m bs → first_at (first_byte m 31 ∷ rest) ≡ Ok (made m 31, rest)
open_first Inner major.Bytes bs rest is = first_again major.Bytes 31 rest refl (omega arith)
open_first Inner major.Text bs rest is = first_again major.Text 31 rest refl (omega arith)
open_first Inner major.Array bs rest is = first_again major.Array 31 rest refl (omega arith)
open_first Inner major.Map bs rest is = first_again major.Map 31 rest refl (omega arith)
open_first Inner major.Unsigned bs rest is = absurd is
open_first Inner major.Negative bs rest is = absurd is
open_first Inner major.Tag bs rest is = absurd is
open_first Inner major.Simple bs rest is = absurd is

-- its bytes, apart
opened_is : (m : Major) (body back : List ℕ) → (first_byte m 31 ∷ (body ++ (255 ∷ []))) ++ back ≡ first_byte m 31 ∷ (body ++ (255 ∷ back))
opened_is m body back = ap (λ f. first_byte m 31 ∷ f) (append_assoc body (255 ∷ []) back)

other_magnitude : (negative : Bool) (m : Major) (bs back rest : List ℕ) → first_at bs ≡ Ok (made m 31, rest) → Passes (magnitude_behind negative bs m 31 rest) back → Passes (magnitude_at negative bs) back
unfolding magnitude_at
other_magnitude negative m bs back rest first is = rw first is

open_magnitude : (negative : Bool) (Inner : List ℕ → Type 0) (m : Major) (bs back : List ℕ) → IsOpen Inner m bs → Passes (magnitude_at negative (bs ++ back)) back
open_magnitude negative Inner major.Bytes bs back is =
    let body = is.1 in
    subst (λ f. Passes (magnitude_at negative f) back) (sym (ap (λ f. f ++ back) is.3 ∙ opened_is major.Bytes body back))
    (other_magnitude negative major.Bytes (first_byte major.Bytes 31 ∷ (body ++ (255 ∷ back))) back (body ++ (255 ∷ back)) (open_first Inner major.Bytes bs (body ++ (255 ∷ back)) is)
    (passes_digits_until negative 0 (length (body ++ (255 ∷ back))) is.0 body back is.2))
open_magnitude negative Inner major.Text bs back is =
    let body = is.1 in
    subst (λ f. Passes (magnitude_at negative f) back) (sym (ap (λ f. f ++ back) is.3 ∙ opened_is major.Text body back))
    (other_magnitude negative major.Text (first_byte major.Text 31 ∷ (body ++ (255 ∷ back))) back (body ++ (255 ∷ back)) (open_first Inner major.Text bs (body ++ (255 ∷ back)) is) refl)
open_magnitude negative Inner major.Array bs back is =
    let body = is.1 in
    subst (λ f. Passes (magnitude_at negative f) back) (sym (ap (λ f. f ++ back) is.3 ∙ opened_is major.Array body back))
    (other_magnitude negative major.Array (first_byte major.Array 31 ∷ (body ++ (255 ∷ back))) back (body ++ (255 ∷ back)) (open_first Inner major.Array bs (body ++ (255 ∷ back)) is) refl)
open_magnitude negative Inner major.Map bs back is =
    let body = is.1 in
    subst (λ f. Passes (magnitude_at negative f) back) (sym (ap (λ f. f ++ back) is.3 ∙ opened_is major.Map body back))
    (other_magnitude negative major.Map (first_byte major.Map 31 ∷ (body ++ (255 ∷ back))) back (body ++ (255 ∷ back)) (open_first Inner major.Map bs (body ++ (255 ∷ back)) is) refl)
open_magnitude negative Inner major.Unsigned bs back is = absurd is
open_magnitude negative Inner major.Negative bs back is = absurd is
open_magnitude negative Inner major.Tag bs back is = absurd is
open_magnitude negative Inner major.Simple bs back is = absurd is

formed_magnitude : (negative : Bool) (Inner : List ℕ → Type 0) (bs back : List ℕ) → IsFormed Inner bs → Passes (magnitude_at negative (bs ++ back)) back
unfolding magnitude_at
formed_magnitude negative Inner bs back (m, inl is) =
    let n = is.0 in
    let head = is.1 in
    let body = is.2 in
    let a = apart m n head is.3.0 in
    let whole = first_byte m a.info ∷ (a.back ++ (body ++ back)) in
    let split : bs ++ back ≡ whole = ap (λ f. f ++ back) is.5 ∙ append_assoc head body back ∙ ap (λ f. f ++ (body ++ back)) a.split in
    subst (λ f. Passes (magnitude_at negative f) back) (sym split)
    (rw (first_reads m a.info (a.back ++ (body ++ back)) a.low) (closed_magnitude negative Inner whole m n head body back a is.4))
formed_magnitude negative Inner bs back (m, inr is) = open_magnitude negative Inner m bs back is

judges_magnitude : (negative : Bool) (depth : ℕ) → Judges (WellFormed depth) (magnitude_at negative)
judges_magnitude negative zero bs back is = absurd is
judges_magnitude negative (suc depth) bs back is = formed_magnitude negative (WellFormed depth) bs back is

judges_tag : (n depth : ℕ) → Judges (WellFormed depth) (tag_at n)
unfolding tag_at
judges_tag n depth bs back is =
    passes_if (eqb n 2) _ _ back
    (passes_then (magnitude_at false (bs ++ back)) _ back back (judges_magnitude false depth bs back is) (λ x. refl))
    (passes_then (magnitude_at true (bs ++ back)) _ back back (judges_magnitude true depth bs back is) (λ x. refl))

-- ---- items

none_more : (bs back : List ℕ) → bs ≡ [] → bs ++ back ≡ back
none_more bs back is = ap (λ f. f ++ back) is

closed_inside : (limit depth : ℕ) → Judges (WellFormed depth) (item_at limit) → (m : Major) (n : ℕ) (body back : List ℕ) → Follows (WellFormed depth) m n body
    → Passes (inside_at (item_at limit) m (Some n) (body ++ back)) back
unfolding leaf_at string_at parts_at
closed_inside limit depth judges major.Unsigned n body back is = none_more body back is
closed_inside limit depth judges major.Negative n body back is = none_more body back is
closed_inside limit depth judges major.Bytes n body back is =
    passes_then (content_at false n (body ++ back) >>= λ x. Ok (static_name x.0, x.1)) _ back back
    (passes_then (content_at false n (body ++ back)) _ back back (passes_content false n body back is) (λ x. refl)) (λ x. refl)
closed_inside limit depth judges major.Text n body back is =
    passes_then (content_at true n (body ++ back) >>= λ x. Ok (static_name x.0, x.1)) _ back back
    (passes_then (content_at true n (body ++ back)) _ back back (passes_content true n body back is) (λ x. refl)) (λ x. refl)
closed_inside limit depth judges major.Array n body back is =
    passes_then (each_at (item_at limit) n (body ++ back)) _ back back (judges_each (WellFormed depth) (item_at limit) judges n body back is) (λ xs. refl)
closed_inside limit depth judges major.Map n body back is =
    passes_then (each_at (pair_at (item_at limit)) n (body ++ back)) _ back back
    (judges_each (Two (WellFormed depth)) (pair_at (item_at limit)) (judges_two (WellFormed depth) (item_at limit) judges) n body back is) (λ xs. refl)
closed_inside limit depth judges major.Tag n body back is =
    passes_then (tag_at n (body ++ back)) _ back back (judges_tag n depth body back is) (λ k. refl)
closed_inside limit depth judges major.Simple n body back is =
    passes_if (eqb n 20) _ _ back (none_more body back is) (passes_if (eqb n 21) _ _ back (none_more body back is) (passes_if (eqb n 22) _ _ back (none_more body back is) refl))

open_head : (limit : ℕ) (m : Major) (rest : List ℕ) → kind_at (first_byte m 31 ∷ rest) ≡ Ok (made m 31, rest)
    → head_at limit (first_byte m 31 ∷ rest) ≡ Ok (headed m None, rest)
unfolding head_at
open_head limit m rest is = rw is refl

-- behind its head, what is of indefinite length is read up to its break
opened_item : (limit : ℕ) (m : Major) (Part : List ℕ → Type 0) (bs back : List ℕ) (is : UpToBreak m Part bs)
    → ((rest : List ℕ) → kind_at (first_byte m 31 ∷ rest) ≡ Ok (made m 31, rest))
    → Passes (inside_at (item_at limit) m None (is.1 ++ (255 ∷ back))) back → Passes (item_at (suc limit) (bs ++ back)) back
unfolding item_at
opened_item limit m Part bs back is kind inside =
    let rest = is.1 ++ (255 ∷ back) in
    subst (λ f. Passes (item_at (suc limit) f) back) (sym (ap (λ f. f ++ back) is.3 ∙ opened_is m is.1 back))
    (rw (open_head limit m rest (kind rest)) inside)

string_kind : (t : Bool) (rest : List ℕ) → kind_at (first_byte (string_major t) 31 ∷ rest) ≡ Ok (made (string_major t) 31, rest)
string_kind true rest = kind_again major.Text 31 rest refl (omega arith) refl
string_kind false rest = kind_again major.Bytes 31 rest refl (omega arith) refl

array_kind : (rest : List ℕ) → kind_at (first_byte major.Array 31 ∷ rest) ≡ Ok (made major.Array 31, rest)
array_kind rest = kind_again major.Array 31 rest refl (omega arith) refl

map_kind : (rest : List ℕ) → kind_at (first_byte major.Map 31 ∷ rest) ≡ Ok (made major.Map 31, rest)
map_kind rest = kind_again major.Map 31 rest refl (omega arith) refl

passes_chunks : (t : Bool) (n : ℕ) (body back : List ℕ) → Row (IsChunk (string_major t)) n body → Passes (string_at t None (body ++ (255 ∷ back))) back
unfolding string_at chunks_at
passes_chunks t n body back is =
    let bs = body ++ (255 ∷ back) in
    passes_then (until_at (chunk_at t) (length bs) bs >>= λ xs. Ok (concat xs.0, xs.1)) _ back back
    (passes_then (until_at (chunk_at t) (length bs) bs) _ back back
    (judges_until (IsChunk (string_major t)) (chunk_at t) (judges_chunk t) (chunk_no_break (string_major t)) (length bs) n body back is) (λ xs. refl)) (λ x. refl)

open_item : (limit depth : ℕ) → Judges (WellFormed depth) (item_at limit) → (m : Major) (bs back : List ℕ) → IsOpen (WellFormed depth) m bs → Passes (item_at (suc limit) (bs ++ back)) back
unfolding leaf_at parts_at
open_item limit depth judges major.Bytes bs back is =
    opened_item limit major.Bytes (IsChunk major.Bytes) bs back is (string_kind false)
    (passes_then (string_at false None (is.1 ++ (255 ∷ back))) _ back back (passes_chunks false is.0 is.1 back is.2) (λ x. refl))
open_item limit depth judges major.Text bs back is =
    opened_item limit major.Text (IsChunk major.Text) bs back is (string_kind true)
    (passes_then (string_at true None (is.1 ++ (255 ∷ back))) _ back back (passes_chunks true is.0 is.1 back is.2) (λ x. refl))
open_item limit depth judges major.Array bs back is =
    let rest = is.1 ++ (255 ∷ back) in
    opened_item limit major.Array (WellFormed depth) bs back is array_kind
    (passes_then (until_at (item_at limit) (length rest) rest) _ back back
    (judges_until (WellFormed depth) (item_at limit) judges (item_no_break depth) (length rest) is.0 is.1 back is.2) (λ xs. refl))
open_item limit depth judges major.Map bs back is =
    let rest = is.1 ++ (255 ∷ back) in
    opened_item limit major.Map (Two (WellFormed depth)) bs back is map_kind
    (passes_then (until_at (pair_at (item_at limit)) (length rest) rest) _ back back
    (judges_until (Two (WellFormed depth)) (pair_at (item_at limit)) (judges_two (WellFormed depth) (item_at limit) judges) (two_no_break (WellFormed depth) (item_no_break depth))
    (length rest) is.0 is.1 back is.2) (λ xs. refl))
open_item limit depth judges major.Unsigned bs back is = absurd is
open_item limit depth judges major.Negative bs back is = absurd is
open_item limit depth judges major.Tag bs back is = absurd is
open_item limit depth judges major.Simple bs back is = absurd is

closed_item : (limit depth : ℕ) → Judges (WellFormed depth) (item_at limit) → (m : Major) (bs back : List ℕ) → IsClosed (WellFormed depth) m bs
    → Passes (item_at (suc limit) (bs ++ back)) back
unfolding item_at
closed_item limit depth judges m bs back is =
    let head = is.1 in
    let body = is.2 in
    let split : bs ++ back ≡ head ++ (body ++ back) = ap (λ f. f ++ back) is.5 ∙ append_assoc head body back in
    subst (λ f. Passes (item_at (suc limit) f) back) (sym split)
    (passes_of (head_at limit (head ++ (body ++ back))) _ (headed m (Some is.0)) (body ++ back) back
    (head_reads limit m is.0 head (body ++ back) is.3.0) (closed_inside limit depth judges m is.0 body back is.4))

-- where no item may stand
closed_deep : (Inner : List ℕ → Type 0) (m : Major) (bs back : List ℕ) → IsClosed Inner m bs → Passes (item_at 0 (bs ++ back)) back
unfolding item_at
closed_deep Inner m bs back is =
    let head = is.1 in
    let body = is.2 in
    let a = apart m is.0 head is.3.0 in
    let whole = first_byte m a.info ∷ (a.back ++ (body ++ back)) in
    let split : bs ++ back ≡ whole = ap (λ f. f ++ back) is.5 ∙ append_assoc head body back ∙ ap (λ f. f ++ (body ++ back)) a.split in
    subst (λ f. Passes (item_at 0 f) back) (sym split)
    (passes_of (kind_at whole) (λ h. refused fault.TooDeep whole) (made m a.info) (a.back ++ (body ++ back)) back (kind_reads m a.info (a.back ++ (body ++ back)) a.low) refl)

opened_deep : (m : Major) (Part : List ℕ → Type 0) (bs back : List ℕ) → UpToBreak m Part bs
    → ((rest : List ℕ) → kind_at (first_byte m 31 ∷ rest) ≡ Ok (made m 31, rest)) → Passes (item_at 0 (bs ++ back)) back
unfolding item_at
opened_deep m Part bs back is kind =
    subst (λ f. Passes (item_at 0 f) back) (sym (ap (λ f. f ++ back) is.3 ∙ opened_is m is.1 back))
    (rw (kind (is.1 ++ (255 ∷ back))) refl)

open_deep : (Inner : List ℕ → Type 0) (m : Major) (bs back : List ℕ) → IsOpen Inner m bs → Passes (item_at 0 (bs ++ back)) back
open_deep Inner major.Bytes bs back is = opened_deep major.Bytes (IsChunk major.Bytes) bs back is (string_kind false)
open_deep Inner major.Text bs back is = opened_deep major.Text (IsChunk major.Text) bs back is (string_kind true)
open_deep Inner major.Array bs back is = opened_deep major.Array Inner bs back is array_kind
open_deep Inner major.Map bs back is = opened_deep major.Map (Two Inner) bs back is map_kind
open_deep Inner major.Unsigned bs back is = absurd is
open_deep Inner major.Negative bs back is = absurd is
open_deep Inner major.Tag bs back is = absurd is
open_deep Inner major.Simple bs back is = absurd is

formed_deep : (Inner : List ℕ → Type 0) (bs back : List ℕ) → IsFormed Inner bs → Passes (item_at 0 (bs ++ back)) back
formed_deep Inner bs back (m, inl is) = closed_deep Inner m bs back is
formed_deep Inner bs back (m, inr is) = open_deep Inner m bs back is

formed_item : (limit depth : ℕ) → Judges (WellFormed depth) (item_at limit) → (bs back : List ℕ) → IsFormed (WellFormed depth) bs → Passes (item_at (suc limit) (bs ++ back)) back
formed_item limit depth judges bs back (m, inl is) = closed_item limit depth judges m bs back is
formed_item limit depth judges bs back (m, inr is) = open_item limit depth judges m bs back is

-- a well-formed item is passed, or refused as not supported
pub judges_item : (limit depth : ℕ) → Judges (WellFormed depth) (item_at limit)
judges_item limit zero bs back is = absurd is
judges_item zero (suc depth) bs back is = formed_deep (WellFormed depth) bs back is
judges_item (suc limit) (suc depth) bs back is = formed_item limit depth (judges_item limit depth) bs back is
