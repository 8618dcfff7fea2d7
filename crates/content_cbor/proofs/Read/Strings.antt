-- Texts and bytes that are read.
use Rattle.std.proofs.Common.{◌≡◌, ℕ, ◌-◌, ◌<◌, ◌≤◌, Bool, true, false, cond, eqb, ltb, List, [], ◌∷◌, ◌++◌, length, take, drop, Option, Some, None, Ok, Err, ◌⊎◌, refl, sym, ap, subst, ◌∙◌, append_assoc, append-nil, arith, length-append, inl, inr}
use Rattle.std.specs.List.{concat}
use Rattle.std.specs.Str.{IsUtf8}
use Rattle.std.specs.Int.{to_be_bytes}
use Rattle.std.proofs.lemmas.Bool.{ltb-false, ltb-true, le-ltb, lt-ltb, ne_eqb}
use Rattle.std.proofs.lemmas.List.{take_at, drop_at, take-append-drop, length-take}
use Rattle.content_tree.specs.Values.Text.{Text, owned_text, static_name}
use Rattle.content_cbor.specs.Heads.{code, first_byte}
use Rattle.content_cbor.specs.Codes.{IsContent, IsHead, IsPiece, IsString, info_of, width_of}
use Rattle.content_cbor.specs.declared.decode_error.Fault.TheVariants as fault
use Rattle.content_cbor.specs.declared.heads.Major.{Major}
use Rattle.content_cbor.specs.declared.heads.Major.TheVariants as major
use Rattle.content_cbor.specs.declared.stop.Refusal.{Refusal}
use Rattle.content_cbor.specs.Inner.Steps.{◌>>=◌, refused}
use Rattle.content_cbor.specs.Inner.Numbers.{Bounds, argument_at, unbounded}
use Rattle.content_cbor.specs.Inner.Texts.{tail, text_at}
use Rattle.content_cbor.specs.Inner.Reading.{at_break, begins_chunk, bytes_at, chunk_at, chunks_at, content_at, first_at, is_reserved, is_simple, length_at, string_at, string_major, until_at}
use Rattle.content_cbor.proofs.Read.Steps.{ok_is, bind_err, bind_ok, chosen, failed, passed, same_left}
use Rattle.content_cbor.proofs.Read.Took.{IsBytes, IsBytes-drop, Took, Sound, Complete, regrouped}
use Rattle.content_cbor.proofs.Read.Parts.{Begins, Ends, until_sound, until_complete, until_placed}
use Rattle.content_cbor.proofs.Read.Begun.{Before, Opens, PlacedBehind, at_start, behind_a, instead, opens_behind}
use Rattle.content_cbor.proofs.Read.Numbers.{Fair, IsByte, unbounded_fair}
use Rattle.content_cbor.proofs.Read.Shrinks.{advances_chunk}
use Rattle.content_cbor.proofs.Read.Heads.{Admitted, Argument, HeadOf, Says, Starts, argument_admitted, argument_complete, argument_placed, argument_sound, below_28, first_again, first_and, first_placed, first_sound, high_info, numbered, of_head, says_plain, unreserved}
use Rattle.content_cbor.proofs.Read.Utf8.{so_many, spaces, spaces_text, text_complete, text_placed, text_sound}

pub not_simple : (t : Bool) → is_simple (string_major t) ≡ false
not_simple true = refl
not_simple false = refl

-- ---- no head begins as a break does

code_below : (m : Major) → code m < 8
code_below major.Unsigned = omega arith
code_below major.Negative = omega arith
code_below major.Bytes = omega arith
code_below major.Text = omega arith
code_below major.Array = omega arith
code_below major.Map = omega arith
code_below major.Tag = omega arith
code_below major.Simple = omega arith

pub code_small : (m : Major) → is_simple m ≡ false → code m < 7
code_small major.Unsigned simple = omega arith
code_small major.Negative simple = omega arith
code_small major.Bytes simple = omega arith
code_small major.Text simple = omega arith
code_small major.Array simple = omega arith
code_small major.Map simple = omega arith
code_small major.Tag simple = omega arith
code_small major.Simple simple = absurd cc

not_255 : (b : ℕ) → b < 255 → eqb b 255 ≡ false
not_255 b lt = ne_eqb b 255 (λ e. omega (arith, lt, e))

pub head_begins : (m : Major) (n : ℕ) (head rest : List ℕ) → IsHead m n head → (0 < length head) × (at_break (head ++ rest) ≡ false)
head_begins m n head rest (inl w) =
    rw w.1 (omega arith, not_255 (first_byte m n) (omega (arith, code_below m, w.0)))
head_begins m n head rest (inr w) =
    rw w.2 (omega arith, not_255 (first_byte m (info_of w.0)) (omega (arith, code_below m, high_info w.0)))

pub opening_begins : (m : Major) (rest : List ℕ) → is_simple m ≡ false → at_break (first_byte m 31 ∷ rest) ≡ false
opening_begins m rest simple = not_255 (first_byte m 31) (omega (arith, code_small m simple))

-- ---- in one piece

pub bytes_sound : (n : ℕ) (bs x rest : List ℕ) → IsBytes bs → bytes_at n bs ≡ Ok (x, rest) → (bs ≡ x ++ rest) × (length x ≡ n) × IsBytes rest
bytes_sound n bs x rest fits e =
    let g = passed (ltb (length bs) n) (record { «fault» = fault.Ended; left = 0 }) (Ok (take n bs, drop n bs)) (x, rest) e in
    let len : length (take n bs) ≡ n = omega (arith, length-take n bs, ltb-false (length bs) n g.0) in
    subst (λ (p : List ℕ × List ℕ). (bs ≡ p.0 ++ p.1) × (length p.0 ≡ n) × IsBytes p.1) (ok_is (take n bs, drop n bs) (x, rest) g.1)
    (sym (take-append-drop n bs), len, IsBytes-drop n bs fits)

bytes_complete : (x rest : List ℕ) → bytes_at (length x) (x ++ rest) ≡ Ok (x, rest)
bytes_complete x rest =
    let long : ltb (length (x ++ rest)) (length x) ≡ false = le-ltb _ _ (omega (arith, length-append x rest)) in
    rw (long, take_at x rest (length x) refl, drop_at x rest (length x) refl) refl

behind_fits : (n : ℕ) (bs x rest : List ℕ) → bs ≡ x ++ rest → length x ≡ n → IsBytes bs → IsBytes rest
behind_fits n bs x rest split len fits = subst IsBytes (ap (drop n) split ∙ drop_at x rest n len) (IsBytes-drop n bs fits)

pub content_sound : (t : Bool) (n : ℕ) (bs x rest : List ℕ) → IsBytes bs → content_at t n bs ≡ Ok (x, rest)
    → (bs ≡ x ++ rest) × (length x ≡ n) × IsBytes rest × IsContent (string_major t) x
unfolding content_at
content_sound false n bs x rest fits e = let b = bytes_sound n bs x rest fits e in (b.0, b.1, b.2, tt)
content_sound true n bs x rest fits e =
    let b = text_sound n bs x rest e in
    (b.0, b.1, behind_fits n bs x rest b.0 b.1 fits, b.2)

content_complete : (t : Bool) (x rest : List ℕ) → IsContent (string_major t) x → content_at t (length x) (x ++ rest) ≡ Ok (x, rest)
unfolding content_at
content_complete false x rest is = bytes_complete x rest
content_complete true x rest is = text_complete x rest is

spaces_content : (t : Bool) (n : ℕ) → IsContent (string_major t) (spaces n)
spaces_content true n = spaces_text n
spaces_content false n = tt

-- content of this length
abbrev pub ContentBody : Bool → ℕ → List ℕ → List ℕ → Type 0
ContentBody t n content body = (length content ≡ n) × IsContent (string_major t) content × (body ≡ content)

content_placed : (t : Bool) (n : ℕ) → PlacedBehind (ContentBody t n) (content_at t n)
unfolding content_at
content_placed false n bs e fits is =
    elim (chosen (ltb (length bs) n) (refused fault.Ended []) (Ok (take n bs, drop n bs)) (Err e) is) [
      | inl w ↦
          let more = spaces (n - length bs) in
          let whole : length (bs ++ more) ≡ n = omega (arith, length-append bs more, so_many (n - length bs), ltb-true (length bs) n w.0) in
          record {
            front = bs;
            opens = (bs ++ more, more, (whole, tt, refl));
            behind = [];
            split = sym (append-nil bs);
            last = same_left {A = List ℕ × List ℕ} (record { «fault» = fault.Ended; left = 0 }) e w.1;
          }
      | inr w ↦ absurd cc
    ]
content_placed true n bs e fits is =
    let p = text_placed n bs e is in
    record { front = p.0; opens = (p.0 ++ p.1, p.1, (p.5, p.6, refl)); behind = p.2; split = p.3; last = p.4 }

-- ---- as a function reads it

pub no_short_text : (n : ℕ) (bs : List ℕ) → length bs < n → (x : List ℕ × List ℕ) → text_at (tail 0) n bs ≡ Ok x → ⊥
no_short_text n bs short x is = let t = text_sound n bs x.0 x.1 is in omega (arith, short, ap length t.0, length-append x.0 x.1, t.1)

pub no_bad_text : (n : ℕ) (bs : List ℕ) → (IsUtf8 (take n bs) → ⊥) → (x : List ℕ × List ℕ) → text_at (tail 0) n bs ≡ Ok x → ⊥
no_bad_text n bs bad x is =
    let t = text_sound n bs x.0 x.1 is in
    bad (subst IsUtf8 (sym (ap (take n) t.0 ∙ take_at x.0 x.1 n t.1)) t.2)

pub good_text : (n : ℕ) (bs : List ℕ) → n ≤ length bs → IsUtf8 (take n bs) → text_at (tail 0) n bs ≡ Ok (take n bs, drop n bs)
good_text n bs long good =
    let x : List ℕ = take n bs in
    let len : length x ≡ n = omega (arith, length-take n bs, long) in
    ap (text_at (tail 0) n) (sym (take-append-drop n bs)) ∙ ap (λ k. text_at (tail 0) k (x ++ drop n bs)) (sym len) ∙ text_complete x (drop n bs) good

-- ---- the heads of chunks

-- the head of a chunk whose length is admitted
abbrev pub LengthIs : Bool → Bounds → ℕ → List ℕ → Type 0
LengthIs t bounds n bs = IsHead (string_major t) n bs × (bounds.admits 0 n ≡ true)

pub begins_is : (t : Bool) (m : Major) (info : ℕ) → begins_chunk t m info ≡ true → (m ≡ string_major t) × (info < 31)
begins_is true major.Unsigned info e = absurd cc
begins_is true major.Negative info e = absurd cc
begins_is true major.Bytes info e = absurd cc
begins_is true major.Text info e = (refl, ltb-true info 31 e)
begins_is true major.Array info e = absurd cc
begins_is true major.Map info e = absurd cc
begins_is true major.Tag info e = absurd cc
begins_is true major.Simple info e = absurd cc
begins_is false major.Unsigned info e = absurd cc
begins_is false major.Negative info e = absurd cc
begins_is false major.Bytes info e = (refl, ltb-true info 31 e)
begins_is false major.Text info e = absurd cc
begins_is false major.Array info e = absurd cc
begins_is false major.Map info e = absurd cc
begins_is false major.Tag info e = absurd cc
begins_is false major.Simple info e = absurd cc

pub begins_again : (t : Bool) (info : ℕ) → info < 31 → begins_chunk t (string_major t) info ≡ true
begins_again true info lt = lt-ltb info 31 lt
begins_again false info lt = lt-ltb info 31 lt

-- a first byte of a chunk, with the number behind it
first_of_chunk : (t : Bool) (m : Major) (info n : ℕ) (bs : List ℕ) → Says m info → m ≡ string_major t → info < 31 → Argument info n bs → IsHead (string_major t) n (first_byte m info ∷ bs)
first_of_chunk t m info n bs says same low is =
    subst (λ k. IsHead k n (first_byte m info ∷ bs)) same (numbered m n (first_byte m info ∷ bs) (first_and m info n bs says (λ e. omega (arith, low, e)) is))

pub says_chunk : (t : Bool) (m : Major) (info : ℕ) → m ≡ string_major t → info < 32 → is_reserved m info ≡ false → Says m info
says_chunk t m info is lt known = says_plain m info (ap is_simple is ∙ not_simple t) lt known

pub length_sound : (t : Bool) (bounds : Bounds) → Starts bounds → Sound (LengthIs t bounds) (length_at t bounds)
unfolding length_at
length_sound t bounds starts bs n rest fits is =
    let a = bind_ok (first_at bs) (λ h. cond (begins_chunk t h.0.«major» h.0.info) (argument_at bounds h.0.info h.1) (refused fault.WrongChunk bs)) (n, rest) is in
    let m = a.0.0.«major» in
    let info = a.0.0.info in
    let f = first_sound bs a.0.0 a.0.1 fits a.1 in
    let g = failed (begins_chunk t m info) (record { «fault» = fault.WrongChunk; left = length bs }) (argument_at bounds info a.0.1) (n, rest) a.2 in
    let b = begins_is t m info g.0 in
    let says = says_chunk t m info b.0 f.part.1 f.part.0 in
    let x = argument_sound bounds starts info (below_28 m info says (λ e. omega (arith, b.1, e))) a.0.1 n rest f.fits g.1 in
    record {
      front = first_byte m info ∷ x.front;
      part = (first_of_chunk t m info n x.front says b.0 b.1 x.part.0, x.part.1);
      split = regrouped bs f.front a.0.1 x.front rest f.split x.split ∙ ap (λ u. (u ++ x.front) ++ rest) f.part.2;
      fits = x.fits;
    }

pub length_admitted : (t : Bool) (bounds : Bounds) → ((due : ℕ) → bounds.admits due 0 ≡ true) → (bs : List ℕ) (n : ℕ) (rest : List ℕ) → length_at t bounds bs ≡ Ok (n, rest)
    → bounds.admits 0 n ≡ true
unfolding length_at
length_admitted t bounds starts bs n rest is =
    let a = bind_ok (first_at bs) (λ h. cond (begins_chunk t h.0.«major» h.0.info) (argument_at bounds h.0.info h.1) (refused fault.WrongChunk bs)) (n, rest) is in
    let g = failed (begins_chunk t a.0.0.«major» a.0.0.info) (record { «fault» = fault.WrongChunk; left = length bs }) (argument_at bounds a.0.0.info a.0.1) (n, rest) a.2 in
    argument_admitted bounds starts a.0.0.info a.0.1 n rest g.1

length_again : (t : Bool) (bounds : Bounds) (info n : ℕ) (back rest : List ℕ) → info ≤ 27 → argument_at bounds info (back ++ rest) ≡ Ok (n, rest)
    → length_at t bounds (first_byte (string_major t) info ∷ (back ++ rest)) ≡ Ok (n, rest)
unfolding length_at
length_again t bounds info n back rest low is =
    rw (first_again (string_major t) info (back ++ rest) (unreserved (string_major t) info low) (omega (arith, low)), begins_again t info (omega (arith, low)), is) refl

pub length_complete : (t : Bool) (bounds : Bounds) → Fair IsByte bounds → Complete (LengthIs t bounds) (length_at t bounds)
length_complete t bounds fair n front rest (inl w, admitted) =
    ap (λ u. length_at t bounds (u ++ rest)) w.1
    ∙ length_again t bounds n n [] rest (omega (arith, w.0)) (argument_complete bounds fair n n [] rest (inl (w.0, refl, refl), admitted))
length_complete t bounds fair n front rest (inr w, admitted) =
    let back = to_be_bytes (width_of w.0) n in
    ap (λ u. length_at t bounds (u ++ rest)) w.2
    ∙ length_again t bounds (info_of w.0) n back rest (high_info w.0)
    (argument_complete bounds fair (info_of w.0) n back rest (inr (w.0, refl, (w.1, refl)), admitted))

-- refused at its first byte, or behind what begins a head
pub length_placed : (t : Bool) (bounds : Bounds) → Fair IsByte bounds → Starts bounds → (bs : List ℕ) (e : Refusal) → IsBytes bs → length_at t bounds bs ≡ Err e
    → (length bs ≡ e.left) ⊎ Before (Opens (LengthIs t bounds)) bs e.left
unfolding length_at
length_placed t bounds fair starts bs e fits is =
    elim (bind_err (first_at bs) (λ h. cond (begins_chunk t h.0.«major» h.0.info) (argument_at bounds h.0.info h.1) (refused fault.WrongChunk bs)) e is) [
      | inl w ↦ inl (first_placed bs e w)
      | inr a ↦
          let m = a.0.0.«major» in
          let info = a.0.0.info in
          elim (chosen (begins_chunk t m info) (argument_at bounds info a.0.1) (refused fault.WrongChunk bs) (Err e) a.2) [
            | inr w ↦ inl (same_left {A = ℕ × List ℕ} (record { «fault» = fault.WrongChunk; left = length bs }) e w.1)
            | inl w ↦
                let f = first_sound bs a.0.0 a.0.1 fits a.1 in
                let b = begins_is t m info w.0 in
                let says = says_chunk t m info b.0 f.part.1 f.part.0 in
                let split : bs ≡ (first_byte m info ∷ []) ++ a.0.1 = f.split ∙ ap (λ u. u ++ a.0.1) f.part.2 in
                elim (argument_placed bounds fair starts info (below_28 m info says (λ k. omega (arith, b.1, k))) a.0.1 e f.fits w.1) [
                  | inl at ↦ inl (omega (arith, ap length split, at))
                  | inr (long, c) ↦ inr (behind_a (Opens (Admitted bounds info)) (Opens (LengthIs t bounds)) (first_byte m info ∷ []) a.0.1 bs e.left split
                      (λ front o. (o.0, o.1, (first_of_chunk t m info o.0 (front ++ o.1) says b.0 b.1 o.2.0, o.2.1))) c)
                ]
          ]
    ]

-- ---- chunks

pub open_starts : Starts unbounded
open_starts s = refl

pub chunk_sound : (t : Bool) → Sound (IsPiece (string_major t)) (chunk_at t)
unfolding chunk_at
chunk_sound t bs x rest fits e =
    let a = bind_ok (length_at t unbounded bs) (λ n. content_at t n.0 n.1) (x, rest) e in
    let h = length_sound t unbounded open_starts bs a.0.0 a.0.1 fits a.1 in
    let c = content_sound t a.0.0 a.0.1 x rest h.fits a.2 in
    record {
      front = h.front ++ x;
      part = (h.front, subst (λ k. IsHead (string_major t) k h.front) (sym c.1) h.part.0, c.3, refl);
      split = regrouped bs h.front a.0.1 x rest h.split c.0;
      fits = c.2;
    }

pub chunk_complete : (t : Bool) → Complete (IsPiece (string_major t)) (chunk_at t)
unfolding chunk_at
chunk_complete t x front rest is =
    let split : front ++ rest ≡ is.0 ++ (x ++ rest) = ap (λ f. f ++ rest) is.3 ∙ append_assoc is.0 x rest in
    ap (chunk_at t) split
    ∙ rw (length_complete t unbounded (unbounded_fair IsByte) (length x) is.0 (x ++ rest) (is.1, refl)) (content_complete t x rest is.2)

pub chunk_begins : (t : Bool) → Begins (IsPiece (string_major t))
chunk_begins t x bs rest is =
    let split : bs ++ rest ≡ is.0 ++ (x ++ rest) = ap (λ f. f ++ rest) is.3 ∙ append_assoc is.0 x rest in
    let b = head_begins (string_major t) (length x) is.0 (x ++ rest) is.1 in
    (omega (arith, b.0, ap length is.3, length-append is.0 x), ap at_break split ∙ b.1)

-- a piece of so many spaces
piece_of : (t : Bool) (n : ℕ) (head : List ℕ) → IsHead (string_major t) n head → IsPiece (string_major t) (spaces n) (head ++ spaces n)
piece_of t n head is = (head, subst (λ k. IsHead (string_major t) k head) (sym (so_many n)) is, spaces_content t n, refl)

nothing_begun : (t : Bool) → Opens (IsPiece (string_major t)) []
nothing_begun t = (spaces 0, first_byte (string_major t) 0 ∷ [], piece_of t 0 (first_byte (string_major t) 0 ∷ []) (inl (omega arith, refl)))

pub chunk_placed : (t : Bool) → PlacedBehind (IsPiece (string_major t)) (chunk_at t)
unfolding chunk_at
chunk_placed t bs e fits is =
    elim (bind_err (length_at t unbounded bs) (λ n. content_at t n.0 n.1) e is) [
      | inl w ↦ elim (length_placed t unbounded (unbounded_fair IsByte) open_starts bs e fits w) [
        | inl at ↦ at_start (Opens (IsPiece (string_major t))) bs e.left (nothing_begun t) at
        | inr b ↦ instead (Opens (LengthIs t unbounded)) (Opens (IsPiece (string_major t))) bs e.left (λ front o.
            (spaces o.0, o.1 ++ spaces o.0, subst (IsPiece (string_major t) (spaces o.0)) (append_assoc front o.1 (spaces o.0)) (piece_of t o.0 (front ++ o.1) o.2.0))) b
      ]
      | inr a ↦
          let h = length_sound t unbounded open_starts bs a.0.0 a.0.1 fits a.1 in
          behind_a (Opens (ContentBody t a.0.0)) (Opens (IsPiece (string_major t))) h.front a.0.1 bs e.left h.split (λ front o.
          opens_behind (IsPiece (string_major t)) h.front front o.1 o.0
          (h.front, subst (λ k. IsHead (string_major t) k h.front) (sym o.2.0) h.part.0, o.2.1, ap (λ r. h.front ++ r) o.2.2))
          (content_placed t a.0.0 a.0.1 e h.fits a.2)
    ]

-- ---- behind the head

-- what stands behind the head of a text or of bytes
abbrev pub StringBody : Bool → Option ℕ → Text → List ℕ → Type 0
StringBody t (Some n) x body = (x.borrowed ≡ true) × (length x.content ≡ n) × IsContent (string_major t) x.content × (body ≡ x.content)
StringBody t None x body = (pieces : List (List ℕ)) × (x ≡ owned_text (concat pieces)) × Ends (IsPiece (string_major t)) pieces body

pub string_sound : (t : Bool) (o : Option ℕ) → Sound (StringBody t o) (string_at t o)
unfolding string_at chunks_at
string_sound t (Some n) bs x rest fits e =
    let a = bind_ok (content_at t n bs) (λ y. Ok (static_name y.0, y.1)) (x, rest) e in
    let c = content_sound t n bs a.0.0 a.0.1 fits a.1 in
    subst (λ (p : Text × List ℕ). Took (StringBody t (Some n) p.0) bs p.1) (ok_is (static_name a.0.0, a.0.1) (x, rest) a.2)
    (record { front = a.0.0; part = (refl, c.1, c.3, refl); split = c.0; fits = c.2 })
string_sound t None bs x rest fits e =
    let a = bind_ok (until_at (chunk_at t) (length bs) bs >>= λ xs. Ok (concat xs.0, xs.1)) (λ y. Ok (owned_text y.0, y.1)) (x, rest) e in
    let b = bind_ok (until_at (chunk_at t) (length bs) bs) (λ xs. Ok (concat xs.0, xs.1)) a.0 a.1 in
    let u = until_sound (IsPiece (string_major t)) (chunk_at t) (chunk_sound t) (length bs) bs b.0.0 b.0.1 fits b.1 in
    let same : (concat b.0.0, b.0.1) ≡ a.0 = ok_is (concat b.0.0, b.0.1) a.0 b.2 in
    subst (λ (p : Text × List ℕ). Took (StringBody t None p.0) bs p.1) (ap (λ (p : List ℕ × List ℕ). (owned_text p.0, p.1)) same ∙ ok_is (owned_text a.0.0, a.0.1) (x, rest) a.2)
    (record { front = u.front; part = (b.0.0, refl, u.part); split = u.split; fits = u.fits })

marked : (x : Text) → x.borrowed ≡ true → static_name x.content ≡ x
marked x is = ap (λ b. record { content = x.content; borrowed = b }) (sym is)

pub string_complete : (t : Bool) (o : Option ℕ) → Complete (StringBody t o) (string_at t o)
unfolding string_at chunks_at
string_complete t (Some n) x body rest is =
    let read : content_at t n (body ++ rest) ≡ Ok (x.content, rest) = rw (is.3, ← is.1) (content_complete t x.content rest is.2) in
    rw read (ap (λ y. Ok (y, rest)) (marked x is.0))
string_complete t None x body rest is =
    let parts = is.2.0 in
    let whole : body ++ rest ≡ parts ++ (255 ∷ rest) = ap (λ f. f ++ rest) is.2.2 ∙ append_assoc parts (255 ∷ []) rest in
    let enough : length parts < length (body ++ rest) = omega (arith, ap length whole, length-append parts (255 ∷ rest)) in
    let read : until_at (chunk_at t) (length (body ++ rest)) (body ++ rest) ≡ Ok (is.0, rest) =
    ap (until_at (chunk_at t) (length (body ++ rest))) whole
    ∙ until_complete (IsPiece (string_major t)) (chunk_at t) (chunk_complete t) (chunk_begins t) is.0 parts rest (length (body ++ rest)) is.2.1 enough in
    rw read (ap (λ y. Ok (y, rest)) (sym is.1))

-- a head and what stands behind it
pub string_whole : (t : Bool) (o : Option ℕ) (x : Text) (head body : List ℕ) → HeadOf (string_major t) o head → StringBody t o x body
    → IsString (string_major t) x (head ++ body)
string_whole t (Some n) x head body is behind =
    inl (behind.0, (head, subst (λ k. IsHead (string_major t) k head) (sym behind.1) (numbered (string_major t) n head is), behind.2, ap (λ b. head ++ b) behind.3))
string_whole t None x head body is behind =
    inr (behind.0, behind.1, (behind.2.0, behind.2.1, ap (λ h. h ++ body) is ∙ ap (λ b. first_byte (string_major t) 31 ∷ b) behind.2.2))

-- the same apart again: its head, and what comes after
pub string_apart : (t : Bool) (x : Text) (bs : List ℕ) → IsString (string_major t) x bs
    → (o : Option ℕ) × (head body : List ℕ) × (bs ≡ head ++ body) × HeadOf (string_major t) o head × StringBody t o x body
string_apart t x bs (inl w) =
    (Some (length x.content), w.1.0, x.content, w.1.3, of_head (string_major t) (not_simple t) (length x.content) w.1.0 w.1.1, (w.0, refl, w.1.2, refl))
string_apart t x bs (inr w) =
    (None, first_byte (string_major t) 31 ∷ [], w.2.0 ++ (255 ∷ []), w.2.2, refl, (w.0, w.1, (w.2.0, w.2.1, refl)))

-- no text and no bytes begin as a break does
pub string_begins : (t : Bool) (x : Text) (bs rest : List ℕ) → IsString (string_major t) x bs → (0 < length bs) × (at_break (bs ++ rest) ≡ false)
string_begins t x bs rest (inl w) = chunk_begins t x.content bs rest w.1
string_begins t x bs rest (inr w) =
    (omega (arith, ap length w.2.2), ap (λ f. at_break (f ++ rest)) w.2.2 ∙ opening_begins (string_major t) ((w.2.0 ++ (255 ∷ [])) ++ rest) (not_simple t))

-- ---- where it is refused

-- so many spaces
pub some_string : (t : Bool) (n : ℕ) → StringBody t (Some n) (static_name (spaces n)) (spaces n)
some_string t n = (refl, so_many n, spaces_content t n, refl)

pub string_placed : (t : Bool) (o : Option ℕ) → PlacedBehind (StringBody t o) (string_at t o)
unfolding string_at chunks_at
string_placed t (Some n) bs e fits is =
    elim (bind_err (content_at t n bs) (λ y. Ok (static_name y.0, y.1)) e is) [
      | inl w ↦ instead (Opens (ContentBody t n)) (Opens (StringBody t (Some n))) bs e.left (λ front c.
          (static_name c.0, c.1, (refl, c.2.0, c.2.1, c.2.2))) (content_placed t n bs e fits w)
      | inr w ↦ absurd cc
    ]
string_placed t None bs e fits is =
    elim (bind_err (until_at (chunk_at t) (length bs) bs >>= λ xs. Ok (concat xs.0, xs.1)) (λ y. Ok (owned_text y.0, y.1)) e is) [
      | inl v ↦ elim (bind_err (until_at (chunk_at t) (length bs) bs) (λ xs. Ok (concat xs.0, xs.1)) e v) [
        | inl w ↦ instead (Opens (Ends (IsPiece (string_major t)))) (Opens (StringBody t None)) bs e.left (λ front c.
            (owned_text (concat c.0), c.1, (c.0, refl, c.2)))
            (until_placed (IsPiece (string_major t)) (chunk_at t) (chunk_sound t) (λ cs d f w. inr (chunk_placed t cs d f w)) (advances_chunk t) (length bs) bs e (omega arith) fits w)
        | inr w ↦ absurd cc
      ]
      | inr w ↦ absurd cc
    ]
