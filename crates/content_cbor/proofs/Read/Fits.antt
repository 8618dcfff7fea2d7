-- Each fault is one of the byte at its place.
use Rattle.std.proofs.Common.{◌≡◌, ℕ, suc, zero, ◌+◌, ◌*◌, ◌-◌, ◌/◌, ◌%◌, ◌<◌, ◌≤◌, Bool, true, false, cond, eqb, ltb, List, [], ◌∷◌, ◌++◌, length, take, drop, Option, Some, None, Result, Ok, Err, ◌⊎◌, refl, sym, ap, subst, ◌∙◌, append_assoc, append-nil, arith, length-append, inl, inr}
use Rattle.std.specs.Int.{is_in_range}
use Rattle.std.specs.List.{concat}
use Rattle.std.proofs.lemmas.Bool.{cases_lt, eqb-false, eqb-true, ltb-false, ltb-true}
use Rattle.std.proofs.lemmas.List.{drop_at, take-append-drop}
use Rattle.content_tree.specs.Values.Tree as tree
use Rattle.content_tree.specs.Values.Tree.{Tree}
use Rattle.content_tree.specs.Values.Value.{trees_of, pairs_of}
use Rattle.content_cbor.specs.Decoded.{StopsAt}
use Rattle.content_cbor.specs.FaultBytes.{FitsByte, FitsBytes, IsReserved}
use Rattle.content_cbor.specs.Heads.{code, first_byte}
use Rattle.content_cbor.specs.declared.decode_error.DecodeError.TheVariants as error
use Rattle.content_cbor.specs.declared.decode_error.Fault.{Fault}
use Rattle.content_cbor.specs.declared.decode_error.Fault.TheVariants as fault
use Rattle.content_cbor.specs.declared.heads.First.{First}
use Rattle.content_cbor.specs.declared.heads.Major.{Major}
use Rattle.content_cbor.specs.declared.heads.Major.TheVariants as major
use Rattle.content_cbor.specs.declared.stop.Refusal.{Refusal}
use Rattle.content_cbor.specs.declared.utf8.Lack.{Lack}
use Rattle.content_cbor.specs.Inner.Steps.{◌>>=◌, Reader, or_refused, refused, unless}
use Rattle.content_cbor.specs.Inner.Numbers.{Bounds, argument_at, digits_at, size_of, unbounded}
use Rattle.content_cbor.specs.Inner.Texts.{after_byte, tail, text_at, within}
use Rattle.content_cbor.specs.Inner.Reading.{at_break, begins_chunk, bounds_of, bytes_at, chunk_at, chunk_bounds, chunks_at, content_at, digits_of, digits_until, each_at, first_at, head_at, head_behind}
use Rattle.content_cbor.specs.Inner.Reading.{inside_at, is_reserved, item_at, item_fault, kind_at, leaf_at, length_at, magnitude_at, magnitude_behind, major_of, pair_at, parts_at, room, simple_at, string_at, tag_at, until_at, whole_at}
use Rattle.content_cbor.proofs.Read.Heads.{HeadOf, byte_back, head_is, head_sound, kind_sound, made}
use Rattle.content_cbor.proofs.Read.Numbers.{in_range_from, in_range_is}
use Rattle.content_cbor.proofs.Read.Steps.{bind_err, chosen, ok_is, same_refusal}
use Rattle.content_cbor.proofs.Read.Took.{IsBytes, IsBytes-drop, IsBytes-rest}

-- what is left is at the end of the bytes; and where a fault is told, they begin with its byte
abbrev Leaves : List ℕ → List ℕ → Type 0
Leaves bs rest = (front : List ℕ) × (bs ≡ front ++ rest)

abbrev Told : List ℕ → Refusal → Type 0
Told bs e = (front behind : List ℕ) × (bs ≡ front ++ behind) × (length behind ≡ e.left) × FitsBytes e.«fault» behind

abbrev Tells : {A : Type 0} → List ℕ → Result (A × List ℕ) Refusal → Type 0
Tells bs (Ok (x, rest)) = Leaves bs rest
Tells bs (Err e) = Told bs e

-- a fault at the first of these bytes
abbrev here : Fault → List ℕ → Refusal
here f bs = record { «fault» = f; left = length bs }

-- ---- steps

tells_behind : {A : Type 0} (front bs whole : List ℕ) (r : Result (A × List ℕ) Refusal) → whole ≡ front ++ bs → Tells bs r → Tells whole r
tells_behind front bs whole (Ok (x, rest)) split is = (front ++ is.0, split ∙ ap (λ t. front ++ t) is.1 ∙ sym (append_assoc front is.0 rest))
tells_behind front bs whole (Err e) split is = (front ++ is.0, is.1, split ∙ ap (λ t. front ++ t) is.2 ∙ sym (append_assoc front is.0 is.1), is.3, is.4)

fits_after : (front rest bs : List ℕ) → bs ≡ front ++ rest → IsBytes bs → IsBytes rest
fits_after front rest bs split fits =
    subst IsBytes (drop_at front rest (length front) refl) (IsBytes-drop (length front) (front ++ rest) (subst IsBytes split fits))

tells_next : {A B : Type 0} (bs : List ℕ) → IsBytes bs → (r : Result (A × List ℕ) Refusal) (f : A × List ℕ → Result (B × List ℕ) Refusal) → Tells bs r
    → ((x : A) (rest : List ℕ) → IsBytes rest → Tells rest (f (x, rest))) → Tells bs (r >>= f)
tells_next bs fits (Ok (x, rest)) f is next = tells_behind is.0 rest bs (f (x, rest)) is.1 (next x rest (fits_after is.0 rest bs is.1 fits))
tells_next bs fits (Err e) f is next = is

tells_if : {A : Type 0} (bs : List ℕ) (b : Bool) (x y : Result (A × List ℕ) Refusal) → Tells bs x → Tells bs y → Tells bs (cond b x y)
tells_if bs true x y p q = p
tells_if bs false x y p q = q

-- with what is known of the test
tells_by : {A : Type 0} (bs : List ℕ) (b : Bool) (x y : Result (A × List ℕ) Refusal) → (b ≡ true → Tells bs x) → (b ≡ false → Tells bs y) → Tells bs (cond b x y)
tells_by bs true x y p q = p refl
tells_by bs false x y p q = q refl

tells_ok : (bs : List ℕ) → Leaves bs bs
tells_ok bs = ([], refl)

tells_ended : (bs : List ℕ) → Told bs (here fault.Ended [])
tells_ended bs = (bs, [], sym (append-nil bs), refl, refl)

tells_here : (f : Fault) (b : ℕ) (bs : List ℕ) → FitsByte f b → Told (b ∷ bs) (here f (b ∷ bs))
tells_here f b bs is = ([], b ∷ bs, refl, refl, is)

-- ---- first bytes

-- a fault that any byte can have
abbrev AnyByte : Fault → Type 0
AnyByte f = (b : ℕ) → FitsByte f b

reserved_open : (b : ℕ) → b < 256 → is_in_range 28 30 (b % 32) ≡ true → IsReserved b
reserved_open b lt is = inl (in_range_is 28 30 (b % 32) is)

reserved_low : (b : ℕ) → b < 256 → ltb 27 (b % 32) ≡ true → (b % 32 ≡ 31 → (b ≡ 0x1F) ⊎ ((b ≡ 0x3F) ⊎ (b ≡ 0xDF))) → IsReserved b
reserved_low b lt is all =
    elim (cases_lt (b % 32) 31) [
      | inl below ↦ inl (omega (arith, ltb-true 27 (b % 32) is), omega (arith, below))
      | inr high ↦ inr (all (omega (arith, high)))
    ]

reserved_is : (b : ℕ) (m : Major) → b < 256 → b / 32 ≡ code m → is_reserved m (b % 32) ≡ true → IsReserved b
reserved_is b major.Unsigned lt top is = reserved_low b lt is (λ all. inl (omega (arith, all, top)))
reserved_is b major.Negative lt top is = reserved_low b lt is (λ all. inr (inl (omega (arith, all, top))))
reserved_is b major.Tag lt top is = reserved_low b lt is (λ all. inr (inr (omega (arith, all, top))))
reserved_is b major.Bytes lt top is = reserved_open b lt is
reserved_is b major.Text lt top is = reserved_open b lt is
reserved_is b major.Array lt top is = reserved_open b lt is
reserved_is b major.Map lt top is = reserved_open b lt is
reserved_is b major.Simple lt top is = reserved_open b lt is

known_low : (b : ℕ) → ltb 27 (b % 32) ≡ false → IsReserved b → ⊥
known_low b is (inl w) = omega (arith, w.0, ltb-false 27 (b % 32) is)
known_low b is (inr (inl w)) = omega (arith, w, ltb-false 27 (b % 32) is)
known_low b is (inr (inr (inl w))) = omega (arith, w, ltb-false 27 (b % 32) is)
known_low b is (inr (inr (inr w))) = omega (arith, w, ltb-false 27 (b % 32) is)

no_range : (b : ℕ) → is_in_range 28 30 (b % 32) ≡ false → (28 ≤ b % 32) × (b % 32 ≤ 30) → ⊥
no_range b is w = let in_ : is_in_range 28 30 (b % 32) ≡ true = in_range_from 28 30 (b % 32) w.0 w.1 in absurd cc

known_open : (b c : ℕ) → b / 32 ≡ c → (c ≡ 0 → ⊥) → (c ≡ 1 → ⊥) → (c ≡ 6 → ⊥) → is_in_range 28 30 (b % 32) ≡ false → IsReserved b → ⊥
known_open b c top zeroth first sixth is (inl w) = no_range b is w
known_open b c top zeroth first sixth is (inr (inl w)) = zeroth (omega (arith, w, top))
known_open b c top zeroth first sixth is (inr (inr (inl w))) = first (omega (arith, w, top))
known_open b c top zeroth first sixth is (inr (inr (inr w))) = sixth (omega (arith, w, top))

known_is : (b : ℕ) (m : Major) → b / 32 ≡ code m → is_reserved m (b % 32) ≡ false → IsReserved b → ⊥
known_is b major.Unsigned top is = known_low b is
known_is b major.Negative top is = known_low b is
known_is b major.Tag top is = known_low b is
known_is b major.Bytes top is = known_open b 2 top (λ e. omega (arith, e)) (λ e. omega (arith, e)) (λ e. omega (arith, e)) is
known_is b major.Text top is = known_open b 3 top (λ e. omega (arith, e)) (λ e. omega (arith, e)) (λ e. omega (arith, e)) is
known_is b major.Array top is = known_open b 4 top (λ e. omega (arith, e)) (λ e. omega (arith, e)) (λ e. omega (arith, e)) is
known_is b major.Map top is = known_open b 5 top (λ e. omega (arith, e)) (λ e. omega (arith, e)) (λ e. omega (arith, e)) is
known_is b major.Simple top is = known_open b 7 top (λ e. omega (arith, e)) (λ e. omega (arith, e)) (λ e. omega (arith, e)) is

top_is : (b : ℕ) → b < 256 → b / 32 ≡ code (major_of (b / 32))
top_is b lt = omega (arith, byte_back b lt)

tells_first : (bs : List ℕ) → IsBytes bs → Tells bs (first_at bs)
unfolding first_at
tells_first [] fits = tells_ended []
tells_first (b ∷ bs) fits =
    tells_by (b ∷ bs) (is_reserved (major_of (b / 32)) (b % 32)) _ _
    (λ is. tells_here fault.Reserved b bs (reserved_is b (major_of (b / 32)) (fits 0) (top_is b (fits 0)) is))
    (λ is. (b ∷ [], refl))

-- what a first byte says that was read
pub record IsRead (bs : List ℕ) (h : First) (rest : List ℕ) : Type 0 where
  pub byte : ℕ
  pub split : bs ≡ byte ∷ rest
  pub small : byte < 256
  pub top : byte / 32 ≡ code h.«major»
  pub low : byte % 32 ≡ h.info
  pub known : IsReserved byte → ⊥

pub first_read : (bs : List ℕ) (h : First) (rest : List ℕ) → IsBytes bs → first_at bs ≡ Ok (h, rest) → IsRead bs h rest
unfolding first_at
first_read [] h rest fits is = absurd cc
first_read (b ∷ bs) h rest fits is =
    let m = major_of (b / 32) in
    elim (chosen (is_reserved m (b % 32)) (refused fault.Reserved (b ∷ bs)) (Ok (made m (b % 32), bs)) (Ok (h, rest)) is) [
      | inl w ↦ absurd cc
      | inr w ↦ subst (λ (p : First × List ℕ). IsRead (b ∷ bs) p.0 p.1) (ok_is (made m (b % 32), bs) (h, rest) w.1)
          (record { byte = b; split = refl; small = fits 0; top = top_is b (fits 0); low = refl; known = known_is b m (top_is b (fits 0)) w.0 })
    ]

-- a fault of a byte that was read
tells_at : (f : Fault) (bs : List ℕ) (h : First) (rest : List ℕ) → (r : IsRead bs h rest) → FitsByte f r.byte → Told bs (here f bs)
tells_at f bs h rest r is = subst (λ u. Told u (here f u)) (sym r.split) (tells_here f r.byte rest is)

-- what is wrong with an item is so of its byte
abbrev AreFit : Option Fault → ℕ → Type 0
AreFit None b = Unit {0}
AreFit (Some f) b = FitsByte f b

fit_by : (t : Bool) (x y : Option Fault) (b : ℕ) → (t ≡ true → AreFit x b) → (t ≡ false → AreFit y b) → AreFit (cond t x y) b
fit_by true x y b p q = p refl
fit_by false x y b p q = q refl

item_fit : (m : Major) (info b : ℕ) → b < 256 → b / 32 ≡ code m → b % 32 ≡ info → (IsReserved b → ⊥) → AreFit (item_fault m info) b
item_fit major.Simple info b lt top low known =
    fit_by (eqb info 31) _ _ b (λ is. omega (arith, top, low, eqb-true info 31 is)) (λ isnt.
    fit_by (is_in_range 25 27 info) _ _ b
    (λ is. let r = in_range_is 25 27 info is in (omega (arith, top, low, r.0), omega (arith, top, low, r.1))) (λ other.
    fit_by (is_in_range 20 22 info) _ _ b (λ is. tt) (λ third. simple_fit info b top low known (eqb-false info 31 isnt) other third)))
  where
    simple_fit : (info b : ℕ) → b / 32 ≡ 7 → b % 32 ≡ info → (IsReserved b → ⊥) → (info ≡ 31 → ⊥) → is_in_range 25 27 info ≡ false → is_in_range 20 22 info ≡ false → FitsByte fault.Simple b
    simple_fit info b top low known open_ float three =
        elim (cases_lt info 20) [
          | inl below ↦ inl (omega (arith, top), omega (arith, top, low, below))
          | inr over ↦ elim (cases_lt info 23) [
            | inl in_three ↦ let is : is_in_range 20 22 info ≡ true = in_range_from 20 22 info over (omega (arith, in_three)) in absurd cc
            | inr past ↦ elim (cases_lt info 25) [
              | inl short ↦ inr (omega (arith, top, low, past), omega (arith, top, low, short))
              | inr long ↦ elim (cases_lt info 28) [
                | inl in_float ↦ let is : is_in_range 25 27 info ≡ true = in_range_from 25 27 info long (omega (arith, in_float)) in absurd cc
                | inr high ↦ elim (cases_lt info 31) [
                  | inl reserved ↦ absurd (known (inl (omega (arith, low, high), omega (arith, low, reserved))))
                  | inr all ↦ absurd (open_ (omega (arith, low, all)))
                ]
              ]
            ]
          ]
        ]
item_fit major.Tag info b lt top low known = fit_by (ltb 23 info) _ _ b (λ is. tt) (λ is. fit_by (is_in_range 2 3 info) _ _ b (λ r. tt) (λ r. tt))
item_fit major.Unsigned info b lt top low known = tt
item_fit major.Negative info b lt top low known = tt
item_fit major.Bytes info b lt top low known = tt
item_fit major.Text info b lt top low known = tt
item_fit major.Array info b lt top low known = tt
item_fit major.Map info b lt top low known = tt

tells_unless : (o : Option Fault) (b : ℕ) (rest : List ℕ) (h : First) → AreFit o b → Tells (b ∷ rest) (unless o (b ∷ rest) (h, rest))
tells_unless None b rest h is = (b ∷ [], refl)
tells_unless (Some f) b rest h is = tells_here f b rest is

known_of : {A B : Type 0} (r : Result (A × List ℕ) Refusal) (f : A × List ℕ → Result (B × List ℕ) Refusal) (bs : List ℕ) → Tells bs r
    → ((x : A) (rest : List ℕ) → r ≡ Ok (x, rest) → Tells bs (f (x, rest))) → Tells bs (r >>= f)
known_of (Ok (x, rest)) f bs is next = next x rest refl
known_of (Err e) f bs is next = is

tells_kind : (bs : List ℕ) → IsBytes bs → Tells bs (kind_at bs)
unfolding kind_at
tells_kind bs fits =
    known_of (first_at bs) (λ h. unless (item_fault h.0.«major» h.0.info) bs h) bs (tells_first bs fits) (λ h rest is.
    let r = first_read bs h rest fits is in
    subst (λ u. Tells u (unless (item_fault h.«major» h.info) u (h, rest))) (sym r.split)
    (tells_unless (item_fault h.«major» h.info) r.byte rest h (item_fit h.«major» h.info r.byte r.small r.top r.low r.known)))

-- ---- numbers and heads

tells_digits : (bounds : Bounds) → AnyByte bounds.otherwise → (due n : ℕ) (bs : List ℕ) → Tells bs (digits_at bounds due n bs)
unfolding digits_at
tells_digits bounds any zero n bs = tells_ok bs
tells_digits bounds any (suc due) n [] = tells_ended []
tells_digits bounds any (suc due) n (b ∷ bs) =
    tells_if (b ∷ bs) (bounds.admits due (n * 256 + b)) _ _
    (tells_behind (b ∷ []) bs (b ∷ bs) (digits_at bounds due (n * 256 + b) bs) refl (tells_digits bounds any due (n * 256 + b) bs))
    (tells_here bounds.otherwise b bs (any b))

tells_argument : (bounds : Bounds) → AnyByte bounds.otherwise → (b info : ℕ) (bs : List ℕ) → Tells (b ∷ bs) (argument_at bounds info bs)
unfolding argument_at
tells_argument bounds any b info bs =
    tells_if (b ∷ bs) (ltb info 24) _ _
    (tells_if (b ∷ bs) (bounds.admits 0 info) _ _ (b ∷ [], refl) ([], b ∷ bs, refl, refl, any b))
    (tells_behind (b ∷ []) bs (b ∷ bs) (digits_at bounds (size_of info) 0 bs) refl (tells_digits bounds any (size_of info) 0 bs))

any_of : (limit : ℕ) (m : Major) → AnyByte (bounds_of limit m).otherwise
any_of limit major.Tag b = tt
any_of zero major.Array b = tt
any_of zero major.Map b = tt
any_of (suc limit) major.Array b = tt
any_of (suc limit) major.Map b = tt
any_of limit major.Unsigned b = tt
any_of limit major.Negative b = tt
any_of limit major.Bytes b = tt
any_of limit major.Text b = tt
any_of limit major.Simple b = tt

tells_head_behind : (bounds : Bounds) → AnyByte bounds.otherwise → (first : First) (b : ℕ) (bs : List ℕ) → IsBytes (b ∷ bs) → Tells (b ∷ bs) (head_behind bounds first bs)
tells_head_behind bounds any first b bs fits =
    tells_if (b ∷ bs) (eqb first.info 31) _ _ (b ∷ [], refl)
    (tells_next (b ∷ bs) fits (argument_at bounds first.info bs) _ (tells_argument bounds any b first.info bs) (λ n rest fit. tells_ok rest))

-- where an item's first byte was read, it is there
kind_byte : (bs : List ℕ) (h : First) (rest : List ℕ) → IsBytes bs → kind_at bs ≡ Ok (h, rest) → (b : ℕ) × (bs ≡ b ∷ rest)
kind_byte bs h rest fits is =
    let f = kind_sound bs h rest fits is in (first_byte h.«major» h.info, f.split ∙ ap (λ t. t ++ rest) f.part.1)

tells_head : (limit : ℕ) (bs : List ℕ) → IsBytes bs → Tells bs (head_at limit bs)
unfolding head_at
tells_head limit bs fits =
    known_of (kind_at bs) (λ h. head_behind (bounds_of limit h.0.«major») h.0 h.1) bs (tells_kind bs fits) (λ h rest is.
    let k = kind_byte bs h rest fits is in
    subst (λ u. Tells u (head_behind (bounds_of limit h.«major») h rest)) (sym k.1)
    (tells_head_behind (bounds_of limit h.«major») (any_of limit h.«major») h k.0 rest (subst IsBytes k.1 fits)))

-- ---- texts and bytes

tells_bytes : (n : ℕ) (bs : List ℕ) → Tells bs (bytes_at n bs)
tells_bytes n bs = tells_if bs (ltb (length bs) n) _ _ (tells_ended bs) (take n bs, sym (take-append-drop n bs))

tells_there : {A B : Type 0} (b : ℕ) (bs : List ℕ) (o : Option A) (then : A → Result (B × List ℕ) Refusal) → ((x : A) → Tells (b ∷ bs) (then x))
    → Tells (b ∷ bs) (or_refused fault.NotUtf8 (b ∷ bs) o >>= then)
tells_there b bs None then next = tells_here fault.NotUtf8 b bs tt
tells_there b bs (Some x) then next = next x

tells_text : (lack : Lack) (n : ℕ) (bs : List ℕ) → IsBytes bs → Tells bs (text_at lack n bs)
unfolding text_at
tells_text lack zero bs fits = tells_ok bs
tells_text lack (suc n) [] fits = tells_ended []
tells_text lack (suc n) (b ∷ bs) fits =
    let fit : IsBytes bs = IsBytes-rest b bs fits in
    tells_there b bs (within n (after_byte lack b)) _ (λ next.
    tells_behind (b ∷ []) bs (b ∷ bs) (text_at next n bs >>= λ x. Ok (b ∷ x.0, x.1)) refl
    (tells_next bs fit (text_at next n bs) _ (tells_text next n bs fit) (λ x rest after. tells_ok rest)))

tells_content : (t : Bool) (n : ℕ) (bs : List ℕ) → IsBytes bs → Tells bs (content_at t n bs)
unfolding content_at
tells_content false n bs fits = tells_bytes n bs
tells_content true n bs fits = tells_text (tail 0) n bs fits

tells_length : (t : Bool) (bounds : Bounds) → AnyByte bounds.otherwise → (bs : List ℕ) → IsBytes bs → at_break bs ≡ false → Tells bs (length_at t bounds bs)
unfolding length_at
tells_length t bounds any bs fits none =
    known_of (first_at bs) (λ h. cond (begins_chunk t h.0.«major» h.0.info) (argument_at bounds h.0.info h.1) (refused fault.WrongChunk bs)) bs (tells_first bs fits) (λ h rest is.
    let r = first_read bs h rest fits is in
    tells_if bs (begins_chunk t h.«major» h.info) _ _
    (subst (λ u. Tells u (argument_at bounds h.info rest)) (sym r.split) (tells_argument bounds any r.byte h.info rest))
    (tells_at fault.WrongChunk bs h rest r (r.known, eqb-false r.byte 255 (ap at_break (sym r.split) ∙ none))))

tells_chunk : (t : Bool) (bs : List ℕ) → IsBytes bs → at_break bs ≡ false → Tells bs (chunk_at t bs)
unfolding chunk_at
tells_chunk t bs fits none =
    tells_next bs fits (length_at t unbounded bs) _ (tells_length t unbounded (λ b. tt) bs fits none) (λ n rest fit. tells_content t n rest fit)

-- ---- parts

tells_until : {A : Type 0} (read : Reader A) → ((bs : List ℕ) → IsBytes bs → at_break bs ≡ false → Tells bs (read bs)) → (k : ℕ) (bs : List ℕ) → IsBytes bs → Tells bs (until_at read k bs)
unfolding until_at
tells_until read telling zero bs fits = tells_ended bs
tells_until read telling (suc k) bs fits =
    tells_by bs (at_break bs) _ _ (λ is. (take 1 bs, sym (take-append-drop 1 bs))) (λ none.
    tells_next bs fits (read bs) _ (telling bs fits none) (λ x rest fit.
    tells_next rest fit (until_at read k rest) _ (tells_until read telling k rest fit) (λ xs after last. tells_ok after)))

tells_each : {A : Type 0} (read : Reader A) → ((bs : List ℕ) → IsBytes bs → Tells bs (read bs)) → (k : ℕ) (bs : List ℕ) → IsBytes bs → Tells bs (each_at read k bs)
unfolding each_at
tells_each read telling zero bs fits = tells_ok bs
tells_each read telling (suc k) bs fits =
    tells_next bs fits (read bs) _ (telling bs fits) (λ x rest fit.
    tells_next rest fit (each_at read k rest) _ (tells_each read telling k rest fit) (λ xs after last. tells_ok after))

tells_pair : (read : Reader Tree) → ((bs : List ℕ) → IsBytes bs → Tells bs (read bs)) → (bs : List ℕ) → IsBytes bs → Tells bs (pair_at read bs)
unfolding pair_at
tells_pair read telling bs fits =
    tells_next bs fits (read bs) _ (telling bs fits) (λ k rest fit.
    tells_next rest fit (read rest) _ (telling rest fit) (λ v after last. tells_ok after))

tells_parts : {A : Type 0} (read : Reader A) → ((bs : List ℕ) → IsBytes bs → Tells bs (read bs)) → (o : Option ℕ) (bs : List ℕ) → IsBytes bs → Tells bs (parts_at read o bs)
unfolding parts_at
tells_parts read telling None bs fits = tells_until read (λ u fit none. telling u fit) (length bs) bs fits
tells_parts read telling (Some n) bs fits = tells_each read telling n bs fits

tells_string : (t : Bool) (o : Option ℕ) (bs : List ℕ) → IsBytes bs → Tells bs (string_at t o bs)
unfolding string_at chunks_at
tells_string t (Some n) bs fits = tells_next bs fits (content_at t n bs) _ (tells_content t n bs fits) (λ x rest fit. tells_ok rest)
tells_string t None bs fits =
    tells_next bs fits (until_at (chunk_at t) (length bs) bs >>= λ xs. Ok (concat xs.0, xs.1)) _
    (tells_next bs fits (until_at (chunk_at t) (length bs) bs) _ (tells_until (chunk_at t) (tells_chunk t) (length bs) bs fits) (λ xs rest fit. tells_ok rest))
    (λ x rest fit. tells_ok rest)

-- ---- numbers under a tag

any_if : (b : Bool) (x y : Bounds) → AnyByte x.otherwise → AnyByte y.otherwise → AnyByte (cond b x y).otherwise
any_if true x y p q = p
any_if false x y p q = q

any_chunk : (negative : Bool) (n : ℕ) → AnyByte (chunk_bounds negative n).otherwise
any_chunk negative n = any_if (eqb n 0) _ _ (λ b. tt) (λ b. tt)

tells_digits_until : (negative : Bool) (n k : ℕ) (bs : List ℕ) → IsBytes bs → Tells bs (digits_until negative n k bs)
unfolding digits_until
tells_digits_until negative n zero bs fits = tells_ended bs
tells_digits_until negative n (suc k) bs fits =
    tells_by bs (at_break bs) _ _ (λ is. (take 1 bs, sym (take-append-drop 1 bs))) (λ none.
    tells_next bs fits (length_at false (chunk_bounds negative n) bs) _ (tells_length false (chunk_bounds negative n) (any_chunk negative n) bs fits none) (λ l rest fit.
    tells_next rest fit (digits_at (room negative) l n rest) _ (tells_digits (room negative) (λ b. tt) l n rest) (λ m after last.
    tells_digits_until negative m k after last)))

tells_digits_of : (negative : Bool) (o : Option ℕ) (bs : List ℕ) → IsBytes bs → Tells bs (digits_of negative o bs)
tells_digits_of negative (Some n) bs fits = tells_digits (room negative) (λ b. tt) n 0 bs
tells_digits_of negative None bs fits = tells_digits_until negative 0 (length bs) bs fits

wrong_kind : (b : ℕ) (rest : List ℕ) → (IsReserved b → ⊥) → (b ≡ 255 → ⊥) → (b < 64) ⊎ (96 ≤ b) → Told (b ∷ rest) (here fault.WrongKind (b ∷ rest))
wrong_kind b rest known last apart = tells_here fault.WrongKind b rest ((known, last), apart)

break_or_kind : (t : Bool) (b : ℕ) → (t ≡ true → b ≡ 255) → (t ≡ false → FitsByte fault.WrongKind b) → FitsByte (cond t fault.Break fault.WrongKind) b
break_or_kind true b p q = p refl
break_or_kind false b p q = q refl

tells_magnitude_behind : (negative : Bool) (m : Major) (info b : ℕ) (rest : List ℕ) → IsBytes (b ∷ rest) → b / 32 ≡ code m → b % 32 ≡ info → (IsReserved b → ⊥)
    → Tells (b ∷ rest) (magnitude_behind negative (b ∷ rest) m info rest)
tells_magnitude_behind negative major.Bytes info b rest fits top low known =
    tells_next (b ∷ rest) fits (head_behind unbounded (made major.Bytes info) rest) _ (tells_head_behind unbounded (λ c. tt) (made major.Bytes info) b rest fits) (λ h after fit.
    tells_digits_of negative h.number after fit)
tells_magnitude_behind negative major.Simple info b rest fits top low known =
    tells_here (cond (eqb info 31) fault.Break fault.WrongKind) b rest
    (break_or_kind (eqb info 31) b (λ is. omega (arith, top, low, eqb-true info 31 is)) (λ isnt.
    ((known, λ all. eqb-false info 31 isnt (omega (arith, all, low))), inr (omega (arith, top)))))
tells_magnitude_behind negative major.Unsigned info b rest fits top low known = wrong_kind b rest known (λ all. omega (arith, all, top)) (inl (omega (arith, top)))
tells_magnitude_behind negative major.Negative info b rest fits top low known = wrong_kind b rest known (λ all. omega (arith, all, top)) (inl (omega (arith, top)))
tells_magnitude_behind negative major.Text info b rest fits top low known = wrong_kind b rest known (λ all. omega (arith, all, top)) (inr (omega (arith, top)))
tells_magnitude_behind negative major.Array info b rest fits top low known = wrong_kind b rest known (λ all. omega (arith, all, top)) (inr (omega (arith, top)))
tells_magnitude_behind negative major.Map info b rest fits top low known = wrong_kind b rest known (λ all. omega (arith, all, top)) (inr (omega (arith, top)))
tells_magnitude_behind negative major.Tag info b rest fits top low known = wrong_kind b rest known (λ all. omega (arith, all, top)) (inr (omega (arith, top)))

tells_magnitude : (negative : Bool) (bs : List ℕ) → IsBytes bs → Tells bs (magnitude_at negative bs)
unfolding magnitude_at
tells_magnitude negative bs fits =
    known_of (first_at bs) (λ h. magnitude_behind negative bs h.0.«major» h.0.info h.1) bs (tells_first bs fits) (λ h rest is.
    let r = first_read bs h rest fits is in
    subst (λ u. Tells u (magnitude_behind negative u h.«major» h.info rest)) (sym r.split)
    (tells_magnitude_behind negative h.«major» h.info r.byte rest (subst IsBytes r.split fits) r.top r.low r.known))

tells_tag : (n : ℕ) (bs : List ℕ) → IsBytes bs → Tells bs (tag_at n bs)
unfolding tag_at
tells_tag n bs fits =
    tells_if bs (eqb n 2) _ _
    (tells_next bs fits (magnitude_at false bs) _ (tells_magnitude false bs fits) (λ x rest fit. tells_ok rest))
    (tells_next bs fits (magnitude_at true bs) _ (tells_magnitude true bs fits) (λ x rest fit. tells_ok rest))

-- ---- items

-- a fault of the one byte of a head
tells_before : (f : Fault) (b : ℕ) (head bs : List ℕ) → head ≡ b ∷ [] → FitsByte f b → Told (head ++ bs) (record { «fault» = f; left = suc (length bs) })
tells_before f b head bs is fit =
    subst (λ h. Told (h ++ bs) (record { «fault» = f; left = suc (length bs) })) (sym is) ([], b ∷ bs, refl, refl, fit)

simple_byte : (n : ℕ) → n < 24 → (n ≡ 20 → ⊥) → (n ≡ 21 → ⊥) → (n ≡ 22 → ⊥) → FitsByte fault.Simple (first_byte major.Simple n)
simple_byte n lt first second third =
    elim (cases_lt n 20) [
      | inl below ↦ inl (omega arith, omega (arith, below))
      | inr over ↦ elim (cases_lt n 23) [
        | inl one ↦ elim (cases_lt n 21) [
          | inl a ↦ absurd (first (omega (arith, a, over)))
          | inr a ↦ elim (cases_lt n 22) [
            | inl b ↦ absurd (second (omega (arith, a, b)))
            | inr b ↦ absurd (third (omega (arith, b, one)))
          ]
        ]
        | inr past ↦ inr (omega (arith, past), omega (arith, lt))
      ]
    ]

tells_simple : (n : ℕ) (head bs : List ℕ) → HeadOf major.Simple (Some n) head → Tells (head ++ bs) (simple_at n bs)
tells_simple n head bs (inl w) =
    tells_by (head ++ bs) (eqb n 20) _ _ (λ is. (head, refl)) (λ first.
    tells_by (head ++ bs) (eqb n 21) _ _ (λ is. (head, refl)) (λ second.
    tells_by (head ++ bs) (eqb n 22) _ _ (λ is. (head, refl)) (λ third.
    tells_before fault.Simple (first_byte major.Simple n) head bs w.1 (simple_byte n w.0 (eqb-false n 20 first) (eqb-false n 21 second) (eqb-false n 22 third)))))
tells_simple n head bs (inr w) = absurd cc

tells_inside : (limit : ℕ) → ((bs : List ℕ) → IsBytes bs → Tells bs (item_at limit bs)) → (m : Major) (o : Option ℕ) (head bs : List ℕ) → HeadOf m o head → IsBytes bs
    → Tells (head ++ bs) (inside_at (item_at limit) m o bs)
unfolding leaf_at
tells_inside limit telling major.Array o head bs is fits =
    tells_behind head bs (head ++ bs) (parts_at (item_at limit) o bs >>= λ xs. Ok (tree.seq (trees_of xs.0), xs.1)) refl
    (tells_next bs fits (parts_at (item_at limit) o bs) _ (tells_parts (item_at limit) telling o bs fits) (λ xs rest fit. tells_ok rest))
tells_inside limit telling major.Map o head bs is fits =
    tells_behind head bs (head ++ bs) (parts_at (pair_at (item_at limit)) o bs >>= λ xs. Ok (tree.map (pairs_of xs.0), xs.1)) refl
    (tells_next bs fits (parts_at (pair_at (item_at limit)) o bs) _ (tells_parts (pair_at (item_at limit)) (tells_pair (item_at limit) telling) o bs fits) (λ xs rest fit. tells_ok rest))
tells_inside limit telling major.Bytes o head bs is fits =
    tells_behind head bs (head ++ bs) (string_at false o bs >>= λ x. Ok (tree.octets x.0, x.1)) refl
    (tells_next bs fits (string_at false o bs) _ (tells_string false o bs fits) (λ x rest fit. tells_ok rest))
tells_inside limit telling major.Text o head bs is fits =
    tells_behind head bs (head ++ bs) (string_at true o bs >>= λ x. Ok (tree.text x.0, x.1)) refl
    (tells_next bs fits (string_at true o bs) _ (tells_string true o bs fits) (λ x rest fit. tells_ok rest))
tells_inside limit telling major.Tag (Some n) head bs is fits =
    tells_behind head bs (head ++ bs) (tag_at n bs >>= λ k. Ok (tree.number k.0, k.1)) refl
    (tells_next bs fits (tag_at n bs) _ (tells_tag n bs fits) (λ k rest fit. tells_ok rest))
tells_inside limit telling major.Simple (Some n) head bs is fits = tells_simple n head bs is
tells_inside limit telling major.Unsigned (Some n) head bs is fits = (head, refl)
tells_inside limit telling major.Negative (Some n) head bs is fits = (head, refl)
tells_inside limit telling major.Simple None head bs is fits = tells_before fault.Break 255 head bs is refl
tells_inside limit telling major.Unsigned None head bs is fits = tells_before fault.Reserved 31 head bs is (inr (inl refl))
tells_inside limit telling major.Negative None head bs is fits = tells_before fault.Reserved 63 head bs is (inr (inr (inl refl)))
tells_inside limit telling major.Tag None head bs is fits = tells_before fault.Reserved 223 head bs is (inr (inr (inr refl)))

tells_deep : (bs : List ℕ) → IsBytes bs → Tells bs (item_at 0 bs)
unfolding item_at
tells_deep bs fits =
    known_of (kind_at bs) (λ h. refused fault.TooDeep bs) bs (tells_kind bs fits) (λ h rest is.
    let k = kind_byte bs h rest fits is in
    subst (λ u. Told u (here fault.TooDeep u)) (sym k.1) (tells_here fault.TooDeep k.0 rest tt))

tells_item : (limit : ℕ) (bs : List ℕ) → IsBytes bs → Tells bs (item_at limit bs)
unfolding item_at
tells_item zero bs fits = tells_deep bs fits
tells_item (suc limit) bs fits =
    known_of (head_at limit bs) (λ h. inside_at (item_at limit) h.0.«major» h.0.number h.1) bs (tells_head limit bs fits) (λ h rest is.
    let s = head_sound limit bs h rest fits is in
    let m = h.«major» in
    subst (λ u. Tells u (inside_at (item_at limit) m h.number rest)) (sym s.split)
    (tells_inside limit (tells_item limit) m h.number s.front rest (head_is (bounds_of limit m) m h.number s.front s.part) s.fits))

-- ---- as they are answered

item_fits : (limit : ℕ) (bs : List ℕ) (e : Refusal) (at : ℕ) → IsBytes bs → item_at limit bs ≡ Err e → at ≡ length bs - e.left → FitsBytes e.«fault» (drop at bs)
item_fits limit bs e at fits is place =
    let t : Told bs e = subst (Tells bs) is (tells_item limit bs fits) in
    let front : length t.0 ≡ at = omega (arith, place, t.3, ap length t.2, length-append t.0 t.1) in
    let same : drop at bs ≡ t.1 = ap (drop at) t.2 ∙ drop_at t.0 t.1 at front in
    subst (FitsBytes e.«fault») (sym same) t.4

-- bytes behind an item can begin with any
behind_fits : (limit : ℕ) (bs : List ℕ) (t : Tree) (behind : List ℕ) (at : ℕ) → IsBytes bs → item_at limit bs ≡ Ok (t, behind) → (length behind ≡ 0 → ⊥) → at ≡ length bs - length behind
    → FitsBytes fault.Trailing (drop at bs)
behind_fits limit bs t behind at fits is some place =
    let told_ : Leaves bs behind = subst (Tells bs) is (tells_item limit bs fits) in
    let front : length told_.0 ≡ at = omega (arith, place, ap length told_.1, length-append told_.0 behind) in
    let same : drop at bs ≡ behind = ap (drop at) told_.1 ∙ drop_at told_.0 behind at front in
    subst (FitsBytes fault.Trailing) (sym same) (any_trailing behind some)
  where
    any_trailing : (behind : List ℕ) → (length behind ≡ 0 → ⊥) → FitsBytes fault.Trailing behind
    any_trailing [] some = absurd (some refl)
    any_trailing (b ∷ bs) some = tt

whole_fits : (limit : ℕ) (bs : List ℕ) (e : Refusal) (at : ℕ) → IsBytes bs → whole_at limit bs ≡ Err e → at ≡ length bs - e.left → FitsBytes e.«fault» (drop at bs)
unfolding whole_at
whole_fits limit bs e at fits is place =
    elim (bind_err (item_at limit bs) (λ x. cond (eqb (length x.1) 0) (Ok x.0) (refused fault.Trailing x.1)) e is) [
      | inl w ↦ item_fits limit bs e at fits w place
      | inr a ↦ elim (chosen (eqb (length a.0.1) 0) (Ok a.0.0) (refused fault.Trailing a.0.1) (Err e) a.2) [
        | inl w ↦ absurd cc
        | inr w ↦
            let same = same_refusal {A = Tree} (record { «fault» = fault.Trailing; left = length a.0.1 }) e w.1 in
            subst (λ (u : Refusal). FitsBytes u.«fault» (drop at bs)) same
            (behind_fits limit bs a.0.0 a.0.1 at fits a.1 (eqb-false (length a.0.1) 0 w.0) (place ∙ ap (λ (u : Refusal). length bs - u.left) (sym same)))
      ]
    ]

pub fits_front : (limit : ℕ) (bs : List ℕ) (at : ℕ) (f : Fault) → IsBytes bs → StopsAt bs (error.Refused at f) (item_at limit bs) → FitsBytes f (drop at bs)
fits_front limit bs at f fits stops = item_fits limit bs (record { «fault» = f; left = stops.0 }) at fits stops.1 stops.2

pub fits_whole : (limit : ℕ) (bs : List ℕ) (at : ℕ) (f : Fault) → IsBytes bs → StopsAt bs (error.Refused at f) (whole_at limit bs) → FitsBytes f (drop at bs)
fits_whole limit bs at f fits stops = whole_fits limit bs (record { «fault» = f; left = stops.0 }) at fits stops.1 stops.2
