-- Each fault is one of the bytes up to its place, and with it.
use Rattle.std.proofs.Common.{◌≡◌, ℕ, suc, zero, ◌+◌, ◌*◌, ◌-◌, ◌/◌, ◌%◌, ◌<◌, ◌≤◌, Bool, true, false, cond, eqb, ltb, List, [], ◌∷◌, ◌++◌, get_or, length, take, drop, Option, Some, None, Result, Ok, Err, ◌⊎◌, refl, sym, ap, subst, ◌∙◌, append_assoc, append-nil, arith, length-append, inl, inr}
use Rattle.std.specs.Int.{is_in_range}
use Rattle.std.specs.List.{concat}
use Rattle.std.proofs.Math.Seq.{take-append-add}
use Rattle.std.proofs.lemmas.Bool.{eq-eqb, eqb-false, eqb-true}
use Rattle.std.proofs.lemmas.List.{drop_at, take-append-drop}
use Rattle.content_tree.specs.Values.Text.{owned_text, static_name}
use Rattle.content_tree.specs.Values.Tree as tree
use Rattle.content_tree.specs.Values.Tree.{Tree}
use Rattle.content_tree.specs.Values.Value.{trees_of, pairs_of}
use Rattle.content_cbor.specs.Codes.{IsHead}
use Rattle.content_cbor.specs.Decoded.{StopsAt}
use Rattle.content_cbor.specs.FaultBytes.{EndsInHead, FitsFront, IsFirstByte, IsWideTag}
use Rattle.content_cbor.specs.Heads.{code, first_byte}
use Rattle.content_cbor.specs.declared.decode_error.DecodeError.TheVariants as error
use Rattle.content_cbor.specs.declared.decode_error.Fault.{Fault}
use Rattle.content_cbor.specs.declared.decode_error.Fault.TheVariants as fault
use Rattle.content_cbor.specs.declared.heads.First.{First}
use Rattle.content_cbor.specs.declared.heads.Major.{Major}
use Rattle.content_cbor.specs.declared.heads.Major.TheVariants as major
use Rattle.content_cbor.specs.declared.stop.Refusal.{Refusal}
use Rattle.content_cbor.specs.declared.utf8.Lack.{Lack}
use Rattle.content_cbor.specs.Inner.Steps.{◌>>=◌, Reader, or_refused, refused, unless}
use Rattle.content_cbor.specs.Inner.Numbers.{Bounds, argument_at, digits_at, size_of, unbounded}
use Rattle.content_cbor.specs.Inner.Texts.{after_byte, tail, text_at, within}
use Rattle.content_cbor.specs.Inner.Reading.{at_break, begins_chunk, bounds_of, bytes_at, chunk_at, chunk_bounds, chunks_at, content_at, digits_of, digits_until, each_at, first_at, head_at, head_behind}
use Rattle.content_cbor.specs.Inner.Reading.{inside_at, is_reserved, item_at, item_fault, kind_at, leaf_at, length_at, magnitude_at, magnitude_behind, major_of, pair_at, parts_at, room, string_at, string_major, tag_at, until_at, whole_at}
use Rattle.content_cbor.proofs.Read.Fits.{first_read}
use Rattle.content_cbor.proofs.Read.Heads as heads
use Rattle.content_cbor.proofs.Read.Heads.{HeadIn, HeadOf, first_sound, head_is, head_sound, kind_sound, made, numbered}
use Rattle.content_cbor.proofs.Read.Numbers.{in_range_is}
use Rattle.content_cbor.proofs.Read.Steps.{bind_err, bind_ok, chosen, not_wrong, same_refusal}
use Rattle.content_cbor.proofs.Read.Strings.{length_sound, open_starts}
use Rattle.content_cbor.proofs.Read.Tags.{IsTag}
use Rattle.content_cbor.proofs.Read.Took.{IsBytes, IsBytes-drop}

-- what such a relation says of a fault and of the bytes up to its place, and with it
abbrev Place : Type 1
Place = Fault → List ℕ → Type 0

-- what is left is at the end of the bytes; and a refusal says so of the bytes up to it
abbrev Stood : Place → List ℕ → Refusal → Type 0
Stood S bs e = (front behind : List ℕ) × (bs ≡ front ++ behind) × (length behind ≡ e.left) × S e.«fault» (front ++ take 1 behind)

abbrev Says : {A : Type 0} → Place → List ℕ → Result (A × List ℕ) Refusal → Type 0
Says S bs (Ok (x, rest)) = (front : List ℕ) × (bs ≡ front ++ rest)
Says S bs (Err e) = Stood S bs e

-- it stays so behind other bytes
abbrev Lasts : Place → Type 0
Lasts S = (f : Fault) (front upto : List ℕ) → S f upto → S f (front ++ upto)

-- it says no more than that of any bytes that end
abbrev Free : Place → Type 0
Free S = (upto : List ℕ) → S fault.Ended upto

-- ---- steps

split_first : (front behind : List ℕ) → front ++ behind ≡ (front ++ take 1 behind) ++ drop 1 behind
split_first front behind = ap (λ t. front ++ t) (sym (take-append-drop 1 behind)) ∙ sym (append_assoc front (take 1 behind) (drop 1 behind))

says_as : {A : Type 0} (S T : Place) (front bs whole : List ℕ) → ((f : Fault) (upto behind : List ℕ) → bs ≡ upto ++ behind → S f upto → T f (front ++ upto)) → (r : Result (A × List ℕ) Refusal)
    → whole ≡ front ++ bs → Says S bs r → Says T whole r
says_as S T front bs whole change (Ok (x, rest)) split is = (front ++ is.0, split ∙ ap (λ t. front ++ t) is.1 ∙ sym (append_assoc front is.0 rest))
says_as S T front bs whole change (Err e) split is = (
  front ++ is.0,
  is.1,
  split ∙ ap (λ t. front ++ t) is.2 ∙ sym (append_assoc front is.0 is.1),
  is.3,
  subst (T e.«fault») (sym (append_assoc front is.0 (take 1 is.1)))
      (change e.«fault» (is.0 ++ take 1 is.1) (drop 1 is.1) (is.2 ∙ split_first is.0 is.1) is.4),
)

says_behind : {A : Type 0} (S : Place) → Lasts S → (front bs whole : List ℕ) (r : Result (A × List ℕ) Refusal) → whole ≡ front ++ bs → Says S bs r → Says S whole r
says_behind S lasts front bs whole r = says_as S S front bs whole (λ f upto behind split is. lasts f front upto is) r

says_same : {A : Type 0} (S T : Place) (bs : List ℕ) → ((f : Fault) (upto behind : List ℕ) → bs ≡ upto ++ behind → S f upto → T f upto) → (r : Result (A × List ℕ) Refusal) → Says S bs r → Says T bs r
says_same S T bs change r = says_as S T [] bs bs change r refl

fits_after : (front rest bs : List ℕ) → bs ≡ front ++ rest → IsBytes bs → IsBytes rest
fits_after front rest bs split fits =
    subst IsBytes (drop_at front rest (length front) refl) (IsBytes-drop (length front) (front ++ rest) (subst IsBytes split fits))

says_next : {A B : Type 0} (S : Place) → Lasts S → (bs : List ℕ) → IsBytes bs → (r : Result (A × List ℕ) Refusal) (f : A × List ℕ → Result (B × List ℕ) Refusal) → Says S bs r
    → ((x : A) (rest : List ℕ) → IsBytes rest → Says S rest (f (x, rest))) → Says S bs (r >>= f)
says_next S lasts bs fits (Ok (x, rest)) f is next = says_behind S lasts is.0 rest bs (f (x, rest)) is.1 (next x rest (fits_after is.0 rest bs is.1 fits))
says_next S lasts bs fits (Err e) f is next = is

-- where what was read is known
says_known : {A B : Type 0} (S : Place) (r : Result (A × List ℕ) Refusal) (f : A × List ℕ → Result (B × List ℕ) Refusal) (bs : List ℕ) → Says S bs r
    → ((x : A) (rest : List ℕ) → r ≡ Ok (x, rest) → Says S bs (f (x, rest))) → Says S bs (r >>= f)
says_known S (Ok (x, rest)) f bs is next = next x rest refl
says_known S (Err e) f bs is next = is

says_made : {A B : Type 0} (S : Place) (bs : List ℕ) (r : Result (A × List ℕ) Refusal) (y : A → B) → Says S bs r → Says S bs (r >>= λ x. Ok (y x.0, x.1))
says_made S bs (Ok (x, rest)) y is = is
says_made S bs (Err e) y is = is

says_if : {A : Type 0} (S : Place) (bs : List ℕ) (b : Bool) (x y : Result (A × List ℕ) Refusal) → Says S bs x → Says S bs y → Says S bs (cond b x y)
says_if S bs true x y p q = p
says_if S bs false x y p q = q

says_by : {A : Type 0} (S : Place) (bs : List ℕ) (b : Bool) (x y : Result (A × List ℕ) Refusal) → (b ≡ true → Says S bs x) → (b ≡ false → Says S bs y) → Says S bs (cond b x y)
says_by S bs true x y p q = p refl
says_by S bs false x y p q = q refl

says_ended : (S : Place) → Free S → (bs : List ℕ) → Stood S bs (record { «fault» = fault.Ended; left = 0 })
says_ended S free bs = (bs, [], sym (append-nil bs), refl, free (bs ++ []))

says_start : (S : Place) (f : Fault) (bs : List ℕ) → S f (take 1 bs) → Stood S bs (record { «fault» = f; left = length bs })
says_start S f bs is = ([], bs, refl, refl, is)

says_here : (S : Place) (f : Fault) (b : ℕ) (bs : List ℕ) → S f (b ∷ []) → Stood S (b ∷ bs) (record { «fault» = f; left = suc (length bs) })
says_here S f b bs is = ([], b ∷ bs, refl, refl, is)

-- ---- numbers

-- ended, or this fault at one of the first bytes, so many
abbrev Near : Fault → ℕ → Place
Near g n f upto = (f ≡ fault.Ended) ⊎ ((f ≡ g) × (0 < length upto) × (length upto ≤ n))

near_free : (g : Fault) (n : ℕ) → Free (Near g n)
near_free g n upto = inl refl

-- behind one byte more
near_behind : {A : Type 0} (g : Fault) (n b : ℕ) (bs : List ℕ) (r : Result (A × List ℕ) Refusal) → Says (Near g n) bs r → Says (Near g (suc n)) (b ∷ bs) r
near_behind g n b bs r = says_as (Near g n) (Near g (suc n)) (b ∷ []) bs (b ∷ bs) (λ f upto behind split is. further f upto is) r refl
  where
    further : (f : Fault) (upto : List ℕ) → Near g n f upto → Near g (suc n) f (b ∷ upto)
    further f upto (inl w) = inl w
    further f upto (inr w) = inr (w.0, omega arith, omega (arith, w.2))

near_wider : {A : Type 0} (g : Fault) (n k : ℕ) → n ≤ k → (bs : List ℕ) (r : Result (A × List ℕ) Refusal) → Says (Near g n) bs r → Says (Near g k) bs r
near_wider g n k le bs r = says_same (Near g n) (Near g k) bs (λ f upto behind split is. wider f upto is) r
  where
    wider : (f : Fault) (upto : List ℕ) → Near g n f upto → Near g k f upto
    wider f upto (inl w) = inl w
    wider f upto (inr w) = inr (w.0, w.1, omega (arith, w.2, le))

near_digits : (bounds : Bounds) (due n : ℕ) (bs : List ℕ) → Says (Near bounds.otherwise due) bs (digits_at bounds due n bs)
unfolding digits_at
near_digits bounds zero n bs = ([], refl)
near_digits bounds (suc due) n [] = says_ended (Near bounds.otherwise (suc due)) (near_free bounds.otherwise (suc due)) []
near_digits bounds (suc due) n (b ∷ bs) =
    says_if (Near bounds.otherwise (suc due)) (b ∷ bs) (bounds.admits due (n * 256 + b)) _ _
    (near_behind bounds.otherwise due b bs (digits_at bounds due (n * 256 + b) bs) (near_digits bounds due (n * 256 + b) bs))
    (says_here (Near bounds.otherwise (suc due)) bounds.otherwise b bs (inr (refl, omega arith, omega arith)))

size_small : (info : ℕ) → size_of info ≤ 8
size_small info = small (eqb info 24) (eqb info 25) (eqb info 26)
  where
    small : (a b c : Bool) → cond a 1 (cond b 2 (cond c 4 8)) ≤ 8
    small true b c = omega arith
    small false true c = omega arith
    small false false true = omega arith
    small false false false = omega arith

-- behind a first byte, which is the place of what is wrong with the number in it
near_argument : (bounds : Bounds) (b info : ℕ) (bs : List ℕ) → Says (Near bounds.otherwise 9) (b ∷ bs) (argument_at bounds info bs)
unfolding argument_at
near_argument bounds b info bs =
    let S = Near bounds.otherwise 9 in
    says_if S (b ∷ bs) (ltb info 24) _ _
    (says_if S (b ∷ bs) (bounds.admits 0 info) _ _ (b ∷ [], refl) (says_here S bounds.otherwise b bs (inr (refl, omega arith, omega arith))))
    (near_wider bounds.otherwise (suc (size_of info)) 9 (let le = size_small info in omega (arith, le)) (b ∷ bs) (digits_at bounds (size_of info) 0 bs)
    (near_behind bounds.otherwise (size_of info) b bs (digits_at bounds (size_of info) 0 bs) (near_digits bounds (size_of info) 0 bs)))

-- a number that may be any is refused only where the bytes end
abbrev Ends : Place
Ends f upto = f ≡ fault.Ended

ends_digits : (due n : ℕ) (bs : List ℕ) → Says Ends bs (digits_at unbounded due n bs)
unfolding digits_at
ends_digits zero n bs = ([], refl)
ends_digits (suc due) n [] = says_ended Ends (λ upto. refl) []
ends_digits (suc due) n (b ∷ bs) = says_behind Ends (λ f front upto is. is) (b ∷ []) bs (b ∷ bs) (digits_at unbounded due (n * 256 + b) bs) refl (ends_digits due (n * 256 + b) bs)

ends_argument : (b info : ℕ) (bs : List ℕ) → Says Ends (b ∷ bs) (argument_at unbounded info bs)
unfolding argument_at
ends_argument b info bs =
    says_if Ends (b ∷ bs) (ltb info 24) _ _ (b ∷ [], refl)
    (says_behind Ends (λ f front upto is. is) (b ∷ []) bs (b ∷ bs) (digits_at unbounded (size_of info) 0 bs) refl (ends_digits (size_of info) 0 bs))

-- ---- texts

near_there : {A B : Type 0} (n b : ℕ) (bs : List ℕ) (o : Option A) (then : A → Result (B × List ℕ) Refusal) → ((x : A) → Says (Near fault.NotUtf8 (suc n)) (b ∷ bs) (then x))
    → Says (Near fault.NotUtf8 (suc n)) (b ∷ bs) (or_refused fault.NotUtf8 (b ∷ bs) o >>= then)
near_there n b bs None then next = says_here (Near fault.NotUtf8 (suc n)) fault.NotUtf8 b bs (inr (refl, omega arith, omega arith))
near_there n b bs (Some x) then next = next x

near_text : (lack : Lack) (n : ℕ) (bs : List ℕ) → Says (Near fault.NotUtf8 n) bs (text_at lack n bs)
unfolding text_at
near_text lack zero bs = ([], refl)
near_text lack (suc n) [] = says_ended (Near fault.NotUtf8 (suc n)) (near_free fault.NotUtf8 (suc n)) []
near_text lack (suc n) (b ∷ bs) =
    near_there n b bs (within n (after_byte lack b)) _ (λ next.
    near_behind fault.NotUtf8 n b bs (text_at next n bs >>= λ x. Ok (b ∷ x.0, x.1)) (says_made (Near fault.NotUtf8 n) bs (text_at next n bs) (λ x. b ∷ x) (near_text next n bs)))

-- ---- what the bytes up to a place say

lasts_head : (m : Major) (p upto : List ℕ) → EndsInHead m upto → EndsInHead m (p ++ upto)
lasts_head m p upto is = (p ++ is.0, is.1, is.2, is.3, is.4, ap (λ t. p ++ t) is.5 ∙ sym (append_assoc p is.0 (is.2 ∷ is.1)))

lasts_front : Lasts FitsFront
lasts_front fault.Tag p upto is = lasts_head major.Tag p upto is
lasts_front fault.TooDeep p upto (inl w) = inl (p ++ w.0, w.1, w.2, ap (λ t. p ++ t) w.3 ∙ sym (append_assoc p w.0 (w.1 ∷ [])))
lasts_front fault.TooDeep p upto (inr (inl w)) = inr (inl (lasts_head major.Array p upto w))
lasts_front fault.TooDeep p upto (inr (inr w)) = inr (inr (lasts_head major.Map p upto w))
lasts_front fault.WrongKind p upto is = (p ++ is.0, is.1, is.2, is.3, ap (λ t. p ++ t) is.4 ∙ sym (append_assoc p is.0 (is.1 ++ (is.2 ∷ []))))
lasts_front fault.TooWide p upto is = (p ++ is.0, is.1, is.2, is.3, is.4, is.5, ap (λ t. p ++ t) is.6 ∙ sym (append_assoc p is.0 (is.1 ++ (is.3 ∷ is.2))))
lasts_front fault.NotUtf8 p upto is = (p ++ is.0, is.1, is.2, is.3, is.4, is.5, is.6, ap (λ t. p ++ t) is.7 ∙ sym (append_assoc p is.0 (is.1 ++ is.2)))
lasts_front fault.Ended p upto is = tt
lasts_front fault.Trailing p upto is = tt
lasts_front fault.Reserved p upto is = tt
lasts_front fault.Break p upto is = tt
lasts_front fault.WrongChunk p upto is = tt
lasts_front fault.Float p upto is = tt
lasts_front fault.Simple p upto is = tt

free_front : Free FitsFront
free_front upto = tt

ended_is : (S : Place) → Free S → (f : Fault) (upto : List ℕ) → f ≡ fault.Ended → S f upto
ended_is S free f upto is = subst (λ g. S g upto) (sym is) (free upto)

ends_as : {A : Type 0} (S : Place) → Free S → (bs : List ℕ) (r : Result (A × List ℕ) Refusal) → Says Ends bs r → Says S bs r
ends_as S free bs r = says_same Ends S bs (λ f upto behind split is. ended_is S free f upto is) r

near_as : {A : Type 0} (S : Place) → Free S → (g : Fault) (n : ℕ) (bs : List ℕ) → ((upto behind : List ℕ) → bs ≡ upto ++ behind → 0 < length upto → length upto ≤ n → S g upto) → (r : Result (A × List ℕ) Refusal) → Says (Near g n) bs r → Says S bs r
near_as S free g n bs say r = says_same (Near g n) S bs change r
  where
    change : (f : Fault) (upto behind : List ℕ) → bs ≡ upto ++ behind → Near g n f upto → S f upto
    change f upto behind split (inl w) = ended_is S free f upto w
    change f upto behind split (inr w) = subst (λ h. S h upto) (sym w.0) (say upto behind split w.1 w.2)

-- the first of them
begun : (b : ℕ) (bs upto behind : List ℕ) → b ∷ bs ≡ upto ++ behind → 0 < length upto → (more : List ℕ) × (upto ≡ b ∷ more)
begun b bs [] behind split some = absurd (omega (arith, some))
begun b bs (c ∷ more) behind split some = (more, ap (λ k. k ∷ more) (sym (ap (λ l. get_or l 0 0) split)))

-- ---- first bytes and heads

fronts_first : (S : Place) → Free S → ((b : ℕ) → S fault.Reserved (b ∷ [])) → (bs : List ℕ) → Says S bs (first_at bs)
unfolding first_at
fronts_first S free known [] = says_ended S free []
fronts_first S free known (b ∷ bs) = says_if S (b ∷ bs) (is_reserved (major_of (b / 32)) (b % 32)) _ _ (says_here S fault.Reserved b bs (known b)) (b ∷ [], refl)

abbrev AreFront : Option Fault → ℕ → Type 0
AreFront None b = Unit {0}
AreFront (Some f) b = FitsFront f (b ∷ [])

front_if : (t : Bool) (x y : Option Fault) (b : ℕ) → AreFront x b → AreFront y b → AreFront (cond t x y) b
front_if true x y b p q = p
front_if false x y b p q = q

front_fault : (m : Major) (info b : ℕ) → b / 32 ≡ code m → AreFront (item_fault m info) b
front_fault major.Simple info b top =
    front_if (eqb info 31) _ _ b tt (front_if (is_in_range 25 27 info) _ _ b tt (front_if (is_in_range 20 22 info) _ _ b tt tt))
front_fault major.Tag info b top = front_if (ltb 23 info) _ _ b tt (front_if (is_in_range 2 3 info) _ _ b tt ([], [], b, top, omega arith, refl))
front_fault major.Unsigned info b top = tt
front_fault major.Negative info b top = tt
front_fault major.Bytes info b top = tt
front_fault major.Text info b top = tt
front_fault major.Array info b top = tt
front_fault major.Map info b top = tt

fronts_unless : (o : Option Fault) (b : ℕ) (rest : List ℕ) (h : First) → AreFront o b → Says FitsFront (b ∷ rest) (unless o (b ∷ rest) (h, rest))
fronts_unless None b rest h is = (b ∷ [], refl)
fronts_unless (Some f) b rest h is = says_here FitsFront f b rest is

top_is : (m : Major) (info : ℕ) → info < 32 → first_byte m info / 32 ≡ code m
top_is m info lt = omega (arith, lt)

fronts_kind : (bs : List ℕ) → IsBytes bs → Says FitsFront bs (kind_at bs)
unfolding kind_at
fronts_kind bs fits =
    says_known FitsFront (first_at bs) (λ h. unless (item_fault h.0.«major» h.0.info) bs h) bs (fronts_first FitsFront free_front (λ b. tt) bs) (λ h rest is.
    let r = first_sound bs h rest fits is in
    subst (λ u. Says FitsFront u (unless (item_fault h.«major» h.info) u (h, rest))) (sym (r.split ∙ ap (λ t. t ++ rest) r.part.2))
    (fronts_unless (item_fault h.«major» h.info) (first_byte h.«major» h.info) rest h (front_fault h.«major» h.info (first_byte h.«major» h.info) (top_is h.«major» h.info r.part.1))))

near_head : (bounds : Bounds) (first : First) (b : ℕ) (bs : List ℕ) → Says (Near bounds.otherwise 9) (b ∷ bs) (head_behind bounds first bs)
near_head bounds first b bs =
    let S = Near bounds.otherwise 9 in
    says_if S (b ∷ bs) (eqb first.info 31) _ _ (b ∷ [], refl)
    (says_made S (b ∷ bs) (argument_at bounds first.info bs) (λ n. record { major = first.«major»; number = Some n }) (near_argument bounds b first.info bs))

ends_head : (first : First) (b : ℕ) (bs : List ℕ) → Says Ends (b ∷ bs) (head_behind unbounded first bs)
ends_head first b bs =
    says_if Ends (b ∷ bs) (eqb first.info 31) _ _ (b ∷ [], refl)
    (says_made Ends (b ∷ bs) (argument_at unbounded first.info bs) (λ n. record { major = first.«major»; number = Some n }) (ends_argument b first.info bs))

fronts_open : (first : First) (b : ℕ) (bs : List ℕ) → Says FitsFront (b ∷ bs) (head_behind unbounded first bs)
fronts_open first b bs = ends_as FitsFront free_front (b ∷ bs) (head_behind unbounded first bs) (ends_head first b bs)

in_head : (m : Major) (b : ℕ) (bs upto behind : List ℕ) → b / 32 ≡ code m → b ∷ bs ≡ upto ++ behind → 0 < length upto → length upto ≤ 9 → EndsInHead m upto
in_head m b bs upto behind top split some few =
    let w = begun b bs upto behind split some in
    ([], w.0, b, top, omega (arith, few, ap length w.1), w.1)

fronts_behind : (limit : ℕ) (m : Major) (first : First) (b : ℕ) (bs : List ℕ) → b / 32 ≡ code m → Says FitsFront (b ∷ bs) (head_behind (bounds_of limit m) first bs)
fronts_behind limit major.Tag first b bs top =
    near_as FitsFront free_front fault.Tag 9 (b ∷ bs) (λ upto behind split some few. in_head major.Tag b bs upto behind top split some few)
    (head_behind (bounds_of limit major.Tag) first bs) (near_head (bounds_of limit major.Tag) first b bs)
fronts_behind zero major.Array first b bs top =
    near_as FitsFront free_front fault.TooDeep 9 (b ∷ bs) (λ upto behind split some few. inr (inl (in_head major.Array b bs upto behind top split some few))) (head_behind (bounds_of 0 major.Array) first bs) (near_head (bounds_of 0 major.Array) first b bs)
fronts_behind zero major.Map first b bs top =
    near_as FitsFront free_front fault.TooDeep 9 (b ∷ bs) (λ upto behind split some few. inr (inr (in_head major.Map b bs upto behind top split some few))) (head_behind (bounds_of 0 major.Map) first bs) (near_head (bounds_of 0 major.Map) first b bs)
fronts_behind (suc limit) major.Array first b bs top = fronts_open first b bs
fronts_behind (suc limit) major.Map first b bs top = fronts_open first b bs
fronts_behind limit major.Unsigned first b bs top = fronts_open first b bs
fronts_behind limit major.Negative first b bs top = fronts_open first b bs
fronts_behind limit major.Bytes first b bs top = fronts_open first b bs
fronts_behind limit major.Text first b bs top = fronts_open first b bs
fronts_behind limit major.Simple first b bs top = fronts_open first b bs

said_info : (m : Major) (info : ℕ) → heads.Says m info → info < 32
said_info m info (inl w) = omega (arith, w)
said_info m info (inr (inl w)) = omega (arith, w)
said_info m info (inr (inr w)) = omega (arith, w.2)

fronts_head : (limit : ℕ) (bs : List ℕ) → IsBytes bs → Says FitsFront bs (head_at limit bs)
unfolding head_at
fronts_head limit bs fits =
    says_known FitsFront (kind_at bs) (λ h. head_behind (bounds_of limit h.0.«major») h.0 h.1) bs (fronts_kind bs fits) (λ h rest is.
    let k = kind_sound bs h rest fits is in
    subst (λ u. Says FitsFront u (head_behind (bounds_of limit h.«major») h rest)) (sym (k.split ∙ ap (λ t. t ++ rest) k.part.1))
    (fronts_behind limit h.«major» h (first_byte h.«major» h.info) rest (top_is h.«major» h.info (said_info h.«major» h.info k.part.0))))

-- ---- texts and bytes

fronts_bytes : (n : ℕ) (bs : List ℕ) → Says FitsFront bs (bytes_at n bs)
fronts_bytes n bs = says_if FitsFront bs (ltb (length bs) n) _ _ (says_ended FitsFront free_front bs) (take n bs, sym (take-append-drop n bs))

-- behind the head
fronts_content : (t : Bool) (n : ℕ) (head bs : List ℕ) → IsHead (string_major t) n head → Says FitsFront (head ++ bs) (content_at t n bs)
unfolding content_at
fronts_content false n head bs is = says_behind FitsFront lasts_front head bs (head ++ bs) (bytes_at n bs) refl (fronts_bytes n bs)
fronts_content true n head bs is = says_as (Near fault.NotUtf8 n) FitsFront head bs (head ++ bs) (λ f upto behind split near. in_text f upto near) (text_at (tail 0) n bs) refl (near_text (tail 0) n bs)
  where
    in_text : (f : Fault) (upto : List ℕ) → Near fault.NotUtf8 n f upto → FitsFront f (head ++ upto)
    in_text f upto (inl w) = ended_is FitsFront free_front f (head ++ upto) w
    in_text f upto (inr w) = subst (λ g. FitsFront g (head ++ upto)) (sym w.0) ([], head, upto, n, is, w.1, w.2, refl)

-- a length, whose number is told as is said
fronts_length : (S : Place) → Free S → ((f : Fault) (bs : List ℕ) → (f ≡ fault.Reserved) ⊎ (f ≡ fault.WrongChunk) → S f bs) → (t : Bool) (bounds : Bounds) (bs : List ℕ) → IsBytes bs
    → ((b info : ℕ) (rest : List ℕ) → Says S (b ∷ rest) (argument_at bounds info rest)) → Says S bs (length_at t bounds bs)
unfolding length_at
fronts_length S free known t bounds bs fits telling =
    says_known S (first_at bs) (λ h. cond (begins_chunk t h.0.«major» h.0.info) (argument_at bounds h.0.info h.1) (refused fault.WrongChunk bs)) bs
    (fronts_first S free (λ b. known fault.Reserved (b ∷ []) (inl refl)) bs) (λ h rest is.
    let r = first_sound bs h rest fits is in
    says_if S bs (begins_chunk t h.«major» h.info) _ _
    (subst (λ u. Says S u (argument_at bounds h.info rest)) (sym (r.split ∙ ap (λ u. u ++ rest) r.part.2)) (telling (first_byte h.«major» h.info) h.info rest))
    (says_start S fault.WrongChunk bs (known fault.WrongChunk (take 1 bs) (inr refl))))

known_front : (f : Fault) (bs : List ℕ) → (f ≡ fault.Reserved) ⊎ (f ≡ fault.WrongChunk) → FitsFront f bs
known_front f bs (inl w) = subst (λ g. FitsFront g bs) (sym w) tt
known_front f bs (inr w) = subst (λ g. FitsFront g bs) (sym w) tt

fronts_chunk : (t : Bool) (bs : List ℕ) → IsBytes bs → Says FitsFront bs (chunk_at t bs)
unfolding chunk_at
fronts_chunk t bs fits =
    says_known FitsFront (length_at t unbounded bs) (λ n. content_at t n.0 n.1) bs
    (fronts_length FitsFront free_front known_front t unbounded bs fits (λ b info rest. ends_as FitsFront free_front (b ∷ rest) (argument_at unbounded info rest) (ends_argument b info rest))) (λ n rest is.
    let l = length_sound t unbounded open_starts bs n rest fits is in
    subst (λ u. Says FitsFront u (content_at t n rest)) (sym l.split) (fronts_content t n l.front rest l.part.0))

-- ---- parts

fronts_until : {A : Type 0} (S : Place) → Lasts S → Free S → (read : Reader A) → ((bs : List ℕ) → IsBytes bs → Says S bs (read bs)) → (k : ℕ) (bs : List ℕ) → IsBytes bs → Says S bs (until_at read k bs)
unfolding until_at
fronts_until S lasts free read telling zero bs fits = says_ended S free bs
fronts_until S lasts free read telling (suc k) bs fits =
    says_if S bs (at_break bs) _ _ (take 1 bs, sym (take-append-drop 1 bs))
    (says_next S lasts bs fits (read bs) _ (telling bs fits) (λ x rest fit.
    says_made S rest (until_at read k rest) (λ xs. x ∷ xs) (fronts_until S lasts free read telling k rest fit)))

fronts_each : {A : Type 0} (S : Place) → Lasts S → (read : Reader A) → ((bs : List ℕ) → IsBytes bs → Says S bs (read bs)) → (k : ℕ) (bs : List ℕ) → IsBytes bs → Says S bs (each_at read k bs)
unfolding each_at
fronts_each S lasts read telling zero bs fits = ([], refl)
fronts_each S lasts read telling (suc k) bs fits =
    says_next S lasts bs fits (read bs) _ (telling bs fits) (λ x rest fit.
    says_made S rest (each_at read k rest) (λ xs. x ∷ xs) (fronts_each S lasts read telling k rest fit))

fronts_pair : (read : Reader Tree) → ((bs : List ℕ) → IsBytes bs → Says FitsFront bs (read bs)) → (bs : List ℕ) → IsBytes bs → Says FitsFront bs (pair_at read bs)
unfolding pair_at
fronts_pair read telling bs fits =
    says_next FitsFront lasts_front bs fits (read bs) _ (telling bs fits) (λ k rest fit.
    says_made FitsFront rest (read rest) (λ v. (k, v)) (telling rest fit))

fronts_parts : {A : Type 0} (read : Reader A) → ((bs : List ℕ) → IsBytes bs → Says FitsFront bs (read bs)) → (o : Option ℕ) (bs : List ℕ) → IsBytes bs → Says FitsFront bs (parts_at read o bs)
unfolding parts_at
fronts_parts read telling None bs fits = fronts_until FitsFront lasts_front free_front read telling (length bs) bs fits
fronts_parts read telling (Some n) bs fits = fronts_each FitsFront lasts_front read telling n bs fits

-- behind the head
fronts_string : (t : Bool) (o : Option ℕ) (head bs : List ℕ) → HeadOf (string_major t) o head → IsBytes bs → Says FitsFront (head ++ bs) (string_at t o bs)
unfolding string_at chunks_at
fronts_string t (Some n) head bs is fits =
    says_made FitsFront (head ++ bs) (content_at t n bs) static_name (fronts_content t n head bs (numbered (string_major t) n head is))
fronts_string t None head bs is fits =
    says_behind FitsFront lasts_front head bs (head ++ bs) ((until_at (chunk_at t) (length bs) bs >>= λ xs. Ok (concat xs.0, xs.1)) >>= λ x. Ok (owned_text x.0, x.1)) refl
    (says_made FitsFront bs (until_at (chunk_at t) (length bs) bs >>= λ xs. Ok (concat xs.0, xs.1)) owned_text
    (says_made FitsFront bs (until_at (chunk_at t) (length bs) bs) concat (fronts_until FitsFront lasts_front free_front (chunk_at t) (fronts_chunk t) (length bs) bs fits)))

-- ---- numbers under a tag

-- in the bytes under a tag
abbrev Wide : Place
Wide fault.TooWide upto = 0 < length upto
Wide fault.WrongKind upto = ⊥
Wide f upto = FitsFront f upto

lasts_wide : Lasts Wide
lasts_wide fault.TooWide p upto is = omega (arith, is, length-append p upto)
lasts_wide fault.WrongKind p upto is = is
lasts_wide fault.Tag p upto is = lasts_front fault.Tag p upto is
lasts_wide fault.NotUtf8 p upto is = lasts_front fault.NotUtf8 p upto is
lasts_wide fault.Ended p upto is = tt
lasts_wide fault.Trailing p upto is = tt
lasts_wide fault.Reserved p upto is = tt
lasts_wide fault.Break p upto is = tt
lasts_wide fault.WrongChunk p upto is = tt
lasts_wide fault.Float p upto is = tt
lasts_wide fault.Simple p upto is = tt
lasts_wide fault.TooDeep p upto is = lasts_front fault.TooDeep p upto is

free_wide : Free Wide
free_wide upto = tt

known_wide : (f : Fault) (bs : List ℕ) → (f ≡ fault.Reserved) ⊎ (f ≡ fault.WrongChunk) → Wide f bs
known_wide f bs (inl w) = subst (λ g. Wide g bs) (sym w) tt
known_wide f bs (inr w) = subst (λ g. Wide g bs) (sym w) tt

fronts_digits : (negative : Bool) (l n : ℕ) (bs : List ℕ) → Says Wide bs (digits_at (room negative) l n bs)
fronts_digits negative l n bs = near_as Wide free_wide fault.TooWide l bs (λ upto behind split some few. some) (digits_at (room negative) l n bs) (near_digits (room negative) l n bs)

wide_argument : (negative : Bool) (n b info : ℕ) (rest : List ℕ) → Says Wide (b ∷ rest) (argument_at (chunk_bounds negative n) info rest)
wide_argument negative n b info rest = by (eqb n 0) unbounded _ refl refl
  where
    by : (t : Bool) (x y : Bounds) → x.otherwise ≡ fault.TooWide → y.otherwise ≡ fault.TooWide → Says Wide (b ∷ rest) (argument_at (cond t x y) info rest)
    by true x y p q = near_as Wide free_wide x.otherwise 9 (b ∷ rest) (λ upto behind split some few. subst (λ f. Wide f upto) (sym p) some) (argument_at x info rest) (near_argument x b info rest)
    by false x y p q = near_as Wide free_wide y.otherwise 9 (b ∷ rest) (λ upto behind split some few. subst (λ f. Wide f upto) (sym q) some) (argument_at y info rest) (near_argument y b info rest)

fronts_digits_until : (negative : Bool) (n k : ℕ) (bs : List ℕ) → IsBytes bs → Says Wide bs (digits_until negative n k bs)
unfolding digits_until
fronts_digits_until negative n zero bs fits = says_ended Wide free_wide bs
fronts_digits_until negative n (suc k) bs fits =
    says_if Wide bs (at_break bs) _ _ (take 1 bs, sym (take-append-drop 1 bs))
    (says_next Wide lasts_wide bs fits (length_at false (chunk_bounds negative n) bs) _ (fronts_length Wide free_wide known_wide false (chunk_bounds negative n) bs fits (wide_argument negative n)) (λ l rest fit.
    says_next Wide lasts_wide rest fit (digits_at (room negative) l n rest) _ (fronts_digits negative l n rest) (λ m after last.
    fronts_digits_until negative m k after last)))

fronts_digits_of : (negative : Bool) (o : Option ℕ) (bs : List ℕ) → IsBytes bs → Says Wide bs (digits_of negative o bs)
fronts_digits_of negative (Some n) bs fits = fronts_digits negative n 0 bs
fronts_digits_of negative None bs fits = fronts_digits_until negative 0 (length bs) bs fits

-- behind the head of the tag
abbrev Under : Place
Under fault.TooWide upto = (more : List ℕ) × (first : ℕ) × (first / 32 ≡ 2) × (upto ≡ first ∷ more)
Under fault.WrongKind upto = (first : ℕ) × (upto ≡ first ∷ [])
Under f upto = FitsFront f upto

wide_under : (b : ℕ) (bs : List ℕ) → b / 32 ≡ 2 → (f : Fault) (upto behind : List ℕ) → b ∷ bs ≡ upto ++ behind → Wide f upto → Under f upto
wide_under b bs top fault.TooWide upto behind split is = let w = begun b bs upto behind split is in (w.0, b, top, w.1)
wide_under b bs top fault.WrongKind upto behind split is = absurd is
wide_under b bs top fault.Tag upto behind split is = is
wide_under b bs top fault.NotUtf8 upto behind split is = is
wide_under b bs top fault.Ended upto behind split is = tt
wide_under b bs top fault.Trailing upto behind split is = tt
wide_under b bs top fault.Reserved upto behind split is = tt
wide_under b bs top fault.Break upto behind split is = tt
wide_under b bs top fault.WrongChunk upto behind split is = tt
wide_under b bs top fault.Float upto behind split is = tt
wide_under b bs top fault.Simple upto behind split is = tt
wide_under b bs top fault.TooDeep upto behind split is = is

break_or_kind : (t : Bool) (b : ℕ) (rest : List ℕ) → Stood Under (b ∷ rest) (record { «fault» = cond t fault.Break fault.WrongKind; left = suc (length rest) })
break_or_kind true b rest = says_here Under fault.Break b rest tt
break_or_kind false b rest = says_here Under fault.WrongKind b rest (b, refl)

fronts_magnitude_behind : (negative : Bool) (m : Major) (info b : ℕ) (rest : List ℕ) → IsBytes (b ∷ rest) → b / 32 ≡ code m → Says Under (b ∷ rest) (magnitude_behind negative (b ∷ rest) m info rest)
fronts_magnitude_behind negative major.Bytes info b rest fits top =
    says_same Wide Under (b ∷ rest) (wide_under b rest top) (head_behind unbounded (made major.Bytes info) rest >>= λ h. digits_of negative h.0.number h.1)
    (says_next Wide lasts_wide (b ∷ rest) fits (head_behind unbounded (made major.Bytes info) rest) (λ h. digits_of negative h.0.number h.1)
    (ends_as Wide free_wide (b ∷ rest) (head_behind unbounded (made major.Bytes info) rest) (ends_head (made major.Bytes info) b rest))
    (λ h after fit. fronts_digits_of negative h.number after fit))
fronts_magnitude_behind negative major.Simple info b rest fits top = break_or_kind (eqb info 31) b rest
fronts_magnitude_behind negative major.Unsigned info b rest fits top = break_or_kind false b rest
fronts_magnitude_behind negative major.Negative info b rest fits top = break_or_kind false b rest
fronts_magnitude_behind negative major.Text info b rest fits top = break_or_kind false b rest
fronts_magnitude_behind negative major.Array info b rest fits top = break_or_kind false b rest
fronts_magnitude_behind negative major.Map info b rest fits top = break_or_kind false b rest
fronts_magnitude_behind negative major.Tag info b rest fits top = break_or_kind false b rest

fronts_magnitude : (negative : Bool) (bs : List ℕ) → IsBytes bs → Says Under bs (magnitude_at negative bs)
unfolding magnitude_at
fronts_magnitude negative bs fits =
    says_known Under (first_at bs) (λ h. magnitude_behind negative bs h.0.«major» h.0.info h.1) bs (fronts_first Under (λ upto. tt) (λ b. tt) bs) (λ h rest is.
    let r = first_sound bs h rest fits is in
    let b = first_byte h.«major» h.info in
    let split : bs ≡ b ∷ rest = r.split ∙ ap (λ t. t ++ rest) r.part.2 in
    subst (λ u. Says Under u (magnitude_behind negative u h.«major» h.info rest)) (sym split)
    (fronts_magnitude_behind negative h.«major» h.info b rest (subst IsBytes split fits) (top_is h.«major» h.info r.part.1)))

under_tag : (head : List ℕ) → IsWideTag head → (f : Fault) (upto : List ℕ) → Under f upto → FitsFront f (head ++ upto)
under_tag head wide fault.TooWide upto is = ([], head, is.0, is.1, wide, is.2, ap (λ t. head ++ t) is.3)
under_tag head wide fault.WrongKind upto is = ([], head, is.0, wide, ap (λ t. head ++ t) is.1)
under_tag head wide fault.Tag upto is = lasts_front fault.Tag head upto is
under_tag head wide fault.NotUtf8 upto is = lasts_front fault.NotUtf8 head upto is
under_tag head wide fault.Ended upto is = tt
under_tag head wide fault.Trailing upto is = tt
under_tag head wide fault.Reserved upto is = tt
under_tag head wide fault.Break upto is = tt
under_tag head wide fault.WrongChunk upto is = tt
under_tag head wide fault.Float upto is = tt
under_tag head wide fault.Simple upto is = tt
under_tag head wide fault.TooDeep upto is = lasts_front fault.TooDeep head upto is

wide_tag : (n : ℕ) (head : List ℕ) → IsTag n → IsHead major.Tag n head → (b : Bool) → eqb n 2 ≡ b → IsWideTag head
wide_tag n head known is true two = inl (subst (λ t. IsHead major.Tag t head) (eqb-true n 2 two) is)
wide_tag n head known is false other = inr (subst (λ t. IsHead major.Tag t head) (omega (arith, known.0, known.1, eqb-false n 2 other)) is)

-- behind the head
fronts_tag : (n : ℕ) (head bs : List ℕ) → IsWideTag head → IsBytes bs → Says FitsFront (head ++ bs) (tag_at n bs)
unfolding tag_at
fronts_tag n head bs wide fits =
    says_if FitsFront (head ++ bs) (eqb n 2) _ _
    (says_made FitsFront (head ++ bs) (magnitude_at false bs) _ (behind_head false))
    (says_made FitsFront (head ++ bs) (magnitude_at true bs) _ (behind_head true))
  where
    behind_head : (negative : Bool) → Says FitsFront (head ++ bs) (magnitude_at negative bs)
    behind_head negative = says_as Under FitsFront head bs (head ++ bs) (λ f upto behind split is. under_tag head wide f upto is) (magnitude_at negative bs) refl (fronts_magnitude negative bs fits)

-- ---- items

-- a fault of the one byte of a head, of which nothing is said
last_before : (f : Fault) (head bs : List ℕ) (b : ℕ) → head ≡ b ∷ [] → ((upto : List ℕ) → FitsFront f upto) → Stood FitsFront (head ++ bs) (record { «fault» = f; left = suc (length bs) })
last_before f head bs b is any = subst (λ h. Stood FitsFront (h ++ bs) (record { «fault» = f; left = suc (length bs) })) (sym is) (says_here FitsFront f b bs (any (b ∷ [])))

simple_before : (n : ℕ) (head bs : List ℕ) → HeadOf major.Simple (Some n) head → Stood FitsFront (head ++ bs) (record { «fault» = fault.Simple; left = suc (length bs) })
simple_before n head bs (inl w) = last_before fault.Simple head bs (first_byte major.Simple n) w.1 (λ upto. tt)
simple_before n head bs (inr w) = absurd cc

fronts_inside : (limit : ℕ) → ((bs : List ℕ) → IsBytes bs → Says FitsFront bs (item_at limit bs)) → (m : Major) (o : Option ℕ) (head bs : List ℕ) → HeadIn (bounds_of limit m) m o head → IsBytes bs
    → Says FitsFront (head ++ bs) (inside_at (item_at limit) m o bs)
unfolding leaf_at
fronts_inside limit telling major.Array o head bs is fits =
    says_behind FitsFront lasts_front head bs (head ++ bs) (parts_at (item_at limit) o bs >>= λ xs. Ok (tree.seq (trees_of xs.0), xs.1)) refl
    (says_made FitsFront bs (parts_at (item_at limit) o bs) (λ xs. tree.seq (trees_of xs)) (fronts_parts (item_at limit) telling o bs fits))
fronts_inside limit telling major.Map o head bs is fits =
    says_behind FitsFront lasts_front head bs (head ++ bs) (parts_at (pair_at (item_at limit)) o bs >>= λ xs. Ok (tree.map (pairs_of xs.0), xs.1)) refl
    (says_made FitsFront bs (parts_at (pair_at (item_at limit)) o bs) (λ xs. tree.map (pairs_of xs)) (fronts_parts (pair_at (item_at limit)) (fronts_pair (item_at limit) telling) o bs fits))
fronts_inside limit telling major.Bytes o head bs is fits =
    says_made FitsFront (head ++ bs) (string_at false o bs) tree.octets (fronts_string false o head bs (head_is (bounds_of limit major.Bytes) major.Bytes o head is) fits)
fronts_inside limit telling major.Text o head bs is fits =
    says_made FitsFront (head ++ bs) (string_at true o bs) tree.text (fronts_string true o head bs (head_is (bounds_of limit major.Text) major.Text o head is) fits)
fronts_inside limit telling major.Tag (Some n) head bs is fits =
    let known = in_range_is 2 3 n is.1 in
    says_made FitsFront (head ++ bs) (tag_at n bs) tree.number (fronts_tag n head bs (wide_tag n head known (numbered major.Tag n head is.0) (eqb n 2) refl) fits)
fronts_inside limit telling major.Simple (Some n) head bs is fits =
    says_if FitsFront (head ++ bs) (eqb n 20) _ _ (head, refl)
    (says_if FitsFront (head ++ bs) (eqb n 21) _ _ (head, refl)
    (says_if FitsFront (head ++ bs) (eqb n 22) _ _ (head, refl) (simple_before n head bs is.0)))
fronts_inside limit telling major.Unsigned (Some n) head bs is fits = (head, refl)
fronts_inside limit telling major.Negative (Some n) head bs is fits = (head, refl)
fronts_inside limit telling major.Simple None head bs is fits = last_before fault.Break head bs 255 is (λ upto. tt)
fronts_inside limit telling major.Unsigned None head bs is fits = last_before fault.Reserved head bs 31 is (λ upto. tt)
fronts_inside limit telling major.Negative None head bs is fits = last_before fault.Reserved head bs 63 is (λ upto. tt)
fronts_inside limit telling major.Tag None head bs is fits = last_before fault.Reserved head bs 223 is (λ upto. tt)

-- a first byte of an item is no break
no_break : (m : Major) (info b : ℕ) → b / 32 ≡ code m → b % 32 ≡ info → item_fault m info ≡ None → b ≡ 255 → ⊥
no_break major.Simple info b top low right all = let high : eqb info 31 ≡ true = eq-eqb info 31 (omega (arith, low, all)) in absurd cc
no_break major.Unsigned info b top low right all = omega (arith, top, all)
no_break major.Negative info b top low right all = omega (arith, top, all)
no_break major.Bytes info b top low right all = omega (arith, top, all)
no_break major.Text info b top low right all = omega (arith, top, all)
no_break major.Array info b top low right all = omega (arith, top, all)
no_break major.Map info b top low right all = omega (arith, top, all)
no_break major.Tag info b top low right all = omega (arith, top, all)

-- what begins an item begins with such a byte
kind_begins : (bs : List ℕ) (h : First) (rest : List ℕ) → IsBytes bs → kind_at bs ≡ Ok (h, rest) → (b : ℕ) × (behind : List ℕ) × IsFirstByte b × (bs ≡ b ∷ behind)
unfolding kind_at
kind_begins bs h rest fits is =
    let a = bind_ok (first_at bs) (λ f. unless (item_fault f.0.«major» f.0.info) bs f) (h, rest) is in
    let right = not_wrong (item_fault a.0.0.«major» a.0.0.info) bs a.0 (h, rest) a.2 in
    let r = first_read bs a.0.0 a.0.1 fits a.1 in
    (r.byte, a.0.1, (r.known, no_break a.0.0.«major» a.0.0.info r.byte r.top r.low right.0), r.split)

fronts_deep : (bs : List ℕ) → IsBytes bs → Says FitsFront bs (item_at 0 bs)
unfolding item_at
fronts_deep bs fits =
    says_known FitsFront (kind_at bs) (λ h. refused fault.TooDeep bs) bs (fronts_kind bs fits) (λ h rest is.
    let k = kind_begins bs h rest fits is in
    subst (λ u. Stood FitsFront u (record { «fault» = fault.TooDeep; left = length u })) (sym k.3)
    (says_here FitsFront fault.TooDeep k.0 k.1 (inl ([], k.0, k.2, refl))))

fronts_item : (limit : ℕ) (bs : List ℕ) → IsBytes bs → Says FitsFront bs (item_at limit bs)
unfolding item_at
fronts_item zero bs fits = fronts_deep bs fits
fronts_item (suc limit) bs fits =
    says_known FitsFront (head_at limit bs) (λ h. inside_at (item_at limit) h.0.«major» h.0.number h.1) bs (fronts_head limit bs fits) (λ h rest is.
    let s = head_sound limit bs h rest fits is in
    let m = h.«major» in
    subst (λ u. Says FitsFront u (inside_at (item_at limit) m h.number rest)) (sym s.split)
    (fronts_inside limit (fronts_item limit) m h.number s.front rest s.part s.fits))

-- ---- as they are answered

item_fronts : (limit : ℕ) (bs : List ℕ) (e : Refusal) (at : ℕ) → IsBytes bs → item_at limit bs ≡ Err e → at ≡ length bs - e.left → FitsFront e.«fault» (take (at + 1) bs)
item_fronts limit bs e at fits is place =
    let t : Stood FitsFront bs e = subst (Says FitsFront bs) is (fronts_item limit bs fits) in
    let front : at ≡ length t.0 = omega (arith, place, t.3, ap length t.2, length-append t.0 t.1) in
    let same : take (at + 1) bs ≡ t.0 ++ take 1 t.1 = ap (λ n. take (n + 1) bs) front ∙ ap (take (length t.0 + 1)) t.2 ∙ take-append-add t.0 t.1 1 in
    subst (FitsFront e.«fault») (sym same) t.4

whole_fronts : (limit : ℕ) (bs : List ℕ) (e : Refusal) (at : ℕ) → IsBytes bs → whole_at limit bs ≡ Err e → at ≡ length bs - e.left → FitsFront e.«fault» (take (at + 1) bs)
unfolding whole_at
whole_fronts limit bs e at fits is place =
    elim (bind_err (item_at limit bs) (λ x. cond (eqb (length x.1) 0) (Ok x.0) (refused fault.Trailing x.1)) e is) [
      | inl w ↦ item_fronts limit bs e at fits w place
      | inr a ↦ elim (chosen (eqb (length a.0.1) 0) (Ok a.0.0) (refused fault.Trailing a.0.1) (Err e) a.2) [
        | inl w ↦ absurd cc
        | inr w ↦
            let same = same_refusal {A = Tree} (record { «fault» = fault.Trailing; left = length a.0.1 }) e w.1 in
            subst (λ (u : Refusal). FitsFront u.«fault» (take (at + 1) bs)) same tt
      ]
    ]

pub fronts_front : (limit : ℕ) (bs : List ℕ) (at : ℕ) (f : Fault) → IsBytes bs → StopsAt bs (error.Refused at f) (item_at limit bs) → FitsFront f (take (at + 1) bs)
fronts_front limit bs at f fits stops = item_fronts limit bs (record { «fault» = f; left = stops.0 }) at fits stops.1 stops.2

pub fronts_whole : (limit : ℕ) (bs : List ℕ) (at : ℕ) (f : Fault) → IsBytes bs → StopsAt bs (error.Refused at f) (whole_at limit bs) → FitsFront f (take (at + 1) bs)
fronts_whole limit bs at f fits stops = whole_fronts limit bs (record { «fault» = f; left = stops.0 }) at fits stops.1 stops.2
