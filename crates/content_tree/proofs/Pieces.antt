-- What pieces of paths spell.
use Rattle.std.proofs.Common.{◌≡◌, ◌≢◌, ◌<◌, ◌≤◌, ◌+◌, ◌∙◌, ap, sym, refl, ℕ, true, false, nat_eq, not, ⊎_elim}
use Rattle.std.proofs.Common.{length, get_or, drop, List, [], ◌∷◌, ◌++◌, eqb-true, eq-eqb, ne_eqb, arith}
use Rattle.std.proofs.Common.{Option, Some, None, option_map, option_and_then}
use Rattle.std.specs.Bool.{one_answer}
use Rattle.std.specs.Str.{bytes_eq}
use Rattle.std.proofs.lemmas.Bool.{cases_Bool, false_from_ne_true, and_parts, not-true}
use Rattle.std.proofs.lemmas.List.{at_drop_more, drop_all}
use Rattle.std.proofs.lemmas.Slice.Eq.{bytes_eq-Decides}
use Rattle.content_tree.specs.Values.Paths.{escaped, escape, is_plain, after_tilde, unescape}
use Rattle.content_tree.specs.Values.Places.{is_part}

-- equal beginnings make no difference
same_start : (a b c : List ℕ) → bytes_eq (a ++ b) (a ++ c) ≡ bytes_eq b c
same_start [] b c = refl
same_start (x ∷ a) b c = rw (eq-eqb x x refl) (same_start a b c)

-- a byte of the text that the piece begins with is passed over
pub byte_passed : (left rest text : List ℕ) (i : ℕ) → i < length text → left ≡ escaped (get_or text i 0) ++ rest
    → bytes_eq left (escape (drop i text)) ≡ bytes_eq rest (escape (drop (i + 1) text))
byte_passed left rest text i less e =
    at_drop_more (λ l. bytes_eq left (escape l)) text i 0 less
    ∙ (ap (λ l. bytes_eq l (escaped (get_or text i 0) ++ escape (drop (i + 1) text))) e
    ∙ same_start (escaped (get_or text i 0)) rest (escape (drop (i + 1) text)))

-- a byte of the text that the piece doesn't begin with is not spelled
pub byte_missing : (left text : List ℕ) (i : ℕ) → i < length text → ((rest : List ℕ) → left ≢ escaped (get_or text i 0) ++ rest)
    → bytes_eq left (escape (drop i text)) ≡ false
byte_missing left text i less none =
    let rest = escape (drop (i + 1) text) in
    at_drop_more (λ l. bytes_eq left (escape l)) text i 0 less
    ∙ false_from_ne_true _ (λ t. none rest ((bytes_eq-Decides left (escaped (get_or text i 0) ++ rest)).0 t))

-- at the text's end nothing may be left
nothing_left : (left : List ℕ) → bytes_eq left [] ≡ nat_eq (length left) 0
nothing_left [] = refl
nothing_left (x ∷ left) = sym (ne_eqb (length (x ∷ left)) 0 (λ e. omega arith))

pub text_ended : (left text : List ℕ) (i : ℕ) → length text ≤ i → bytes_eq left (escape (drop i text)) ≡ nat_eq (length left) 0
text_ended left text i past = ap (λ l. bytes_eq left (escape l)) (drop_all i text past) ∙ nothing_left left

-- a plain byte is read as itself
pub read_plain : (x : ℕ) (xs : List ℕ) → nat_eq x 126 ≡ false → nat_eq x 47 ≡ false → unescape (x ∷ xs) ≡ option_map (λ part. x ∷ part) (unescape xs)
read_plain x [] f g = rw (f, g) refl
read_plain x (y ∷ xs) f g = rw (f, g) refl

-- a byte that is spelled is read
unescape-escaped : (x : ℕ) (xs : List ℕ) → unescape (escaped x ++ xs) ≡ option_map (λ part. x ∷ part) (unescape xs)
unescape-escaped x xs =
    ⊎_elim (λ (t : nat_eq x 126 ≡ true). let e : x ≡ 126 = eqb-true x 126 t in rw e refl)
    (λ (f : nat_eq x 126 ≡ false). ⊎_elim
    (λ (t : nat_eq x 47 ≡ true). let e : x ≡ 47 = eqb-true x 47 t in rw e refl)
    (λ (g : nat_eq x 47 ≡ false). rw (f, g) (read_plain x xs f g))
    (cases_Bool (nat_eq x 47)))
    (cases_Bool (nat_eq x 126))

-- a part that is spelled is read
pub unescape-escape : (part : List ℕ) → unescape (escape part) ≡ Some part
unescape-escape [] = refl
unescape-escape (x ∷ part) = unescape-escaped x (escape part) ∙ ap (option_map (λ rest. x ∷ rest)) (unescape-escape part)

-- what is mapped comes from something
pub mapped : {A B : Type 0} (f : A → B) (o : Option A) (y : B) → option_map f o ≡ Some y → (x : A) × (o ≡ Some x) × (f x ≡ y)
mapped f None y e = absurd (cc e)
mapped f (Some x) y e = (x, refl, cc e)

-- a plain byte is spelled as itself
plain_spelled : (x : ℕ) → is_plain x ≡ true → escaped x ≡ x ∷ []
plain_spelled x h =
    let both = and_parts (not (nat_eq x 126)) (not (nat_eq x 47)) h in
    rw (not-true _ both.0, not-true _ both.1) refl

-- a plain byte is read before a part
plain_first : (x : ℕ) (xs part : List ℕ) → is_plain x ≡ true → ((rest : List ℕ) → unescape xs ≡ Some rest → xs ≡ escape rest)
    → option_map (λ rest. x ∷ rest) (unescape xs) ≡ Some part → x ∷ xs ≡ escape part
plain_first x xs part plain more h =
    let m = mapped (λ rest. x ∷ rest) (unescape xs) part h in
    ap (λ l. x ∷ l) (more m.0 m.1) ∙ (ap (λ l. l ++ escape m.0) (sym (plain_spelled x plain)) ∙ ap escape m.2)

-- `~` and the byte after it are read before a part
tilde_first : (y : ℕ) (xs part : List ℕ) → ((rest : List ℕ) → unescape xs ≡ Some rest → xs ≡ escape rest)
    → option_and_then (λ z. option_map (λ rest. z ∷ rest) (unescape xs)) (after_tilde y) ≡ Some part → 126 ∷ y ∷ xs ≡ escape part
tilde_first y xs part more h =
    ⊎_elim (λ (t : nat_eq y 48 ≡ true).
    let e : y ≡ 48 = eqb-true y 48 t in
    let m = mapped (λ rest. 126 ∷ rest) (unescape xs) part (rw e at h) in
    rw e (ap (λ l. 126 ∷ 48 ∷ l) (more m.0 m.1) ∙ ap escape m.2))
    (λ (f : nat_eq y 48 ≡ false). ⊎_elim (λ (t : nat_eq y 49 ≡ true).
    let e : y ≡ 49 = eqb-true y 49 t in
    let m = mapped (λ rest. 47 ∷ rest) (unescape xs) part (rw e at h) in
    rw e (ap (λ l. 126 ∷ 49 ∷ l) (more m.0 m.1) ∙ ap escape m.2))
    (λ (g : nat_eq y 49 ≡ false). let none = rw (f, g) at h in absurd (cc none))
    (cases_Bool (nat_eq y 49)))
    (cases_Bool (nat_eq y 48))

-- a part that is read is spelled so
pub spelled : (piece part : List ℕ) → unescape piece ≡ Some part → piece ≡ escape part
spelled [] part h = let e : [] ≡ part = cc h in ap escape e
spelled (x ∷ []) part h =
    ⊎_elim (λ (t : is_plain x ≡ true). plain_first x [] part t (λ rest e. spelled [] rest e) (let p = rw t at h in p))
    (λ (f : is_plain x ≡ false). let none = rw f at h in absurd (cc none))
    (cases_Bool (is_plain x))
spelled (x ∷ y ∷ xs) part h =
    ⊎_elim (λ (t : is_plain x ≡ true). plain_first x (y ∷ xs) part t (λ rest e. spelled (y ∷ xs) rest e) (let p = rw t at h in p))
    (λ (f : is_plain x ≡ false). ⊎_elim (λ (t : nat_eq x 126 ≡ true).
    let p = rw (f, t) at h in
    let e : x ≡ 126 = eqb-true x 126 t in
    rw e (tilde_first y xs part (λ rest e. spelled xs rest e) p))
    (λ (g : nat_eq x 126 ≡ false). let none = rw (f, g) at h in absurd (cc none))
    (cases_Bool (nat_eq x 126)))
    (cases_Bool (is_plain x))

-- the piece is the text escaped exactly if it is read as the text
spells_if : (piece text : List ℕ) (o : Option (List ℕ)) → unescape piece ≡ o → bytes_eq piece (escape text) ≡ is_part o text
spells_if piece text None e =
    false_from_ne_true _ (λ t. let same = (bytes_eq-Decides piece (escape text)).0 t in cc (e, ap unescape same, unescape-escape text))
spells_if piece text (Some part) e =
    let whole = bytes_eq-Decides piece (escape text) in
    let same = bytes_eq-Decides text part in
    one_answer _ _ whole (
      (λ t. spelled piece part e ∙ ap escape (sym (same.0 t))),
      λ p. same.1 (cc (e, ap unescape p, unescape-escape text)),
    )

pub piece_spells : (piece text : List ℕ) → bytes_eq piece (escape text) ≡ is_part (unescape piece) text
piece_spells piece text = spells_if piece text (unescape piece) refl
