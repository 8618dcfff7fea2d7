-- Texts in quotes, of which most characters are printed as they are.
use Rattle.std.proofs.Common.{◌≡◌, refl, ℕ, ◌+◌, ◌<◌, ◌≤◌, true, false, ◌==◌, nat_lt, List, [], ◌∷◌, ◌++◌, flat_map}
use Rattle.std.proofs.Common.{length, length-append, length-take, take-append-drop, cond, take, drop, get_or, sym, ap, subst, ◌∙◌, arith, Some, None, ◌⊎◌, inl, inr, position}
use Rattle.std.specs.Str.{chars, IsUtf8, IsCharBoundary}
use Rattle.std.specs.List.{position_or_len}
use Rattle.std.proofs.Math.Utf8.{encode, encodes}
use Rattle.std.proofs.lemmas.Option.{none-some}
use Rattle.std.proofs.lemmas.Bool.{cases_lt, lt-ltb, ne_eqb, le-ltb, or_parts, eqb-false, ltb-false}
use Rattle.std.proofs.lemmas.List.{get_or-append-add, get_or-take, drop_more}
use Rattle.std.proofs.lemmas.List.Sums.{fails_before_first}
use Rattle.std.proofs.lemmas.List.Quantifiers.{position-Some}
use Rattle.std.proofs.lemmas.Grind.{flat_map-append}
use Rattle.std.proofs.lemmas.Str.{encodes-chars, chars-append, chars_past_char, encode_ascii}
use Rattle.std.proofs.lemmas.Str.{IsUtf8-take, IsUtf8-drop, IsCharBoundary-before_ascii, IsCharBoundary-after_ascii}
use Rattle.content_tree.specs.Printed.Images.{escaped}
use Rattle.content_tree.specs.Printed.Escapes.{has_escape}

true-not-false : true ≡ false → ⊥
true-not-false e = subst (λ b. cond b (Unit {0}) ⊥) e tt

-- no byte of the text has an escape
abbrev Plain : List ℕ → Type 0
Plain bs = (k : ℕ) → k < length bs → has_escape (get_or bs k 0) ≡ false

-- a character with no escape is printed as it is
plain_char : (c : ℕ) → has_escape c ≡ false → escaped c ≡ encode c
plain_char c h =
    let low = or_parts (nat_lt c 32) _ h in
    let quote = or_parts (c == 34) _ low.1 in
    let slash = or_parts (c == 92) (c == 127) quote.1 in
    let above = ltb-false c 32 low.0 in
    rw (
      ne_eqb c 34 (eqb-false c 34 quote.0),
      ne_eqb c 92 (eqb-false c 92 slash.0),
      ne_eqb c 9 (λ e. omega (arith, above)),
      ne_eqb c 10 (λ e. omega (arith, above)),
      ne_eqb c 13 (λ e. omega (arith, above)),
      ne_eqb c 0 (λ e. omega (arith, above)),
      low.0,
      slash.1,
    )

-- past ASCII no character has an escape
past_ascii : (c : ℕ) → 128 ≤ c → has_escape c ≡ false
past_ascii c h = rw (le-ltb c 32 (omega (arith, h)), ne_eqb c 34 (λ e. omega (arith, h)), ne_eqb c 92 (λ e. omega (arith, h)), ne_eqb c 127 (λ e. omega (arith, h)))

-- a byte with an escape is ASCII
escape_ascii : (c : ℕ) → has_escape c ≡ true → c < 128
escape_ascii c h = go (cases_lt c 128)
  where
    go : (c < 128) ⊎ (128 ≤ c) → c < 128
    go (inl l) = l
    go (inr g) = absurd (true-not-false (sym h ∙ past_ascii c g))

-- a character of which no byte has an escape has none
first_plain : (c : ℕ) (rest : List ℕ) → Plain (encode c ++ rest) → has_escape c ≡ false
first_plain c rest plain = go (cases_lt c 128)
  where
    go : (c < 128) ⊎ (128 ≤ c) → has_escape c ≡ false
    go (inl l) = subst (λ bs. Plain (bs ++ rest)) (encode_ascii c l) plain 0 (omega arith)
    go (inr g) = past_ascii c g

plain_chars : (cs : List ℕ) → Plain (encodes cs) → flat_map escaped cs ≡ encodes cs
plain_chars [] plain = refl
plain_chars (c ∷ cs) plain =
    let later : Plain (encodes cs) = λ k l. ap has_escape (sym (get_or-append-add (encode c) (encodes cs) k 0)) ∙ plain (length (encode c) + k) (omega (arith, l, length-append (encode c) (encodes cs))) in
    (λ i. plain_char c (first_plain c (encodes cs) plain) i ++ plain_chars cs later i)

-- a text with no escape is printed as it is
plain_text : (bs : List ℕ) → IsUtf8 bs → Plain bs → flat_map escaped (chars bs) ≡ bs
plain_text bs utf8 plain = let same = encodes-chars bs utf8 in plain_chars (chars bs) (subst Plain (sym same) plain) ∙ same

-- where no byte has an escape
pub no_escape : (bs : List ℕ) → IsUtf8 bs → position has_escape bs ≡ None → flat_map escaped (chars bs) ≡ bs
no_escape bs utf8 is = plain_text bs utf8 (λ k l. fails_before_first has_escape bs k 0 (reached k l (cases_lt (position_or_len has_escape bs) (length bs))))
  where
    reached : (k : ℕ) → k < length bs → (position_or_len has_escape bs < length bs) ⊎ (length bs ≤ position_or_len has_escape bs) → k < position_or_len has_escape bs
    reached k l (inl found) = absurd (none-some _ (sym is ∙ ap (λ t. cond t (Some (position_or_len has_escape bs)) None) (lt-ltb _ _ found)))
    reached k l (inr none) = omega (arith, l, none)

-- the text may be cut before the first byte that has an escape, and after it
pub cut_before : (bs : List ℕ) (i : ℕ) → position has_escape bs ≡ Some i → IsCharBoundary bs i
cut_before bs i is = let first = position-Some has_escape bs i 0 is in IsCharBoundary-before_ascii bs i first.0 (escape_ascii _ first.1)

pub cut_after : (bs : List ℕ) (i : ℕ) → IsUtf8 bs → position has_escape bs ≡ Some i → IsCharBoundary bs (i + 1)
cut_after bs i utf8 is = let first = position-Some has_escape bs i 0 is in IsCharBoundary-after_ascii bs i utf8 first.0 (escape_ascii _ first.1)

-- the characters before it, its own, and those after it
chars_around : (bs : List ℕ) (i : ℕ) → IsUtf8 bs → position has_escape bs ≡ Some i
    → chars bs ≡ chars (take i bs) ++ (get_or bs i 0 ∷ chars (drop (i + 1) bs))
chars_around bs i utf8 is =
    let first = position-Some has_escape bs i 0 is in
    let cut = cut_before bs i is in
    let b = get_or bs i 0 in
    let after = drop (i + 1) bs in
    let here : drop i bs ≡ encode b ++ after = drop_more bs i 0 first.0 ∙ ap (λ l. l ++ after) (sym (encode_ascii b (escape_ascii b first.1))) in
    ap chars (sym (take-append-drop i bs)) ∙ chars-append (take i bs) (drop i bs) (IsUtf8-take bs i utf8 cut)
    ∙ ap (λ l. chars (take i bs) ++ l) (chars_past_char (drop i bs) after b (IsUtf8-drop bs i utf8 cut) here)

-- what comes before it is printed as it is
pub at_escape : (bs : List ℕ) (i : ℕ) → IsUtf8 bs → position has_escape bs ≡ Some i
    → flat_map escaped (chars bs) ≡ take i bs ++ (escaped (get_or bs i 0) ++ flat_map escaped (chars (drop (i + 1) bs)))
at_escape bs i utf8 is =
    let first = position-Some has_escape bs i 0 is in
    let plain : Plain (take i bs) = λ k l. let low : k < i = omega (arith, l, length-take i bs) in ap has_escape (get_or-take i bs k 0 low) ∙ first.2 k low in
    ap (flat_map escaped) (chars_around bs i utf8 is) ∙ flat_map-append escaped (chars (take i bs)) _
    ∙ ap (λ l. l ++ (escaped (get_or bs i 0) ++ flat_map escaped (chars (drop (i + 1) bs)))) (plain_text (take i bs) (IsUtf8-take bs i utf8 (cut_before bs i is)) plain)
