-- Texts in quotes, of which most bytes are written as they are.
use Rattle.std.proofs.Common.{◌≡◌, refl, ℕ, suc, ◌+◌, ◌<◌, ◌≤◌, true, false, ◌==◌, nat_lt, List, [], ◌∷◌, ◌++◌, flat_map}
use Rattle.std.proofs.Common.{length, length-take, take-append-drop, cond, take, drop, get_or, sym, ap, subst, ◌∙◌, arith, Some, None, ◌⊎◌, inl, inr, position}
use Rattle.std.specs.Str.{IsUtf8, IsCharBoundary}
use Rattle.std.specs.List.{position_or_len}
use Rattle.std.proofs.lemmas.Option.{none-some}
use Rattle.std.proofs.lemmas.Bool.{cases_lt, lt-ltb, ne_eqb, le-ltb, or_parts, eqb-false, ltb-false}
use Rattle.std.proofs.lemmas.List.{get_or-take, drop_more}
use Rattle.std.proofs.lemmas.List.Sums.{fails_before_first}
use Rattle.std.proofs.lemmas.List.Quantifiers.{position-Some}
use Rattle.std.proofs.lemmas.Grind.{flat_map-append}
use Rattle.std.proofs.lemmas.Str.{IsCharBoundary-before_ascii, IsCharBoundary-after_ascii}
use Rattle.content_json.specs.Strings.{escaped, has_escape}

true-not-false : true ≡ false → ⊥
true-not-false e = subst (λ b. cond b (Unit {0}) ⊥) e tt

-- no byte of the text has an escape
abbrev Plain : List ℕ → Type 0
Plain bs = (k : ℕ) → k < length bs → has_escape (get_or bs k 0) ≡ false

-- a byte with no escape is written as it is
plain_byte : (b : ℕ) → has_escape b ≡ false → escaped b ≡ b ∷ []
plain_byte b h =
    let low = or_parts (nat_lt b 32) _ h in
    let quote = or_parts (b == 34) (b == 92) low.1 in
    let above = ltb-false b 32 low.0 in
    rw (
      ne_eqb b 34 (eqb-false b 34 quote.0),
      ne_eqb b 92 (eqb-false b 92 quote.1),
      ne_eqb b 8 (λ e. omega (arith, above)),
      ne_eqb b 9 (λ e. omega (arith, above)),
      ne_eqb b 10 (λ e. omega (arith, above)),
      ne_eqb b 12 (λ e. omega (arith, above)),
      ne_eqb b 13 (λ e. omega (arith, above)),
      low.0,
    )

-- a byte with an escape is ASCII
escape_ascii : (b : ℕ) → has_escape b ≡ true → b < 128
escape_ascii b h = go (cases_lt b 128)
  where
    go : (b < 128) ⊎ (128 ≤ b) → b < 128
    go (inl l) = l
    go (inr g) = absurd (true-not-false (sym h ∙ rw (le-ltb b 32 (omega (arith, g)), ne_eqb b 34 (λ e. omega (arith, g)), ne_eqb b 92 (λ e. omega (arith, g)))))

-- a text with no escape is written as it is
plain_text : (bs : List ℕ) → Plain bs → flat_map escaped bs ≡ bs
plain_text [] plain = refl
plain_text (b ∷ bs) plain =
    let here : escaped b ≡ b ∷ [] = plain_byte b (plain 0 (omega arith)) in
    let later : Plain bs = λ k l. plain (suc k) (omega (arith, l)) in
    (λ i. here i ++ plain_text bs later i)

-- where no byte has an escape
pub no_escape : (bs : List ℕ) → position has_escape bs ≡ None → flat_map escaped bs ≡ bs
no_escape bs is = plain_text bs (λ k l. fails_before_first has_escape bs k 0 (reached k l (cases_lt (position_or_len has_escape bs) (length bs))))
  where
    reached : (k : ℕ) → k < length bs → (position_or_len has_escape bs < length bs) ⊎ (length bs ≤ position_or_len has_escape bs) → k < position_or_len has_escape bs
    reached k l (inl found) = absurd (none-some _ (sym is ∙ ap (λ t. cond t (Some (position_or_len has_escape bs)) None) (lt-ltb _ _ found)))
    reached k l (inr none) = omega (arith, l, none)

-- the text may be cut before the first byte that has an escape, and after it
pub cut_before : (bs : List ℕ) (i : ℕ) → position has_escape bs ≡ Some i → IsCharBoundary bs i
cut_before bs i is = let first = position-Some has_escape bs i 0 is in IsCharBoundary-before_ascii bs i first.0 (escape_ascii _ first.1)

pub cut_after : (bs : List ℕ) (i : ℕ) → IsUtf8 bs → position has_escape bs ≡ Some i → IsCharBoundary bs (i + 1)
cut_after bs i utf8 is = let first = position-Some has_escape bs i 0 is in IsCharBoundary-after_ascii bs i utf8 first.0 (escape_ascii _ first.1)

-- what comes before it is written as it is
pub at_escape : (bs : List ℕ) (i : ℕ) → position has_escape bs ≡ Some i
    → flat_map escaped bs ≡ take i bs ++ (escaped (get_or bs i 0) ++ flat_map escaped (drop (i + 1) bs))
at_escape bs i is =
    let first = position-Some has_escape bs i 0 is in
    let plain : Plain (take i bs) = λ k l. let low : k < i = omega (arith, l, length-take i bs) in ap has_escape (get_or-take i bs k 0 low) ∙ first.2 k low in
    ap (flat_map escaped) (sym (take-append-drop i bs) ∙ ap (λ l. take i bs ++ l) (drop_more bs i 0 first.0))
    ∙ flat_map-append escaped (take i bs) (get_or bs i 0 ∷ drop (i + 1) bs)
    ∙ ap (λ l. l ++ (escaped (get_or bs i 0) ++ flat_map escaped (drop (i + 1) bs))) (plain_text (take i bs) plain)
