-- What `parse` gives for a numeral.
use Rattle.std.proofs.Common.{◌≡◌, ℕ, ◌<◌, ◌≤◌, ◌^◌, ltb, leb, Bool, true, false, cond, ◌&&◌, ◌||◌}
use Rattle.std.proofs.Common.{List, length, drop, Result, Ok, Err, Some, None, refl, ap, sym, ◌∙◌}
use Rattle.std.proofs.Common.{arith, rules, tests, pos, neg_ℤ, ℤ}
use Rattle.std.proofs.lemmas.Str.Parse.{IsNumeralModel, numerals_by_value, tells_all_ascii_digits}
use Rattle.std.proofs.lemmas.Str.Parse.{parse_digits, parse_signed_digits, parse_signed_minus}
use Rattle.std.specs.Str.{all_ascii_digits}
use Rattle.std.specs.Str.Parse.{ParsesUnsigned, ParsesSigned, digits_value}
use Rattle.std.specs.Result.{OkIff, result_ok}
use Rattle.std.specs.Option.{option_map}
use mir.Syntax.{Width}
use mir.Val.{hbits}
use Rattle.content_lines.specs.Numerals.{is_numeral, natural_of, is_negative, integer_of}

own : IsNumeralModel (λ ds. all_ascii_digits ds ≡ true) (digits_value 10)
own = numerals_by_value _ tells_all_ascii_digits

parsed_when : {E V : Type 0} (r : Result V E) (P : Type 0) (v : V) (b : Bool) → OkIff r P v → (b ≡ true → P) → (P → b ≡ true) → result_ok r ≡ cond b (Some v) None
parsed_when (Ok x) P v b h to from = rw (from h.0) (ap Some h.1)
parsed_when (Err e) P v true h to from = absurd (h (to refl))
parsed_when (Err e) P v false h to from = refl

pub natural_parsed : {E : Type 0} (k : ℕ) (bs : List ℕ) (r : Result ℕ E) → ParsesUnsigned k 10 bs r → is_numeral bs ≡ true → result_ok r ≡ natural_of k bs
natural_parsed k bs r h plain =
    parsed_when r ((0 < length bs) × (digits_value 10 bs < 2 ^ k)) (digits_value 10 bs) (is_numeral bs && ltb (digits_value 10 bs) (2 ^ k))
    (parse_digits own k bs r h (grind (arith, plain)))
    (λ e. grind (arith, plain))
    (λ p. grind (arith, plain))

pos_map : (b : Bool) (v : ℕ) → cond b (Some (pos v)) None ≡ option_map pos (cond b (Some v) None)
pos_map true v = refl
pos_map false v = refl

negative_parsed : {E : Type 0} (w : Width) (bs : List ℕ) (r : Result ℤ E) → ParsesSigned w 10 bs r → is_negative bs ≡ true → result_ok r ≡ integer_of (hbits w) bs
negative_parsed w bs r h e =
    rw e (parsed_when r ((all_ascii_digits (drop 1 bs) ≡ true) × (0 < length (drop 1 bs)) × (digits_value 10 (drop 1 bs) ≤ 2 ^ hbits w)) (neg_ℤ (pos (digits_value 10 (drop 1 bs)))) (leb (digits_value 10 (drop 1 bs)) (2 ^ hbits w))
    (parse_signed_minus own w bs r h (grind (arith, e)))
    (λ k. (grind (arith, e), grind (arith, e), grind (arith, k)))
    (λ p. grind (arith, p)))

plain_digits : (bs : List ℕ) → is_numeral bs ≡ true → all_ascii_digits bs ≡ true
plain_digits bs plain = grind (arith, plain)

plain_some : (bs : List ℕ) → is_numeral bs ≡ true → 0 < length bs
plain_some bs plain = grind (arith, plain)

plain_natural : (k : ℕ) (bs : List ℕ) → is_numeral bs ≡ true → natural_of k bs ≡ cond (ltb (digits_value 10 bs) (2 ^ k)) (Some (digits_value 10 bs)) None
plain_natural k bs plain = rw plain refl

signless_parsed : {E : Type 0} (w : Width) (bs : List ℕ) (r : Result ℤ E) → ParsesSigned w 10 bs r → is_numeral bs ≡ true → result_ok r ≡ option_map pos (natural_of (hbits w) bs)
signless_parsed w bs r h plain =
    let digits = plain_digits bs plain in
    let some = plain_some bs plain in
    let parsed = parse_signed_digits own w bs r h digits in
    let shown : result_ok r ≡ cond (ltb (digits_value 10 bs) (2 ^ hbits w)) (Some (pos (digits_value 10 bs))) None =
    parsed_when r ((0 < length bs) × (digits_value 10 bs < 2 ^ hbits w)) (pos (digits_value 10 bs)) (ltb (digits_value 10 bs) (2 ^ hbits w)) parsed
    (λ k. (some, search (rules, tests)))
    (λ p. search (rules, tests)) in
    shown ∙ pos_map _ _ ∙ ap (option_map pos) (sym (plain_natural (hbits w) bs plain))

plain_parsed : {E : Type 0} (w : Width) (bs : List ℕ) (r : Result ℤ E) → ParsesSigned w 10 bs r → is_negative bs ≡ false → is_numeral bs ≡ true → result_ok r ≡ integer_of (hbits w) bs
plain_parsed w bs r h e plain = rw e (signless_parsed w bs r h plain)

pub integer_parsed : {E : Type 0} (w : Width) (bs : List ℕ) (r : Result ℤ E) → ParsesSigned w 10 bs r → (is_negative bs || is_numeral bs) ≡ true → result_ok r ≡ integer_of (hbits w) bs
integer_parsed w bs r h either = elim (is_negative bs) as (λ b. is_negative bs ≡ b → (b || is_numeral bs) ≡ true → result_ok r ≡ integer_of (hbits w) bs)
    [ true ↦ λ e _. negative_parsed w bs r h e | false ↦ λ e p. plain_parsed w bs r h e p ] refl either

pub integer_none : (k : ℕ) (bs : List ℕ) → (is_negative bs || is_numeral bs) ≡ false → integer_of k bs ≡ None
integer_none k bs e = grind (arith, e)
