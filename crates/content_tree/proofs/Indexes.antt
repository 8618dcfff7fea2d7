-- Indexes in paths.
use Rattle.std.proofs.Common.{◌≡◌, ◌≢◌, ◌<◌, ◌≤◌, ◌^◌, ◌∙◌, ap, sym, refl, arith, ℕ, Bool, true, false, nat_eq, ⊎_elim}
use Rattle.std.proofs.Common.{List, [], ◌∷◌, length, get_or, eqb-true, eq-eqb, ne_eqb}
use Rattle.std.proofs.Common.{Option, Some, None, option_and_then, IfSome, if◌then◌else◌, Result, Ok, Err}
use Rattle.std.specs.Option.{MatchOption}
use Rattle.std.specs.Result.{result_ok}
use Rattle.std.specs.Str.{all_ascii_digits}
use Rattle.std.specs.Str.Parse.{ParsesUnsigned, digits_value}
use Rattle.std.proofs.lemmas.Bool.{true≢false, cases_Bool, cases_lt, and_parts, and_from}
use Rattle.std.proofs.lemmas.Str.Parse.{IsNumeralModel, numerals_by_value, tells_all_ascii_digits, parse_plain}
use Rattle.content_tree.proofs.Pieces.{spelled, unescape-escape}
use Rattle.content_tree.specs.Values.Paths.{escape, unescape, is_index, index_of}
use Rattle.content_tree.specs.Values.Places.{found_item}
use Rattle.content_tree.specs.Values.Pointers.{item_of}
use Rattle.content_tree.specs.Values.Tree.{Trees}

pub own : IsNumeralModel (λ ds. all_ascii_digits ds ≡ true) (digits_value 10)
own = numerals_by_value (λ ds. all_ascii_digits ds ≡ true) tells_all_ascii_digits

-- an index is of digits
pub index_digits : (bs : List ℕ) → is_index bs ≡ true → (all_ascii_digits bs ≡ true) × (0 < length bs)
index_digits [] h = absurd (cc h)
index_digits (x ∷ xs) h = ((and_parts (all_ascii_digits (x ∷ xs)) _ h).0, omega arith)

-- an index that begins with 0 is `0`
pub index_zero : (bs : List ℕ) → is_index bs ≡ true → get_or bs 0 0 ≡ 48 → length bs ≡ 1
index_zero [] h e = absurd (cc h)
index_zero (x ∷ xs) h e =
    let last = (and_parts (all_ascii_digits (x ∷ xs)) _ h).1 in
    let t : nat_eq x 48 ≡ true = eq-eqb x 48 e in
    let none = eqb-true (length xs) 0 (rw t at last) in omega arith

-- digits are an index, unless 0 comes before others
pub index_from : (bs : List ℕ) → all_ascii_digits bs ≡ true → 0 < length bs → (get_or bs 0 0 ≡ 48 → length bs ≡ 1) → is_index bs ≡ true
index_from [] digits some zero = absurd (omega arith)
index_from (x ∷ xs) digits some zero = and_from _ _ digits
    (⊎_elim (λ (t : nat_eq x 48 ≡ true). let one = zero (eqb-true x 48 t) in rw (t, eq-eqb (length xs) 0 (omega arith)) refl)
    (λ (f : nat_eq x 48 ≡ false). rw f refl)
    (cases_Bool (nat_eq x 48)))

-- digits that are not parsed are no index, or a large one
not_parsed : (bs : List ℕ) (b : Bool) → is_index bs ≡ b → ¬ ((all_ascii_digits bs ≡ true) × (0 < length bs) × (digits_value 10 bs < 2 ^ 64))
    → IfSome (if b then Some (digits_value 10 bs) else None) (λ n. 2 ^ 64 ≤ n)
not_parsed bs false e none = tt
not_parsed bs true e none =
    let digits = index_digits bs e in
    ⊎_elim (λ l. absurd (none (digits.0, digits.1, l))) (λ l. l) (cases_lt (digits_value 10 bs) (2 ^ 64))

-- what is parsed is the index
pub parsed_index : {E : Type 0} (bs : List ℕ) (r : Result ℕ E) → ParsesUnsigned 64 10 bs r → get_or bs 0 0 ≢ 43 → (get_or bs 0 0 ≡ 48 → length bs ≡ 1)
    → MatchOption (result_ok r) (IfSome (index_of bs) (λ n. 2 ^ 64 ≤ n)) (λ n. index_of bs ≡ Some n)
parsed_index {E} bs (Ok n) h plus zero =
    let k = parse_plain own {E = E} 64 bs (Ok n) h plus in
    rw (index_from bs k.0.0 k.0.1 zero) (ap Some (sym k.1))
parsed_index {E} bs (Err e) h plus zero = not_parsed bs (is_index bs) refl (parse_plain own {E = E} 64 bs (Err e) h plus)

-- an empty text has no first byte
pub first_of_none : (bs : List ℕ) → length bs < 1 → get_or bs 0 0 ≡ 0
first_of_none [] h = refl
first_of_none (x ∷ xs) h = absurd (omega arith)

-- digits are spelled as themselves
digits_spelled : (bs : List ℕ) → all_ascii_digits bs ≡ true → escape bs ≡ bs
digits_spelled [] h = refl
digits_spelled (x ∷ xs) h =
    let parts = tells_all_ascii_digits.parts x xs h in
    rw (ne_eqb x 126 (λ e. omega arith), ne_eqb x 47 (λ e. omega arith)) (ap (λ l. x ∷ l) (digits_spelled xs parts.1))

-- what is no index names none
pub no_index : (bs : List ℕ) → is_index bs ≡ false → index_of bs ≡ None
no_index bs other = ap (λ b. if b then Some (digits_value 10 bs) else None) other

-- what is spelled by no index is none
part_no_index : (piece part : List ℕ) → unescape piece ≡ Some part → is_index piece ≡ false → index_of part ≡ None
part_no_index piece part e other =
    ⊎_elim (λ (t : is_index part ≡ true).
    let same : piece ≡ part = spelled piece part e ∙ digits_spelled part (index_digits part t).0 in
    absurd (true≢false (sym t ∙ ap is_index (sym same) ∙ other)))
    (λ (f : is_index part ≡ false). no_index part f)
    (cases_Bool (is_index part))

-- a piece names the index that its part names
pub same_index : (piece : List ℕ) (o : Option (List ℕ)) (b : Bool) → unescape piece ≡ o → is_index piece ≡ b → option_and_then index_of o ≡ index_of piece
same_index piece o true e names =
    let itself : escape piece ≡ piece = digits_spelled piece (index_digits piece names).0 in
    ap (option_and_then index_of) (sym e ∙ (ap unescape (sym itself) ∙ unescape-escape piece))
same_index piece None false e other = sym (no_index piece other)
same_index piece (Some part) false e other = part_no_index piece part e other ∙ sym (no_index piece other)

-- the item of a part is that of the index that its piece names
item_by : (o : Option (List ℕ)) (ts : Trees) → found_item o ts ≡ option_and_then (λ n. item_of n ts) (option_and_then index_of o)
item_by None ts = refl
item_by (Some part) ts = refl

pub found_piece : (piece : List ℕ) (ts : Trees) → found_item (unescape piece) ts ≡ option_and_then (λ n. item_of n ts) (index_of piece)
found_piece piece ts =
    item_by (unescape piece) ts
    ∙ ap (option_and_then (λ n. item_of n ts)) (same_index piece (unescape piece) (is_index piece) refl refl)
