-- A text's first line, and the lines after it.
use Rattle.std.proofs.Common.{◌≡◌, ℕ, ◌+◌, ◌-◌, ◌<◌, ◌≤◌, Bool, true, false, not, cond, nat_lt, List, [], ◌∷◌}
use Rattle.std.proofs.Common.{length, take, drop, get_or, Option, Some, None, IfSome, refl, sym, ap, subst}
use Rattle.std.proofs.Common.{◌∙◌, arith}
use Rattle.std.proofs.lemmas.Bool.{ltb-true, ltb-false}
use Rattle.std.proofs.lemmas.Iterator.Adapters.{position_from-zero}
use Rattle.std.proofs.lemmas.List.{take_rest, get_or-take, take_all, length-take-le}
use Rattle.std.proofs.lemmas.List.Folds.{length-prefix_len, list_all_at}
use Rattle.std.proofs.lemmas.List.Quantifiers.{position-Some}
use Rattle.std.proofs.lemmas.List.Splits.{slice_split_first, slice_split_none, length-slice_split}
use Rattle.std.proofs.lemmas.List.Sums.{fails_before_first, passes_at_first, position_or_len_is}
use Rattle.std.proofs.lemmas.List.Sums.{count_by-le-length, list_all-from_AllPass}
use Rattle.std.specs.List.{position, position_or_len, position_from, before_first, list_all}
use Rattle.content_lines.specs.Forms.{is_printable}
use Rattle.content_lines.specs.Lines.{is_line_feed, is_foreign, is_bad, lines_of, first_bad}
use Rattle.content_lines.proofs.Limiting.{none_found}

below_cases : (n size : ℕ) (b : Bool) → nat_lt n size ≡ b → (k : ℕ) → cond b (Some n) None ≡ Some k → k < size
below_cases n size true e k h = let m : n ≡ k = cc in let l = ltb-true n size e in omega (arith, m, l)
below_cases n size false e k h = absurd (cc)

-- a place that is found is within the list
below : {X : Type 0} (p : X → Bool) (xs : List X) (k : ℕ) → position p xs ≡ Some k → k < length xs
below p xs k h = below_cases (position_or_len p xs) (length xs) _ refl k h

-- a byte that a line may hold ends none
ends_none : (b : ℕ) → is_foreign b ≡ false → is_line_feed b ≡ false
ends_none b h = grind (arith, h)

not_foreign : (b : ℕ) → is_foreign b ≡ false → is_printable b ≡ true
not_foreign b h = grind (arith, h)

-- a line feed with no foreign byte before it is the first
feed_first : (text : List ℕ) (k : ℕ) → position is_foreign text ≡ Some k → is_line_feed (get_or text k 0) ≡ true → position_or_len is_line_feed text ≡ k
feed_first text k h e =
    let f = position-Some is_foreign text k 0 h in
    position_or_len_is is_line_feed text k 0 (omega (arith, f.0)) (λ j less. ends_none _ (f.2 j less)) (λ _. e)

-- it ends the first line
pub cut_at : (text : List ℕ) (k : ℕ) → position is_foreign text ≡ Some k → is_line_feed (get_or text k 0) ≡ true → lines_of text ≡ take k text ∷ lines_of (take (length text - (k + 1)) (drop (k + 1) text))
cut_at text k h feed =
    let e = feed_first text k h feed in
    let f = position-Some is_foreign text k 0 h in
    subst (λ i. lines_of text ≡ take i text ∷ lines_of (drop (i + 1) text)) e (slice_split_first is_line_feed text 0 (omega (arith, e, f.0)))
    ∙ ap (λ t. take k text ∷ lines_of t) (sym (take_rest text (k + 1)))

-- what comes before the first foreign byte is printable
pub printable_before : (text : List ℕ) (k : ℕ) → position is_foreign text ≡ Some k → list_all is_printable (take k text) ≡ true
printable_before text k h = list_all-from_AllPass is_printable (take k text) (λ j d less.
    let f = position-Some is_foreign text k d h in
    let size = length-take-le k text (omega (arith, f.0)) in
    let below : j < k = omega (arith, less, size) in
    subst (λ b. is_printable b ≡ true) (sym (get_or-take k text j d below)) (not_foreign (get_or text j d) (f.2 j below)))

-- where there is none, all is printable
pub printable_all : (text : List ℕ) → position is_foreign text ≡ None → list_all is_printable text ≡ true
printable_all text h =
    let e = none_found is_foreign text h in
    list_all-from_AllPass is_printable text (λ j d less. not_foreign (get_or text j d) (fails_before_first is_foreign text j d (omega (arith, e, less))))

-- and there is one line
pub uncut : (text : List ℕ) → position is_foreign text ≡ None → lines_of text ≡ text ∷ []
uncut text h =
    let e = none_found is_foreign text h in
    slice_split_none is_line_feed text (λ k d less. ends_none _ (fails_before_first is_foreign text k d (omega (arith, e, less))))

-- the lines begin with what comes before the first line feed
first_line : (text : List ℕ) (t : Bool) → nat_lt (position_or_len is_line_feed text) (length text) ≡ t → (rest : List (List ℕ)) × (lines_of text ≡ before_first is_line_feed text ∷ rest)
first_line text true e = (_, slice_split_first is_line_feed text 0 (ltb-true _ _ e))
first_line text false e =
    let over = ltb-false _ _ e in (
      [],
      slice_split_none is_line_feed text (λ k d less. fails_before_first is_line_feed text k d (omega (arith, over, less)))
          ∙ ap (λ l. l ∷ []) (sym (take_all (position_or_len is_line_feed text) text (omega (arith, over)))),
    )

-- a place is before the first that passes where none up to it passes
before_passing : (p : ℕ → Bool) (xs : List ℕ) (k : ℕ) (t : Bool) → nat_lt k (position_or_len p xs) ≡ t → k < length xs → ((i : ℕ) → i ≤ k → p (get_or xs i 0) ≡ false) → k < position_or_len p xs
before_passing p xs k true e less h = ltb-true _ _ e
before_passing p xs k false e less h =
    let over = ltb-false _ _ e in
    let yes = passes_at_first p xs 0 (omega (arith, over, less)) in
    let no = h (position_or_len p xs) (omega (arith, over)) in
    absurd (cc)

-- nor is any up to it a line feed, where it is none itself
up_to : (text : List ℕ) (k : ℕ) → position is_foreign text ≡ Some k → is_line_feed (get_or text k 0) ≡ false → (i : ℕ) → i ≤ k → is_line_feed (get_or text i 0) ≡ false
up_to text k h e i most = by_place (nat_lt i k) refl
  where
    by_place : (t : Bool) → nat_lt i k ≡ t → is_line_feed (get_or text i 0) ≡ false
    by_place true less = ends_none _ ((position-Some is_foreign text k 0 h).2 i (ltb-true _ _ less))
    by_place false over = let least = ltb-false _ _ over in let same : i ≡ k = omega (arith, least, most) in rw same e

-- a line that holds a foreign byte is bad
bad_line : (line : List ℕ) → 0 < length line → list_all is_printable line ≡ false → is_bad line ≡ true
bad_line line some h = rw h (grind (arith, some))

-- a foreign byte that is no line feed is in the first line, if it is the first
within_first : (text : List ℕ) (k : ℕ) → position is_foreign text ≡ Some k → is_line_feed (get_or text k 0) ≡ false → k < position_or_len is_line_feed text
within_first text k h e = before_passing is_line_feed text k _ refl (position-Some is_foreign text k 0 h).0 (up_to text k h e)

-- how long the first line is
first_length : (text : List ℕ) → length (before_first is_line_feed text) ≡ position_or_len is_line_feed text
first_length text = length-prefix_len (λ b. not (is_line_feed b)) text

-- a text whose first foreign byte is no line feed begins with a line that holds it
pub foreign_first : (text : List ℕ) (k : ℕ) → position is_foreign text ≡ Some k → is_line_feed (get_or text k 0) ≡ false → list_all is_printable (before_first is_line_feed text) ≡ false
foreign_first text k h e =
    let f = position-Some is_foreign text k 0 h in
    let line = before_first is_line_feed text in
    let within = within_first text k h e in
    let foreign : is_printable (get_or line k 0) ≡ false = subst (λ b. is_printable b ≡ false) (sym (get_or-take _ text k 0 within)) (grind (arith, f)) in
    list_all_at is_printable line k 0 (omega (arith, within, first_length text)) foreign

-- and that line is bad
pub bad_first : (text : List ℕ) (k : ℕ) → position is_foreign text ≡ Some k → is_line_feed (get_or text k 0) ≡ false → first_bad text ≡ Some 0
bad_first text k h e =
    let bad = bad_line (before_first is_line_feed text) (omega (arith, within_first text k h e, first_length text)) (foreign_first text k h e) in
    let (rest, lines) = first_line text _ refl in
    position_from-zero is_bad (lines_of text) ∙ (ap (position_from is_bad 0) lines ∙ ap (λ x. cond x (Some 0) (position_from is_bad 1 rest)) bad)

-- the place of a bad line is at most the length of the text
pub bad_within : (text : List ℕ) (found : Option ℕ) → found ≡ first_bad text → IfSome found (λ place. place ≤ length text)
bad_within text None h = tt
bad_within text (Some place) h =
    let less = below is_bad (lines_of text) place (sym h) in
    omega (arith, less, length-slice_split is_line_feed text, count_by-le-length is_line_feed text)
