-- Paths that are being printed, step by step, from the last one that is kept.
use Rattle.std.proofs.Common.{◌≡◌, ◌≢◌, ◌∙◌, ap, sym, refl, ℕ, suc, ◌+◌, ◌-◌, ◌<◌, ◌≤◌, List, [], ◌∷◌, ◌++◌, map, reverse, codes}
use Rattle.std.proofs.Common.{true, false, Bool, ◌||◌, nat_eq, ⊎_elim, ◌⊎◌, inl, inr, append_assoc, append-nil, arith, eqb-true}
use Rattle.std.proofs.Common.{length, get_or, take, drop, Option, Some, None, position, length-take, take-append-drop, cond}
use Rattle.std.specs.Str.{IsUtf8, IsCharBoundary}
use Rattle.std.specs.List.{position_or_len}
use Rattle.std.proofs.Math.Seq.{take-suc}
use Rattle.std.proofs.lemmas.Bool.{cases_Bool, cases_lt, lt-ltb, or_parts, true≢false}
use Rattle.std.proofs.lemmas.List.{reverse-append, drop_more, get_or-take, length-map, length-reverse, map-append}
use Rattle.std.proofs.lemmas.List.Sums.{fails_before_first}
use Rattle.std.proofs.lemmas.List.Quantifiers.{position-Some}
use Rattle.std.proofs.lemmas.Option.{none-some}
use Rattle.std.proofs.lemmas.Str.{IsCharBoundary-before_ascii, IsCharBoundary-after_ascii}
use Rattle.content_tree.specs.Errors.Where.{Place, place_of, places_of}
use Rattle.content_tree.specs.Printed.Paths.{place_text, path_text, written_place, written_path, written_where}
use Rattle.content_tree.specs.Printed.Paths.{is_special}
use Rattle.content_tree.specs.Values.Paths.{escaped, escape}
use Rattle.content_tree.specs.declared.trail.Step.{Step}

-- a step that is added to those that are kept comes before them
pub step_added : (steps : List Step) (step : Step) → places_of (steps ++ step ∷ []) ≡ place_of step ∷ places_of steps
step_added steps step = ap reverse (map-append place_of steps (step ∷ [])) ∙ reverse-append (map place_of steps) (place_of step ∷ [])

-- one more step comes before those that are kept before it
last_step : (steps : List Step) (n : ℕ) (x : Step) → 0 < n → n ≤ length steps → x ≡ get_or steps (n - 1) x
    → places_of (take n steps) ≡ place_of x ∷ places_of (take (n - 1) steps)
last_step steps n x some within is =
    let whole : n ≡ suc (n - 1) = omega (arith, some) in
    let below : n - 1 < length steps = omega (arith, some, within) in
    ap (λ k. places_of (take k steps)) whole
    ∙ ap places_of (take-suc steps (n - 1) x below)
    ∙ step_added (take (n - 1) steps) (get_or steps (n - 1) x)
    ∙ ap (λ y. place_of y ∷ places_of (take (n - 1) steps)) (sym is)

-- one more step of a JSON Pointer
pub next_step : (done : List ℕ) (steps : List Step) (n : ℕ) (x : Step) (whole : List ℕ) → 0 < n → n ≤ length steps → x ≡ get_or steps (n - 1) x
    → done ++ path_text (places_of (take n steps)) ≡ whole
    → (done ++ place_text (place_of x)) ++ path_text (places_of (take (n - 1) steps)) ≡ whole
next_step done steps n x whole some within is so_far =
    append_assoc done _ _ ∙ ap (λ ps. done ++ path_text ps) (sym (last_step steps n x some within is)) ∙ so_far

-- one more step as people write it
pub next_written : (done lead : List ℕ) (steps : List Step) (n : ℕ) (x : Step) (whole : List ℕ) → 0 < n → n ≤ length steps → x ≡ get_or steps (n - 1) x
    → done ++ written_path lead (places_of (take n steps)) ≡ whole
    → (done ++ written_place lead (place_of x)) ++ written_path (codes ".") (places_of (take (n - 1) steps)) ≡ whole
next_written done lead steps n x whole some within is so_far =
    append_assoc done _ _ ∙ ap (λ ps. done ++ written_path lead ps) (sym (last_step steps n x some within is)) ∙ so_far

-- no byte of the text is escaped
abbrev Plain : List ℕ → Type 0
Plain bs = (k : ℕ) → k < length bs → is_special (get_or bs k 0) ≡ false

-- a byte that isn't special spells itself
plain_byte : (x : ℕ) → is_special x ≡ false → escaped x ≡ x ∷ []
plain_byte x h = let both = or_parts (nat_eq x 126) (nat_eq x 47) h in rw (both.0, both.1) refl

-- a text without one spells itself
plain_part : (bs : List ℕ) → Plain bs → escape bs ≡ bs
plain_part [] plain = refl
plain_part (x ∷ bs) plain = (λ i. plain_byte x (plain 0 (omega arith)) i ++ plain_part bs (λ k l. plain (suc k) (omega (arith, l))) i)

-- parts are escaped one after another
escape-append : (xs ys : List ℕ) → escape (xs ++ ys) ≡ escape xs ++ escape ys
escape-append [] ys = refl
escape-append (x ∷ xs) ys = ap (λ l. escaped x ++ l) (escape-append xs ys) ∙ sym (append_assoc (escaped x) (escape xs) (escape ys))

-- a special byte is ASCII
special_ascii : (x : ℕ) → is_special x ≡ true → x < 128
special_ascii x h =
    ⊎_elim (λ (t : nat_eq x 126 ≡ true). let e = eqb-true x 126 t in omega (arith, e))
    (λ (f : nat_eq x 126 ≡ false). let e = eqb-true x 47 (later (nat_eq x 126) f h) in omega (arith, e))
    (cases_Bool (nat_eq x 126))
  where
    later : (b : Bool) → b ≡ false → (b || nat_eq x 47) ≡ true → nat_eq x 47 ≡ true
    later true f h = absurd (true≢false f)
    later false f h = h

-- where no byte is escaped
pub no_special : (bs : List ℕ) → position is_special bs ≡ None → escape bs ≡ bs
no_special bs is = plain_part bs (λ k l. fails_before_first is_special bs k 0 (reached k l (cases_lt (position_or_len is_special bs) (length bs))))
  where
    reached : (k : ℕ) → k < length bs → (position_or_len is_special bs < length bs) ⊎ (length bs ≤ position_or_len is_special bs) → k < position_or_len is_special bs
    reached k l (inl found) = absurd (none-some _ (sym is ∙ ap (λ t. cond t (Some (position_or_len is_special bs)) None) (lt-ltb _ _ found)))
    reached k l (inr none) = omega (arith, l, none)

-- the text may be cut before the first byte that is escaped, and after it
pub cut_before_special : (bs : List ℕ) (i : ℕ) → position is_special bs ≡ Some i → IsCharBoundary bs i
cut_before_special bs i is = let first = position-Some is_special bs i 0 is in IsCharBoundary-before_ascii bs i first.0 (special_ascii _ first.1)

pub cut_after_special : (bs : List ℕ) (i : ℕ) → IsUtf8 bs → position is_special bs ≡ Some i → IsCharBoundary bs (i + 1)
cut_after_special bs i utf8 is = let first = position-Some is_special bs i 0 is in IsCharBoundary-after_ascii bs i utf8 first.0 (special_ascii _ first.1)

-- what comes before it spells itself
pub at_special : (bs : List ℕ) (i : ℕ) → position is_special bs ≡ Some i
    → escape bs ≡ take i bs ++ (escaped (get_or bs i 0) ++ escape (drop (i + 1) bs))
at_special bs i is =
    let first = position-Some is_special bs i 0 is in
    let plain : Plain (take i bs) = λ k l. let low : k < i = omega (arith, l, length-take i bs) in ap is_special (get_or-take i bs k 0 low) ∙ first.2 k low in
    ap escape (sym (take-append-drop i bs)) ∙ escape-append (take i bs) (drop i bs)
    ∙ ap (λ l. escape (take i bs) ++ escape l) (drop_more bs i 0 first.0)
    ∙ ap (λ l. l ++ (escaped (get_or bs i 0) ++ escape (drop (i + 1) bs))) (plain_part (take i bs) plain)

-- what is inside the value is told with its place
inside : (ps : List Place) → length ps ≢ 0 → written_where (Some ps) ≡ written_path [] ps ++ codes ": "
inside [] some = absurd (some refl)
inside (p ∷ ps) some = refl

pub where_inside : (steps : List Step) → length steps ≢ 0 → written_where (Some (places_of steps)) ≡ written_path [] (places_of steps) ++ codes ": "
where_inside steps some = inside (places_of steps) (λ none. some (sym (length-reverse (map place_of steps) ∙ length-map steps place_of) ∙ none))
