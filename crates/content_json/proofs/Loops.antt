-- Loops that gather parts.
use Rattle.std.proofs.Common.{◌≡◌, ℕ, suc, ◌+◌, ◌-◌, ◌<◌, ◌≤◌, true, false, List, [], ◌∷◌, ◌++◌, map, length, drop, Result, Ok, Err, refl, sym, ap, ◌∙◌, append_assoc, arith}
use Rattle.std.proofs.lemmas.List.{map_push}
use Rattle.content_json.specs.Codes.{begins_with}
use Rattle.content_json.specs.declared.decode_error.Fault.TheVariants as fault
use Rattle.content_json.specs.declared.stop.Refusal.{Refusal}
use Rattle.content_json.specs.declared.stop.Stop.{Stop}
use Rattle.content_json.specs.declared.stop.Stop.TheVariants as stop
use Rattle.content_json.specs.Inner.Steps.{◌>>=◌, Reader, Fails, refused}
use Rattle.content_json.specs.Inner.Reading.{after_blanks, next_at, parts_at, series_at}

-- what is made of the parts that are read
abbrev pub gathered : {A B : Type 0} → (List A → B) → Result (List A × List ℕ) Refusal → Result (B × List ℕ) Refusal
gathered f read = read >>= λ xs. Ok (f xs.0, xs.1)

gathered_alike : {A B : Type 0} (f g : List A → B) (x : A) (read : Result (List A × List ℕ) Refusal) → ((xs : List A) → f (x ∷ xs) ≡ g xs)
    → gathered f (read >>= λ xs. Ok (x ∷ xs.0, xs.1)) ≡ gathered g read
gathered_alike f g x (Ok xs) alike = ap (λ y. Ok (y, xs.1)) (alike xs.0)
gathered_alike f g x (Err e) alike = refl

pub left_over : (count i : ℕ) → i < count → count - i ≡ suc (count - (i + 1))
left_over count i lt = omega arith

pub nothing_left : (count i : ℕ) → count ≤ i → count - i ≡ 0
nothing_left count i le = omega arith

-- a part, and one more to come
pub goes_on : {A B : Type 0} (f g : List A → B) (close : ℕ) (part : Reader A) (count i : ℕ) (bs after blank next : List ℕ) (x : A) (total : Result (B × List ℕ) Refusal)
    → i < count → part bs ≡ Ok (x, after) → blank ≡ after_blanks after → next_at close blank ≡ Ok (true, next) → ((xs : List A) → f (x ∷ xs) ≡ g xs)
    → gathered f (parts_at close part (count - i) bs) ≡ total → gathered g (parts_at close part (count - (i + 1)) next) ≡ total
unfolding parts_at
goes_on f g close part count i bs after blank next x total lt is skipped more alike so_far =
    let one : gathered f (parts_at close part (count - i) bs) ≡ gathered g (parts_at close part (count - (i + 1)) next) =
    rw (left_over count i lt, is, ← skipped, more) (gathered_alike f g x (parts_at close part (count - (i + 1)) next) alike) in
    sym one ∙ so_far

-- the last part
pub ends : {A B : Type 0} (f : List A → B) (close : ℕ) (part : Reader A) (count i : ℕ) (bs after blank next : List ℕ) (x : A) (total : Result (B × List ℕ) Refusal)
    → i < count → part bs ≡ Ok (x, after) → blank ≡ after_blanks after → next_at close blank ≡ Ok (false, next)
    → gathered f (parts_at close part (count - i) bs) ≡ total → total ≡ Ok (f (x ∷ []), next)
unfolding parts_at
ends f close part count i bs after blank next x total lt is skipped last so_far =
    let one : gathered f (parts_at close part (count - i) bs) ≡ Ok (f (x ∷ []), next) = rw (left_over count i lt, is, ← skipped, last) refl in
    sym so_far ∙ one

-- a part that is none
pub fails : {A B : Type 0} (f : List A → B) (close : ℕ) (part : Reader A) (e : Stop) (count i : ℕ) (bs : List ℕ) (total : Result (B × List ℕ) Refusal)
    → i < count → Fails e (part bs) → gathered f (parts_at close part (count - i) bs) ≡ total → Fails e total
unfolding parts_at
fails f close part stop.OutOfMemory count i bs total lt is so_far = tt
fails f close part (stop.Refused r) count i bs total lt is so_far =
    let one : gathered f (parts_at close part (count - i) bs) ≡ Err r = rw (left_over count i lt, is) refl in
    sym so_far ∙ one

-- neither a comma nor a bracket after a part
pub next_fails : {A B : Type 0} (f : List A → B) (close : ℕ) (part : Reader A) (r : Refusal) (count i : ℕ) (bs after blank : List ℕ) (x : A) (total : Result (B × List ℕ) Refusal)
    → i < count → part bs ≡ Ok (x, after) → blank ≡ after_blanks after → next_at close blank ≡ Err r
    → gathered f (parts_at close part (count - i) bs) ≡ total → total ≡ Err r
unfolding parts_at
next_fails f close part r count i bs after blank x total lt is skipped none so_far =
    let one : gathered f (parts_at close part (count - i) bs) ≡ Err r = rw (left_over count i lt, is, ← skipped, none) refl in
    sym so_far ∙ one

-- as many turns as there are bytes
pub ended : {A B : Type 0} (f : List A → B) (close : ℕ) (part : Reader A) (count i : ℕ) (bs : List ℕ) (total : Result (B × List ℕ) Refusal)
    → count ≤ i → gathered f (parts_at close part (count - i) bs) ≡ total → total ≡ refused fault.Ended []
unfolding parts_at
ended f close part count i bs total le so_far =
    let one : gathered f (parts_at close part (count - i) bs) ≡ refused fault.Ended [] = rw (nothing_left count i le) refl in
    sym so_far ∙ one

gathered_all : {A : Type 0} (read : Result (List A × List ℕ) Refusal) → gathered (λ xs. xs) read ≡ read
gathered_all (Ok x) = refl
gathered_all (Err e) = refl

pub minus_none : (n : ℕ) → n - 0 ≡ n
minus_none n = omega arith

-- before the first part, which isn't the bracket
pub begins : {A : Type 0} (close : ℕ) (part : Reader A) (bs start : List ℕ) → start ≡ after_blanks bs → begins_with close start ≡ false
    → gathered (λ xs. xs) (parts_at close part (length bs - 0) start) ≡ series_at close part bs
unfolding series_at
begins close part bs start is more =
    let no : begins_with close (after_blanks bs) ≡ false = ap (begins_with close) (sym is) ∙ more in
    gathered_all (parts_at close part (length bs - 0) start) ∙ ap (λ k. parts_at close part k start) (minus_none (length bs))
    ∙ ap (parts_at close part (length bs)) is ∙ sym (rw no refl)

-- no part
pub none : {A : Type 0} (close : ℕ) (part : Reader A) (bs start behind : List ℕ) → start ≡ after_blanks bs → begins_with close start ≡ true → behind ≡ drop 1 start
    → series_at close part bs ≡ Ok ([], behind)
unfolding series_at
none close part bs start behind is last rest =
    let yes : begins_with close (after_blanks bs) ≡ true = ap (begins_with close) (sym is) ∙ last in
    rw yes (ap (λ r. Ok ([], r)) (ap (drop 1) (sym is) ∙ sym rest))

-- one more value that is seen so
pub one_more : {V A : Type 0} (view : V → A) (vs : List V) (v : V) (xs : List A) → map view vs ++ (view v ∷ xs) ≡ map view (vs ++ (v ∷ [])) ++ xs
one_more view vs v xs = sym (append_assoc (map view vs) (view v ∷ []) xs) ∙ ap (λ us. us ++ xs) (sym (map_push view vs v))
