-- Loops that gather parts.
use Rattle.std.proofs.Common.{◌≡◌, ℕ, suc, ◌+◌, ◌-◌, ◌<◌, ◌≤◌, Bool, true, false, List, [], ◌∷◌, ◌++◌, map, length, drop, Result, Ok, Err, refl, sym, ap, ◌∙◌, append_assoc, arith}
use Rattle.std.proofs.lemmas.List.{map_push}
use Rattle.std.specs.List.{concat}
use Rattle.content_cbor.specs.declared.decode_error.Fault.TheVariants as fault
use Rattle.content_cbor.specs.declared.stop.Refusal.{Refusal}
use Rattle.content_cbor.specs.declared.stop.Stop.{Stop}
use Rattle.content_cbor.specs.declared.stop.Stop.TheVariants as stop
use Rattle.content_cbor.specs.Inner.Steps.{◌>>=◌, Reader, Fails, refused}
use Rattle.content_cbor.specs.Inner.Reading.{at_break, each_at, until_at, chunk_at, chunks_at}

-- what is made of the parts that are read
abbrev pub gathered : {A B : Type 0} → (List A → B) → Result (List A × List ℕ) Refusal → Result (B × List ℕ) Refusal
gathered f read = read >>= λ xs. Ok (f xs.0, xs.1)

gathered_alike : {A B : Type 0} (f g : List A → B) (x : A) (read : Result (List A × List ℕ) Refusal) → ((xs : List A) → f (x ∷ xs) ≡ g xs)
    → gathered f (read >>= λ xs. Ok (x ∷ xs.0, xs.1)) ≡ gathered g read
gathered_alike f g x (Ok xs) alike = ap (λ y. Ok (y, xs.1)) (alike xs.0)
gathered_alike f g x (Err e) alike = refl

left_over : (count i : ℕ) → i < count → count - i ≡ suc (count - (i + 1))
left_over count i lt = omega arith

nothing_left : (count i : ℕ) → count ≤ i → count - i ≡ 0
nothing_left count i le = omega arith

-- ---- so many parts

pub each_goes_on : {A B : Type 0} (f g : List A → B) (read : Reader A) (count i : ℕ) (bs after : List ℕ) (x : A) (total : Result (B × List ℕ) Refusal)
    → i < count → read bs ≡ Ok (x, after) → ((xs : List A) → f (x ∷ xs) ≡ g xs)
    → gathered f (each_at read (count - i) bs) ≡ total → gathered g (each_at read (count - (i + 1)) after) ≡ total
unfolding each_at
each_goes_on f g read count i bs after x total lt is alike so_far =
    let one : gathered f (each_at read (count - i) bs) ≡ gathered g (each_at read (count - (i + 1)) after) =
    rw (left_over count i lt, is) (gathered_alike f g x (each_at read (count - (i + 1)) after) alike) in
    sym one ∙ so_far

pub each_fails : {A B : Type 0} (f : List A → B) (read : Reader A) (e : Stop) (count i : ℕ) (bs : List ℕ) (total : Result (B × List ℕ) Refusal)
    → i < count → Fails e (read bs) → gathered f (each_at read (count - i) bs) ≡ total → Fails e total
unfolding each_at
each_fails f read stop.OutOfMemory count i bs total lt is so_far = tt
each_fails f read (stop.Refused r) count i bs total lt is so_far =
    let one : gathered f (each_at read (count - i) bs) ≡ Err r = rw (left_over count i lt, is) refl in
    sym so_far ∙ one

pub each_done : {A B : Type 0} (f : List A → B) (read : Reader A) (count i : ℕ) (bs : List ℕ) (total : Result (B × List ℕ) Refusal)
    → count ≤ i → gathered f (each_at read (count - i) bs) ≡ total → total ≡ Ok (f [], bs)
unfolding each_at
each_done f read count i bs total le so_far =
    let one : gathered f (each_at read (count - i) bs) ≡ Ok (f [], bs) = rw (nothing_left count i le) refl in
    sym so_far ∙ one

-- ---- parts up to a break

pub until_goes_on : {A B : Type 0} (f g : List A → B) (read : Reader A) (count i : ℕ) (bs after : List ℕ) (x : A) (total : Result (B × List ℕ) Refusal)
    → i < count → at_break bs ≡ false → read bs ≡ Ok (x, after) → ((xs : List A) → f (x ∷ xs) ≡ g xs)
    → gathered f (until_at read (count - i) bs) ≡ total → gathered g (until_at read (count - (i + 1)) after) ≡ total
unfolding until_at
until_goes_on f g read count i bs after x total lt going is alike so_far =
    let one : gathered f (until_at read (count - i) bs) ≡ gathered g (until_at read (count - (i + 1)) after) =
    rw (left_over count i lt, going, is) (gathered_alike f g x (until_at read (count - (i + 1)) after) alike) in
    sym one ∙ so_far

pub until_fails : {A B : Type 0} (f : List A → B) (read : Reader A) (e : Stop) (count i : ℕ) (bs : List ℕ) (total : Result (B × List ℕ) Refusal)
    → i < count → at_break bs ≡ false → Fails e (read bs) → gathered f (until_at read (count - i) bs) ≡ total → Fails e total
unfolding until_at
until_fails f read stop.OutOfMemory count i bs total lt going is so_far = tt
until_fails f read (stop.Refused r) count i bs total lt going is so_far =
    let one : gathered f (until_at read (count - i) bs) ≡ Err r = rw (left_over count i lt, going, is) refl in
    sym so_far ∙ one

pub until_break : {A B : Type 0} (f : List A → B) (read : Reader A) (count i : ℕ) (bs : List ℕ) (total : Result (B × List ℕ) Refusal)
    → i < count → at_break bs ≡ true → gathered f (until_at read (count - i) bs) ≡ total → total ≡ Ok (f [], drop 1 bs)
unfolding until_at
until_break f read count i bs total lt broken so_far =
    let one : gathered f (until_at read (count - i) bs) ≡ Ok (f [], drop 1 bs) = rw (left_over count i lt, broken) refl in
    sym so_far ∙ one

pub until_ended : {A B : Type 0} (f : List A → B) (read : Reader A) (count i : ℕ) (bs : List ℕ) (total : Result (B × List ℕ) Refusal)
    → count ≤ i → gathered f (until_at read (count - i) bs) ≡ total → total ≡ refused fault.Ended []
unfolding until_at
until_ended f read count i bs total le so_far =
    let one : gathered f (until_at read (count - i) bs) ≡ refused fault.Ended [] = rw (nothing_left count i le) refl in
    sym so_far ∙ one

-- ---- at the beginning

pub minus_none : (n : ℕ) → n - 0 ≡ n
minus_none n = omega arith

pub chunks_begin : (is_text : Bool) (bs : List ℕ) → gathered concat (until_at (chunk_at is_text) (length bs - 0) bs) ≡ chunks_at is_text bs
unfolding chunks_at
chunks_begin is_text bs = ap (λ k. gathered concat (until_at (chunk_at is_text) k bs)) (minus_none (length bs))

gathered_all : {A : Type 0} (read : Result (List A × List ℕ) Refusal) → gathered (λ xs. xs) read ≡ read
gathered_all (Ok x) = refl
gathered_all (Err e) = refl

pub each_begins : {A : Type 0} (read : Reader A) (count : ℕ) (bs : List ℕ) → gathered (λ xs. xs) (each_at read (count - 0) bs) ≡ each_at read count bs
each_begins read count bs = gathered_all (each_at read (count - 0) bs) ∙ ap (λ k. each_at read k bs) (minus_none count)

pub until_begins : {A : Type 0} (read : Reader A) (count : ℕ) (bs : List ℕ) → gathered (λ xs. xs) (until_at read (count - 0) bs) ≡ until_at read count bs
until_begins read count bs = gathered_all (until_at read (count - 0) bs) ∙ ap (λ k. until_at read k bs) (minus_none count)

-- one more value that is seen so
pub one_more : {V A : Type 0} (view : V → A) (vs : List V) (v : V) (xs : List A) → map view vs ++ (view v ∷ xs) ≡ map view (vs ++ (v ∷ [])) ++ xs
one_more view vs v xs = sym (append_assoc (map view vs) (view v ∷ []) xs) ∙ ap (λ us. us ++ xs) (sym (map_push view vs v))
