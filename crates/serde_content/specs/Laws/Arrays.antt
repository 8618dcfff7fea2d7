-- Arrays come back where their elements do.
use Rattle.std.specs.Prelude.{◌≡◌, ℕ, zero, suc, ◌+◌, Bool, true, false, List, [], ◌∷◌, length, refl}
use Rattle.std.specs.List.{AllByRecursion}
use Rattle.std.specs.Cmp.Lexicographic.{pointwise}
use Rattle.std.proofs.Common.{arith, subst}
use Rattle.content_tree.specs.Values.Tree as tree
use Rattle.content_tree.specs.Values.Tree.{Tree, Trees}
use Rattle.content_ser.specs.Grammar.Token as token
use Rattle.content_ser.specs.Scripts.Standard.{ScriptOf, items_script}
use Rattle.content_ser.specs.Scripts.Arrays.{array_script}
use Rattle.content_de.specs.Sources.Origin.{of_tree, Flags, tree_under}
use Rattle.content_de.specs.Outcomes.{refusal_then, IsTaken}
use Rattle.content_de.specs.Accesses.Seq.{tuple_at, items_under}
use Rattle.content_de.specs.Reads.Arrays.{parts_alike, PartsAlike, array_refusal}
use Rattle.content_de.specs.Reads.Read.{Refusal, Gives}
use Rattle.content_de.specs.Reads.Tuples.{part_then}
use Rattle.serde_content.specs.RoundTrip.{GivesOnly, ComesBack, MayGive, CoercionKeeps, flags}
use Rattle.serde_content.specs.Laws.Spelled.{row_end, row_more}
use Rattle.serde_content.specs.Laws.Holders.{both_free, first_free, second_free}
use Rattle.serde_content.specs.Laws.Series.{PartsBack, PartsKeep, nothing_left, tuple_back, tuple_keeps}
use Rattle.serde_content.specs.Laws.Untagged.{TakesOnly, row_length, PartsCount, part_counts}
use Rattle.serde_content.specs.Laws.Untagged.{parts_end_counts, tuple_counts}

-- no part gives no value
pub no_values : {A : Type 0} (gives : Gives A) (eq : A → A → Bool) (f : Flags) (ts : Trees) (ys : List A) → PartsAlike gives zero ys (items_under f ts)
    → pointwise eq [] ys ≡ true
unfolding PartsAlike
no_values gives eq f ts [] h = refl
no_values gives eq f ts (y ∷ ys) h = absurd h

-- a part and others give only such values
more_only : {A : Type 0} (gives : Gives A) (eq : A → A → Bool) (x : A) (xs : List A) (left : ℕ) (f : Flags) (t : Tree) (ts : Trees)
    → ((y : A) → gives (tree_under f t) y → eq x y ≡ true)
    → ((ys : List A) → PartsAlike gives left ys (items_under f ts) → pointwise eq xs ys ≡ true)
    → (ys : List A) → PartsAlike gives (suc left) ys (items_under f (tree.tree_then t ts)) → pointwise eq (x ∷ xs) ys ≡ true
unfolding PartsAlike
more_only gives eq x xs left f t ts one others [] h = absurd h
more_only gives eq x xs left f t ts one others (y ∷ ys) h = rw (one y h.0, others ys h.1) refl

-- a part that gives only equal values, and others that do
pub more_values : {A : Type 0} (refusal : Refusal) (gives : Gives A) (eq : A → A → Bool) (x : A) (xs : List A) (expected found left : ℕ) (f : Flags) (t : Tree) (ts : Trees)
    → GivesOnly (refusal (tree_under f t)) (gives (tree_under f t)) (λ y. eq x y ≡ true)
    → GivesOnly (parts_alike expected (found + 1) left refusal (items_under f ts)) (λ ys. PartsAlike gives left ys (items_under f ts)) (λ ys. pointwise eq xs ys ≡ true)
    → GivesOnly (parts_alike expected found (suc left) refusal (items_under f (tree.tree_then t ts))) (λ ys. PartsAlike gives (suc left) ys (items_under f (tree.tree_then t ts)))
    (λ ys. pointwise eq (x ∷ xs) ys ≡ true)
unfolding parts_alike
more_values refusal gives eq x xs expected found left f t ts one others =
    record { free = both_free one.free others.free; only = more_only gives eq x xs left f t ts one.only others.only }

-- the elements of a list, as so many parts
elements_back : {A : Type 0} {exists : A → Type 0} {script : ScriptOf A} {refusal : Refusal} {gives : Gives A} {eq : A → A → Bool} → ComesBack exists script refusal gives eq
    → (xs : List A) → AllByRecursion exists xs → (expected found left : ℕ) → length xs ≡ left
    → PartsBack {Y = List A} token.element (items_script script xs) (parts_alike expected found left refusal) (PartsAlike gives left) (λ ys. pointwise eq xs ys ≡ true)
unfolding parts_alike
elements_back {gives = gives} {eq = eq} back [] real expected found zero e =
    record { of_flags = λ f. row_end (record { free = nothing_left expected f; only = no_values gives eq f tree.no_trees }) }
elements_back back [] real expected found (suc left) e = absurd (omega arith)
elements_back back (x ∷ xs) real expected found zero e = absurd (omega arith)
elements_back {refusal = refusal} {gives = gives} {eq = eq} back (x ∷ xs) real expected found (suc left) e =
    let rest = elements_back back xs real.1 expected (found + 1) left (omega arith) in
    record { of_flags = λ f. row_more refl (λ t ts one others. more_values refusal gives eq x xs expected found left f t ts one others) (back.of_value x real.0 f) (rest.of_flags f) }

-- an array of this length
pub array_back : {A : Type 0} {exists : A → Type 0} {script : ScriptOf A} {refusal : Refusal} {gives : Gives A} {eq : A → A → Bool} (n : ℕ) → ComesBack exists script refusal gives eq
    → ComesBack (λ xs. (length xs ≡ n) × AllByRecursion exists xs) (array_script n script) (λ s. refusal_then (tuple_at n s) (array_refusal n refusal))
    (λ s xs. IsTaken (tuple_at n s) (PartsAlike gives n xs)) (pointwise eq)
array_back n back = record { of_value = λ xs real f. tuple_back {n = n} (elements_back back xs real.1 n 0 n real.0) f (λ ys h. h) }

-- what no part may give
no_values_kept : {A : Type 0} (refusal : Refusal) (gives : Gives A) (expected found : ℕ) (ts : Trees) (h : Bool) (ys : List A)
    → PartsAlike gives zero ys (items_under (flags h false) ts)
    → MayGive (parts_alike expected found zero refusal (items_under (flags h true) ts)) (λ zs. PartsAlike gives zero zs (items_under (flags h true) ts)) ys
unfolding parts_alike PartsAlike
no_values_kept refusal gives expected found ts h [] given = record { free = refl; given = tt }
no_values_kept refusal gives expected found ts h (y ∷ ys) given = absurd given

-- what so many parts may give
values_kept : {A : Type 0} {refusal : Refusal} {gives : Gives A} → CoercionKeeps refusal gives → (expected found left : ℕ) (ts : Trees) (h : Bool) (ys : List A)
    → MayGive (parts_alike expected found left refusal (items_under (flags h false) ts)) (λ zs. PartsAlike gives left zs (items_under (flags h false) ts)) ys
    → MayGive (parts_alike expected found left refusal (items_under (flags h true) ts)) (λ zs. PartsAlike gives left zs (items_under (flags h true) ts)) ys
unfolding parts_alike PartsAlike
values_kept {refusal = refusal} {gives = gives} keeps expected found zero ts h ys p = no_values_kept refusal gives expected found ts h ys p.given
values_kept keeps expected found (suc left) ts h [] p = absurd p.given
values_kept keeps expected found (suc left) tree.no_trees h (y ∷ ys) p = absurd p.given.0
values_kept keeps expected found (suc left) (tree.tree_then t ts) h (y ∷ ys) p =
    let one = keeps.of_origin (of_tree t) h y (record { free = first_free _ _ p.free; given = p.given.0 }) in
    let others = values_kept keeps expected (found + 1) left ts h ys (record { free = second_free _ _ p.free; given = p.given.1 }) in
    record { free = both_free one.free others.free; given = (one.given, others.given) }

-- an array of this length
pub array_keeps : {A : Type 0} {refusal : Refusal} {gives : Gives A} (n : ℕ) → CoercionKeeps refusal gives
    → CoercionKeeps (λ s. refusal_then (tuple_at n s) (array_refusal n refusal)) (λ s xs. IsTaken (tuple_at n s) (PartsAlike gives n xs))
array_keeps n keeps = tuple_keeps n (record { of_items = λ ts h ys p. values_kept keeps n 0 n ts h ys p })

-- so many parts take as many items
parts_count : (refusal : Refusal) (expected found left : ℕ) → PartsCount left (parts_alike expected found left refusal)
unfolding parts_alike
parts_count refusal expected found zero = parts_end_counts expected
parts_count refusal expected found (suc left) =
    let one_more : left + 1 ≡ suc left = omega arith in
    subst (λ n. PartsCount n (part_then expected found refusal (parts_alike expected (found + 1) left refusal))) one_more
    (part_counts refusal expected found (parts_count refusal expected (found + 1) left))

-- an array takes no other length
pub array_counts : (n : ℕ) (refusal : Refusal) → TakesOnly row_length n (λ s. refusal_then (tuple_at n s) (array_refusal n refusal))
array_counts n refusal = tuple_counts {len = n} (parts_count refusal n 0 n)
