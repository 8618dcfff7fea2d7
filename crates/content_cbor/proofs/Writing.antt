-- Lists that are written, item by item.
use Rattle.std.proofs.Common.{◌≡◌, ℕ, suc, ◌≤◌, List, [], ◌∷◌, ◌++◌, length, drop, refl, ap, sym, subst, ◌∙◌}
use Rattle.std.proofs.Common.{append-nil, append_assoc, Result, Ok, Err, OnOk}
use Rattle.std.proofs.lemmas.List.{drop_all}
use Rattle.content_tree.specs.Values.Value.{trees_view, pairs_view, fields_view}
use Rattle.content_tree.specs.declared.cow.CowStr.{CowStr}
use Rattle.content_tree.specs.declared.value.NamedValue.{NamedValue}
use Rattle.content_tree.specs.Values.Tree.{count}
use Rattle.content_ser.specs.Sending.TreeScript.{count_pairs, count_fields}

-- at the end nothing is left
pub ended : {A : Type 0} (f : List A → List ℕ) (xs : List A) (i : ℕ) (out whole : List ℕ) → f [] ≡ []
    → length xs ≤ i → out ++ f (drop i xs) ≡ whole → out ≡ whole
ended f xs i out whole none past so_far =
    sym (append-nil out) ∙ ap (λ r. out ++ r) (sym none) ∙ ap (λ ys. out ++ f ys) (sym (drop_all i xs past)) ∙ so_far

-- at the end nothing is left, and what holds of all if of the rest holds of all
pub all_fit : {A : Type 0} (F : List A → Type 0) (xs : List A) (i : ℕ) → F [] → length xs ≤ i → (F (drop i xs) → F xs) → F xs
all_fit F xs i none past so_far = so_far (subst F (sym (drop_all i xs past)) none)

-- one fact beside another
pub and_fits : {E A : Type 0} (B : Type 0) (r : Result (Unit {0}) E) → A → OnOk r B → OnOk r (A × B)
and_fits B (Ok x) a b = (a, b)
and_fits B (Err e) a b = tt

-- one write after another
pub then_wrote : {E : Type 0} (r : Result (Unit {0}) E) (old mid new a b all : List ℕ) → mid ≡ old ++ a → OnOk r (new ≡ mid ++ b)
    → a ++ b ≡ all → OnOk r (new ≡ old ++ all)
then_wrote (Ok x) old mid new a b all first second is =
    second ∙ ap (λ m. m ++ b) first ∙ append_assoc old a b ∙ ap (λ bs. old ++ bs) is
then_wrote (Err e) old mid new a b all first second is = tt

pub counted : (vs : List NamedValue) → length vs ≡ count (trees_view vs)
counted [] = refl
counted (v ∷ vs) = ap suc (counted vs)

pub counted_pairs : (ps : List (NamedValue × NamedValue)) → length ps ≡ count_pairs (pairs_view ps)
counted_pairs [] = refl
counted_pairs (p ∷ ps) = ap suc (counted_pairs ps)

pub counted_fields : (fs : List (CowStr × NamedValue)) → length fs ≡ count_fields (fields_view fs)
counted_fields [] = refl
counted_fields (f ∷ fs) = ap suc (counted_fields fs)
