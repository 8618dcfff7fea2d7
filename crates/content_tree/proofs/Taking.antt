-- Lists whose items are taken in place, one after the other.
use Rattle.std.proofs.Common.{◌≡◌, ℕ, ◌+◌, ◌<◌, ◌≤◌, ◌≢◌, List, [], ◌∷◌, ◌++◌, length, get_or, set}
use Rattle.std.proofs.Common.{take, map, sym, ap, ◌∙◌, arith, length-set, get_or-set_other}
use Rattle.std.proofs.lemmas.List.{map-append, map_more, take_all}

-- from place i on, the items are what they were
abbrev pub Untaken : {A : Type 0} (i : ℕ) (xs ys : List A) → Type 0
Untaken i xs ys = (length xs ≡ length ys) × ((k : ℕ) (d : _) → i ≤ k → get_or xs k d ≡ get_or ys k d)

-- one item is taken
pub taken : {A : Type 0} (i : ℕ) (xs ys : List A) (x : A) → Untaken i xs ys → Untaken (i + 1) (set xs i x) ys
taken i xs ys x same = (
  length-set xs i x ∙ same.0,
  λ k d above. let other : k ≢ i = omega arith in get_or-set_other xs i k x d other ∙ same.1 k d (omega arith),
)

-- what one more item became
pub made_more : {A B C : Type 0} (f : A → C) (g : B → C) (xs ys : List A) (made : List B) (i : ℕ) (none : A) (new : B) → i < length xs
    → Untaken i xs ys → g new ≡ f (get_or xs i none) → map g made ≡ map f (take i ys)
    → map g (made ++ new ∷ []) ≡ map f (take (i + 1) ys)
made_more f g xs ys made i none new below same is before =
    map-append g made (new ∷ [])
    ∙ ap (λ done. done ++ g new ∷ []) before
    ∙ ap (λ y. map f (take i ys) ++ y ∷ []) (is ∙ ap f (same.1 i none (omega arith)))
    ∙ sym (map_more f ys i none (omega (arith, same.0)))

-- all of them are taken
pub all_taken : {A : Type 0} (i : ℕ) (xs ys : List A) → Untaken i xs ys → length xs ≤ i → take i ys ≡ ys
all_taken i xs ys same above = take_all i ys (omega (arith, same.0))
