-- The first entry whose key passes a test.
use Rattle.std.proofs.Common.{◌≡◌, ◌<◌, ◌+◌, ℕ, zero, suc, List, [], ◌∷◌, Bool, true, false, Option, Some, None, take, length, get_or, map, option_map, refl, ap, sym, ◌∙◌, arith}
use Rattle.std.specs.Map.{lookup, remove_entry}
use Rattle.std.specs.List.{remove}
use Rattle.std.specs.Option.{is_some}

-- where none passes, all stay
pub all_stay : {K X : Type 0} (test : K → Bool) (es : List (K × X)) → lookup test es ≡ None → remove_entry test es ≡ es
all_stay test [] none = refl
all_stay test (e ∷ es) none = grind (arith, all_stay test es)

-- one that passes, before which none does, is found
pub found_here : {K X : Type 0} (test : K → Bool) (es : List (K × X)) (i : ℕ) (e : K × X) → i < length es → lookup test (take i es) ≡ None → test (get_or es i e).0 ≡ true → lookup test es ≡ Some (get_or es i e).1
found_here test [] i e less none is = absurd (omega (arith, less))
found_here test (d ∷ es) zero e less none is = rw is refl
found_here test (d ∷ es) (suc i) e less none is = grind (arith, found_here test es i e)

-- and it goes
pub gone_here : {K X : Type 0} (test : K → Bool) (es : List (K × X)) (i : ℕ) (e : K × X) → i < length es → lookup test (take i es) ≡ None → test (get_or es i e).0 ≡ true → remove_entry test es ≡ remove es i
gone_here test [] i e less none is = absurd (omega (arith, less))
gone_here test (d ∷ es) zero e less none is = rw is refl
gone_here test (d ∷ es) (suc i) e less none is = grind (arith, gone_here test es i e)

-- one more that doesn't pass
pub none_more : {K X : Type 0} (test : K → Bool) (es : List (K × X)) (i j : ℕ) (e : K × X) → j ≡ i + 1 → i < length es → lookup test (take i es) ≡ None → test (get_or es i e).0 ≡ false → lookup test (take j es) ≡ None
none_more test es i zero e next less none is = absurd (omega (arith, next))
none_more test [] i (suc j) e next less none is = absurd (omega (arith, less))
none_more test (d ∷ es) zero (suc j) e next less none is = let last : j ≡ 0 = omega (arith, next) in rw (last, is) refl
none_more test (d ∷ es) (suc i) (suc j) e next less none is = let one : j ≡ i + 1 = omega (arith, next) in grind (arith, none_more test es i j e one)

-- what is found among entries that are seen otherwise
pub found_seen : {K X L Y : Type 0} (test : L → Bool) (see : K → L) (look : X → Y) (es : List (K × X)) → option_map look (lookup (λ k. test (see k)) es) ≡ lookup test (map (λ e. (see e.0, look e.1)) es)
found_seen test see look [] = refl
found_seen test see look (e ∷ es) = grind (arith, found_seen test see look es)

-- and what is left of them
pub left_seen : {K X L Y : Type 0} (test : L → Bool) (see : K → L) (look : X → Y) (es : List (K × X)) → map (λ e. (see e.0, look e.1)) (remove_entry (λ k. test (see k)) es) ≡ remove_entry test (map (λ e. (see e.0, look e.1)) es)
left_seen test see look [] = refl
left_seen test see look (e ∷ es) = grind (arith, left_seen test see look es)

-- whether there is one, however it is seen
some_seen : {X Y : Type 0} (look : X → Y) (o : Option X) → is_some o ≡ is_some (option_map look o)
some_seen look None = refl
some_seen look (Some x) = refl

-- whether one is found doesn't depend on how values are seen
pub there_seen : {K X L Y : Type 0} (test : L → Bool) (see : K → L) (look : X → Y) (es : List (K × X)) (b : Bool) → is_some (lookup (λ k. test (see k)) es) ≡ b → b ≡ is_some (lookup test (map (λ e. (see e.0, look e.1)) es))
there_seen test see look es b there = sym there ∙ (some_seen look (lookup (λ k. test (see k)) es) ∙ ap is_some (found_seen test see look es))

pub ruleset named = (all_stay, found_here, gone_here, none_more)
