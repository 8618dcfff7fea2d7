-- What is at the end of a list, and errors that are handed on.
use Rattle.std.proofs.Common.{◌≡◌, ℕ, List, [], ◌∷◌, ◌++◌, length, Some, Result, Ok, Err, IfErr, IsErrAnd, slice_get, refl, ap, sym, subst, ◌∙◌}
use Rattle.serde_content.specs.Names.Words.{Error, IsOutOfMemory}

-- what is put at the end is under the old length
placed : {X : Type 0} (xs : List X) (t : X) → slice_get (xs ++ t ∷ []) (length xs) ≡ Some t
placed [] t = refl
placed (x ∷ xs) t = placed xs t

pub at_the_end : {X : Type 0} (old new : List X) (t : X) (n : ℕ) → new ≡ old ++ t ∷ [] → n ≡ length old → slice_get new n ≡ Some t
at_the_end old new t n same last = ap (λ xs. slice_get xs n) same ∙ ap (slice_get (old ++ t ∷ [])) last ∙ placed old t

-- out of memory stays that
pub handed_on : {A : Type 0} (e : Error) (r : Result A Error) → IsOutOfMemory e → IsErrAnd r (λ x. x ≡ e) → IfErr r (λ x. IsOutOfMemory x)
handed_on e (Ok y) memory is = absurd is
handed_on e (Err x) memory is = subst (λ z. IsOutOfMemory z) (sym is) memory
