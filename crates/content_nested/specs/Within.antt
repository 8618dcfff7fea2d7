-- What is read of a value where so many levels are left: each level by what the next reads.
use Rattle.std.specs.Prelude.{ℕ, zero, suc, Some, codes}
use Rattle.content_tree.specs.Errors.Cause.{Cause, custom}
use Rattle.content_de.specs.Reads.Read.{Refusal, Gives}

-- no level is left
abbrev pub too_deep : Cause
too_deep = custom (codes "recursion limit exceeded")

-- where no level is left, everything is refused
abbrev pub refuses_all : Refusal
refuses_all s = Some too_deep

-- and nothing is given
abbrev pub GivesNothing : {A : Type 0} → Gives A
GivesNothing s a = ⊥

-- what is refused with so many levels, of one type or of several
abbrev pub refusals_within : {R : Type 0} → (none : R) → (level : R → R) → ℕ → R
refusals_within none level zero = none
refusals_within none level (suc n) = level (refusals_within none level n)

-- what is given with so many levels
abbrev pub gives_within : {G : Type 1} → (none : G) → (level : G → G) → ℕ → G
gives_within none level zero = none
gives_within none level (suc n) = level (gives_within none level n)
