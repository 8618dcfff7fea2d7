-- What reading a value of a type answers.
use Rattle.std.specs.Prelude.{Option, Some, None, Result, MatchResult, ◌≡◌, ◌≢◌}
use Rattle.content_tree.specs.Errors.Cause.{Cause, out_of_memory}
use Rattle.content_tree.specs.declared.error.Error.{Error}
use Rattle.content_de.specs.Sources.Origin.{Subject}
use Rattle.content_de.specs.Outcomes.{cause}

-- of a type, the cause of the first refusal in reading order, or none
abbrev pub Refusal : Type 0
Refusal = Subject → Option Cause

-- of a type, the values that may be given where there is no refusal
abbrev pub Gives : Type 0 → Type 1
Gives A = Subject → A → Type 0

-- of a type, the sources that are read without memory
abbrev pub Memoryless : Type 1
Memoryless = Subject → Type 0

-- a value that may be given, where there is no refusal; else the first refusal, or out of memory
abbrev pub Reads : {A : Type 0} → Option Cause → (A → Type 0) → Result A Error → Type 0
Reads refusal gives r =
    MatchResult r (λ a. (refusal ≡ None) × gives a) (λ e. cause e ≢ out_of_memory → refusal ≡ Some (cause e))

-- the first refusal of two, one read after the other
abbrev pub first_of : Option Cause → Option Cause → Option Cause
first_of (Some c) o = Some c
first_of None o = o
