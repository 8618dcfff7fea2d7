-- What a row reads that keeps what its fields leave over, as one value.
use Rattle.std.specs.Prelude.{Option, Some, None, IsSome}
use Rattle.content_tree.specs.Errors.Cause.{Cause}
use Rattle.content_de.specs.Accesses.ByName.{FieldsLeft, left_over}
use Rattle.content_de.specs.Reads.Attempts.{IsTakenAs}
use Rattle.content_de.specs.Reads.Read.{Refusal, Gives, first_of}

-- the end of the fields, and then what is left over
unfoldable pub rest_then : Refusal → (FieldsLeft → Option Cause) → FieldsLeft → Option Cause
rest_then refusal ending f = first_of (ending f) (refusal (left_over f))

-- what is left over gives this value
unfoldable pub RestThen : {A : Type 0} → Gives A → A → (FieldsLeft → Type 0) → FieldsLeft → Type 0
RestThen gives a ending f = gives (left_over f) a × ending f

-- it gives this value, or it is refused and there is none
unfoldable pub RestTried : {A : Type 0} → Refusal → Gives A → Option A → (FieldsLeft → Type 0) → FieldsLeft → Type 0
RestTried refusal gives None ending f = IsSome (refusal (left_over f)) × ending f
RestTried refusal gives (Some a) ending f = IsTakenAs (refusal (left_over f)) (gives (left_over f)) a × ending f
