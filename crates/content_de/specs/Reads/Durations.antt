-- What a duration is read of: its seconds and its nanoseconds, by name, and no other fields.
use Rattle.std.specs.Prelude.{◌≡◌, ℕ, ℤ, pos, ◌+◌, ◌*◌, ◌/◌, ◌^◌, List, [], ◌∷◌, Option, None, Some, codes, nat_lt}
use Rattle.std.specs.Prelude.{if◌then◌else◌}
use Rattle.std.specs.Duration.{as_nanos}
use Rattle.std.specs.declared.time.Duration.{Duration}
use Rattle.content_tree.specs.Values.Ranges.{NumberKind, u32, u64}
use Rattle.content_tree.specs.Errors.Cause.{Cause, custom}
use Rattle.content_de.specs.Outcomes.{Outcome, taken, refused, refusal_of}
use Rattle.content_de.specs.Requests.Numbers.{number_from}
use Rattle.content_de.specs.Accesses.ByName.{FieldsLeft, field_named, without_field}
use Rattle.content_de.specs.Reads.ByName.{missing_field, named_then, no_others}
use Rattle.content_de.specs.Reads.Read.{first_of}

-- the names of the fields
abbrev pub duration_fields : List (List ℕ)
duration_fields = codes "secs" ∷ codes "nanos" ∷ []

-- the number of this kind in the field of this name
abbrev pub number_named : NumberKind → List ℕ → FieldsLeft → Outcome ℤ
number_named k name f = elim (field_named name f) [ None ↦ refused (missing_field name) | Some s ↦ number_from k s ]

-- the seconds
abbrev pub seconds_in : FieldsLeft → Outcome ℤ
seconds_in f = number_named u64 (codes "secs") f

-- the nanoseconds
abbrev pub nanos_in : FieldsLeft → Outcome ℤ
nanos_in f = number_named u32 (codes "nanos") (without_field (codes "secs") f)

-- with the whole seconds of the nanoseconds, 64 bits don't hold the seconds
abbrev pub sum_refusal : Outcome ℤ → Outcome ℤ → Option Cause
sum_refusal (taken (pos secs)) (taken (pos nanos)) =
    if nat_lt (secs + nanos / 1_000_000_000) (2 ^ 64) then None else Some (custom (codes "overflow deserializing Duration"))
sum_refusal secs nanos = None

-- each field in turn, then another one, and then their sum
abbrev pub duration_refusal : FieldsLeft → Option Cause
duration_refusal f =
    first_of (named_then (codes "secs") (λ s. refusal_of (number_from u64 s)) (named_then (codes "nanos") (λ s. refusal_of (number_from u32 s)) (no_others duration_fields)) f)
    (sum_refusal (seconds_in f) (nanos_in f))

-- the duration is as long as both together
abbrev pub DurationGives : Duration → FieldsLeft → Type 0
DurationGives d f = (secs : ℕ) × (nanos : ℕ) × (seconds_in f ≡ taken (pos secs)) × (nanos_in f ≡ taken (pos nanos))
    × (as_nanos d ≡ secs * 1_000_000_000 + nanos)
