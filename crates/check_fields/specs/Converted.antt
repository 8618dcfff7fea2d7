-- What types of converted are converted to, and which values are refused.
use Rattle.std.specs.Prelude.{ℕ, ℤ, List, Option, Some, None, cond, pos, int_lt, codes, string_bytes}
use Rattle.check_fields.specs.declared.converted.Percent.{Percent}
use Rattle.check_fields.specs.declared.converted.Reader.{Reader}
use Rattle.check_fields.specs.declared.converted.Urgency.{Urgency}
use Rattle.check_fields.specs.declared.converted.Urgency.TheVariants as urgency

-- a number for each
abbrev pub urgency_into : Urgency → ℕ
urgency_into urgency.Low = 0
urgency_into urgency.Usual = 1
urgency_into urgency.High = 2

-- a number of more than 100
abbrev pub percent_refusal : ℤ → Option (List ℕ)
percent_refusal n = cond (int_lt (pos 100) n) (Some (codes "more than 100")) None

-- the number
abbrev pub percent_into : Percent → ℕ
percent_into x = x.of_hundred

-- the name
abbrev pub reader_into : Reader → List ℕ
reader_into x = string_bytes x.name
