-- Booleans and numbers.
use Rattle.std.specs.Prelude.{Bool, List, ℕ, codes, if◌then◌else◌}
use Rattle.std.specs.Fmt.{signed_decimal}
use Rattle.content_tree.specs.Values.Ranges.{number_value}
use Rattle.content_tree.specs.declared.number.Number.{Number}

-- a boolean
abbrev pub boolean_text : Bool → List ℕ
boolean_text b = if b then codes "true" else codes "false"

-- a number in decimal digits, whatever its kind
abbrev pub number_text : Number → List ℕ
number_text n = signed_decimal (number_value n)
