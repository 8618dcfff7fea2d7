-- Whole numbers that are read.
use Rattle.std.specs.Prelude.{ℕ, ◌+◌, ◌-◌, ◌*◌, Bool, false, List, [], ◌∷◌, Option, Some, None, Ok, drop}
use Rattle.std.specs.Prelude.{nat_lt, if◌then◌else◌, ◌==◌, ◌||◌}
use Rattle.std.specs.Int.{is_in_range}
use Rattle.content_tree.specs.declared.number.Number.{Number}
use Rattle.content_json.specs.Codes.{begins_with, greatest, number_of, signed}
use Rattle.content_json.specs.declared.decode_error.Fault.TheVariants as fault
use Rattle.content_json.specs.Inner.Steps.{◌>>=◌, Reader, refused}

-- whether a digit comes next
abbrev pub begins_digit : List ℕ → Bool
begins_digit [] = false
begins_digit (b ∷ bs) = is_in_range 48 57 b

-- the digit that comes next
abbrev pub digit_at : List ℕ → Option ℕ
digit_at [] = None
digit_at (b ∷ bs) = if is_in_range 48 57 b then Some (b - 48) else None

-- whether a fraction or an exponent comes next
abbrev pub begins_float : List ℕ → Bool
begins_float [] = false
begins_float (b ∷ bs) = b == 46 || (b == 101 || b == 69)

-- the number whose digits go on from this one, up to so much
unfoldable pub digits_at : ℕ → ℕ → Reader ℕ
digits_at most n [] = Ok (n, [])
digits_at most n (b ∷ bs) =
    if is_in_range 48 57 b
    then (if nat_lt most (n * 10 + (b - 48)) then refused fault.TooWide (b ∷ bs)
    else digits_at most (n * 10 + (b - 48)) bs)
    else Ok (n, b ∷ bs)

-- a size: zero, or digits without a zero at their front
unfoldable pub size_at : ℕ → Reader ℕ
size_at most bs =
    if begins_with 48 bs
    then (if begins_digit (drop 1 bs) then refused fault.LeadingZero (drop 1 bs) else Ok (0, drop 1 bs))
    else (if begins_digit bs then digits_at most 0 bs else refused fault.Unexpected bs)

-- a number after its sign
unfoldable pub number_at : Bool → Reader Number
number_at is_negative bs = size_at (greatest is_negative) bs >>= λ x.
    if begins_float x.1 then refused fault.Float x.1
    else Ok (number_of (signed is_negative x.0), x.1)
