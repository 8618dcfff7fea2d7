-- Numbers and bytes as a line writes them.
use Rattle.std.specs.Prelude.{ℕ, ◌+◌, ◌-◌, ◌*◌, ◌^◌, ◌/◌, ◌%◌, ◌==◌, Bool, cond, ◌&&◌, ◌||◌, not, nat_le}
use Rattle.std.specs.Prelude.{nat_lt, List, [], ◌∷◌, length, Option, None, Some, ℤ, pos, neg_ℤ}
use Rattle.std.specs.Prelude.{drop, slice_index}
use Rattle.std.specs.Str.{all_ascii_digits}
use Rattle.std.specs.Str.Parse.{digits_value}
use Rattle.std.specs.Option.{option_map}
use Rattle.std.specs.List.{list_all}

-- `0`, or a digit 1 to 9 followed by digits
abbrev pub is_numeral : List ℕ → Bool
is_numeral ds = all_ascii_digits ds && (nat_lt 0 (length ds) && (not (slice_index ds 0 == 48) || (length ds == 1)))

-- the number of a numeral, where it has this many bits
abbrev pub natural_of : ℕ → List ℕ → Option ℕ
natural_of bits ds = cond (is_numeral ds && nat_lt (digits_value 10 ds) (2 ^ bits)) (Some (digits_value 10 ds)) None

-- a `-` and a numeral other than `0`
abbrev pub is_negative : List ℕ → Bool
is_negative t = (slice_index t 0 == 45) && (is_numeral (drop 1 t) && not (slice_index t 1 == 48))

-- the same with a sign: a `-` only before other than 0
abbrev pub integer_of : ℕ → List ℕ → Option ℤ
integer_of bits t = cond (is_negative t) (cond (nat_le (digits_value 10 (drop 1 t)) (2 ^ bits)) (Some (neg_ℤ (pos (digits_value 10 (drop 1 t))))) None) (option_map pos (natural_of bits t))

-- `0` to `9`
abbrev pub is_low_digit : ℕ → Bool
is_low_digit b = nat_le 48 b && nat_lt b 58

-- `a` to `f`
abbrev pub is_high_digit : ℕ → Bool
is_high_digit b = nat_le 97 b && nat_lt b 103

-- `A` to `F`
abbrev pub is_capital_digit : ℕ → Bool
is_capital_digit b = nat_le 65 b && nat_lt b 71

-- a lower-case hexadecimal digit
abbrev pub is_lower_hex_digit : ℕ → Bool
is_lower_hex_digit b = is_low_digit b || is_high_digit b

-- a hexadecimal digit of either case
abbrev pub is_hex_digit : ℕ → Bool
is_hex_digit b = is_lower_hex_digit b || is_capital_digit b

-- its value
abbrev pub hex_value : ℕ → ℕ
hex_value b = cond (is_low_digit b) (b - 48) (cond (is_high_digit b) (b - 87) (cond (is_capital_digit b) (b - 55) 0))

-- pairs of lower-case hexadecimal digits
abbrev pub is_lower_hex : List ℕ → Bool
is_lower_hex t = (length t % 2 == 0) && list_all is_lower_hex_digit t

-- pairs of hexadecimal digits of either case
abbrev pub is_hex : List ℕ → Bool
is_hex t = (length t % 2 == 0) && list_all is_hex_digit t

-- the bytes that pairs of digits spell
abbrev pub unhex : List ℕ → List ℕ
unhex [] = []
unhex (high ∷ []) = []
unhex (high ∷ low ∷ rest) = (16 * hex_value high + hex_value low) ∷ unhex rest

-- the lower-case digit of a number below 16
abbrev pub hex_digit : ℕ → ℕ
hex_digit n = cond (nat_lt n 10) (48 + n) (87 + n)

-- the lower-case digits of bytes, two of each
abbrev pub hex_of : List ℕ → List ℕ
hex_of [] = []
hex_of (b ∷ bs) = hex_digit (b / 16) ∷ hex_digit (b % 16) ∷ hex_of bs
