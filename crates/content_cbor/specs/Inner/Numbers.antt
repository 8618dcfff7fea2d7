-- Numbers that are read digit by digit, up to the first that leads to none.
use Rattle.std.specs.Prelude.{ℕ, suc, zero, ◌+◌, ◌*◌, ◌/◌, Bool, true, [], ◌∷◌, Option, Some, None, Ok, nat_lt, nat_eq, if◌then◌else◌}
use Rattle.std.specs.Int.{is_in_range}
use Rattle.content_cbor.specs.declared.digits.Range.{Range}
use Rattle.content_cbor.specs.declared.decode_error.Fault.{Fault}
use Rattle.content_cbor.specs.declared.decode_error.Fault.TheVariants as fault
use Rattle.content_cbor.specs.Inner.Steps.{Reader, refused, refused_before}

-- the number without its last digits to the base 256, so many
abbrev pub leading : ℕ → ℕ → ℕ
leading zero n = n
leading (suc due) n = leading due n / 256

-- whether a number can begin so, while so many digits are due, and what is wrong where it can't
pub record Bounds : Type 0 where
  pub admits : ℕ → ℕ → Bool
  pub otherwise : Fault

-- a number as it comes
abbrev pub unbounded : Bounds
unbounded = record { admits = λ due n. true; otherwise = fault.TooWide }

-- a number from one to another
abbrev pub between : ℕ → ℕ → Fault → Bounds
between least most f = record {
  admits = λ due n. is_in_range (leading due least) (leading due most) n;
  otherwise = f;
}

-- a number of a range, if one is given
abbrev pub bounds_in : Option Range → Bounds
bounds_in None = unbounded
bounds_in (Some range) = between range.least range.most range.«fault»

-- a number with so many digits more
unfoldable pub digits_at : Bounds → ℕ → ℕ → Reader ℕ
digits_at bounds zero n bs = Ok (n, bs)
digits_at bounds (suc due) n [] = refused fault.Ended []
digits_at bounds (suc due) n (b ∷ bs) =
    if bounds.admits due (n * 256 + b) then digits_at bounds due (n * 256 + b) bs
    else refused bounds.otherwise (b ∷ bs)

-- how many bytes stand behind a first byte that says so
abbrev pub size_of : ℕ → ℕ
size_of info =
    if nat_eq info 24 then 1
    else if nat_eq info 25 then 2
    else if nat_eq info 26 then 4
    else 8

-- the number of a head, in its first byte or behind it
unfoldable pub argument_at : Bounds → ℕ → Reader ℕ
argument_at bounds info bs =
    if nat_lt info 24 then
    (if bounds.admits 0 info then Ok (info, bs) else refused_before bounds.otherwise bs)
    else digits_at bounds (size_of info) 0 bs
