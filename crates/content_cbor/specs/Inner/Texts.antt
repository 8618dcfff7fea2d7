-- Texts that are read byte by byte, up to the first that is wrong.
use Rattle.std.specs.Prelude.{ℕ, suc, zero, ◌-◌, List, [], ◌∷◌, Option, Some, None, Ok, nat_lt, nat_eq, if◌then◌else◌}
use Rattle.std.specs.Int.{is_in_range}
use Rattle.std.specs.Str.{continuation_len}
use Rattle.std.specs.Str.Lossy.{second_byte_min, second_byte_max}
use Rattle.content_cbor.specs.declared.decode_error.Fault.TheVariants as fault
use Rattle.content_cbor.specs.declared.utf8.Lack.{Lack}
use Rattle.content_cbor.specs.Inner.Steps.{◌>>=◌, Reader, or_refused, refused}

-- so many bytes of which each is in the range of all but the first two of a character
abbrev pub tail : ℕ → Lack
tail k = record { count = k; least = 0x80; most = 0xBF }

-- what a character lacks behind its first byte, where a character begins so
abbrev pub after_first : ℕ → Option Lack
after_first b =
    if nat_lt b 0x80 then Some (tail 0)
    else if is_in_range 0xC2 0xF4 b then
    Some (record {
      count = continuation_len b;
      least = second_byte_min b;
      most = second_byte_max b;
    })
    else None

-- what is lacking behind one more byte, where it can stand there
abbrev pub after_byte : Lack → ℕ → Option Lack
after_byte lack b =
    if nat_eq lack.count 0 then after_first b
    else if is_in_range lack.least lack.most b then Some (tail (lack.count - 1))
    else None

-- that, where so many bytes are enough for it
abbrev pub within : ℕ → Option Lack → Option Lack
within n None = None
within n (Some lack) = if nat_lt n lack.count then None else Some lack

-- so many bytes of a text, behind what begins a character
unfoldable pub text_at : Lack → ℕ → Reader (List ℕ)
text_at lack zero bs = Ok ([], bs)
text_at lack (suc n) [] = refused fault.Ended []
text_at lack (suc n) (b ∷ bs) =
    or_refused fault.NotUtf8 (b ∷ bs) (within n (after_byte lack b)) >>= λ next.
    text_at next n bs >>= λ x. Ok (b ∷ x.0, x.1)
