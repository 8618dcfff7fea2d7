-- Texts in quotes that are read.
use Rattle.std.specs.Prelude.{ℕ, zero, suc, ◌+◌, ◌-◌, ◌*◌, ◌<◌, ◌≤◌, Bool, true, false, List, [], ◌∷◌, ◌++◌, Option, Some, None, Ok, Err, Result}
use Rattle.std.specs.Option.{option_map_or}
use Rattle.std.specs.Prelude.{nat_lt, nat_le, if◌then◌else◌, ◌==◌, ◌&&◌, not, encode_utf8, take, drop, length, unwrap_or}
use Rattle.std.specs.Int.{is_in_range}
use Rattle.std.specs.List.{position}
use Rattle.std.specs.Str.{continuation_len, is_utf8}
use Rattle.std.specs.Str.Lossy.{second_byte_min, second_byte_max}
use Rattle.content_tree.specs.Values.Text.{Text, owned_text, static_name}
use Rattle.content_json.specs.Codes.{begins_with, hex_value, short_escape}
use Rattle.content_json.specs.declared.decode_error.Fault.{Fault}
use Rattle.content_json.specs.declared.decode_error.Fault.TheVariants as fault
use Rattle.content_json.specs.declared.stop.Refusal.{Refusal}
use Rattle.content_json.specs.declared.utf8.Lack.{Lack}
use Rattle.content_json.specs.Strings.{has_escape}
use Rattle.content_json.specs.Inner.Steps.{◌>>=◌, Reader, or_refused, refused, refusal_at}

-- so many bytes of which each is in the range of all but the first two of a character
abbrev pub tail : ℕ → Lack
tail k = record { count = k; least = 0x80; most = 0xBF }

-- what a character lacks after its first byte, where a character begins so
abbrev pub after_first : ℕ → Option Lack
after_first b =
    if nat_lt b 0x80 then Some (tail 0)
    else if is_in_range 0xC2 0xF4 b then
    Some (record {
      count = continuation_len b;
      least = second_byte_min b;
      most = second_byte_max b;
    })
    else None

-- what is lacking after one more byte, where it can come there
abbrev pub after_byte : Lack → ℕ → Option Lack
after_byte lack b =
    if lack.count == 0 then after_first b
    else if is_in_range lack.least lack.most b then Some (tail (lack.count - 1))
    else None

-- where bytes stop being UTF-8, after what begins a character
unfoldable pub wrong_at : Lack → List ℕ → Refusal
wrong_at lack [] = refusal_at fault.NotUtf8 []
wrong_at lack (b ∷ bs) =
    option_map_or (λ next. wrong_at next bs) (after_byte lack b) (refusal_at fault.NotUtf8 (b ∷ bs))

-- how many bytes come before a quote, an escape or a control character
abbrev pub run_length : List ℕ → ℕ
run_length bs = unwrap_or (position has_escape bs) (length bs)

-- the characters before a quote, an escape or a control character
unfoldable pub run_at : Reader (List ℕ)
run_at bs =
    if is_utf8 (take (run_length bs) bs) then Ok (take (run_length bs) bs, drop (run_length bs) bs)
    else Err (wrong_at (tail 0) bs)

-- a hexadecimal digit
unfoldable pub hex_at : Reader ℕ
hex_at [] = refused fault.Escape []
hex_at (b ∷ bs) = or_refused fault.Escape (b ∷ bs) (hex_value b) >>= λ d. Ok (d, bs)

-- whether a first digit suits: the second half of a pair begins with d
abbrev pub bad_first : Bool → ℕ → Bool
bad_first is_second a = is_second && not (a == 13)

-- whether a second digit suits: after a d a second half goes on with c to f, and nothing else does
abbrev pub bad_second : Bool → ℕ → ℕ → Bool
bad_second is_second a b = a == 13 && (if nat_le 12 b then not is_second else is_second)

-- what four digits are: the second half of a surrogate pair, or any other unit
abbrev pub IsUnit : Bool → ℕ → Type 0
IsUnit true u = (0xDC00 ≤ u) × (u < 0xE000)
IsUnit false u = (u < 0x1_0000) × (u < 0xE000 → u < 0xDC00)

-- four digits: of the second half of a surrogate pair, or of any other unit
unfoldable pub unit_at : Bool → Reader ℕ
unit_at is_second bs = hex_at bs >>= λ a.
    if bad_first is_second a.0 then refused fault.Surrogate bs else hex_at a.1 >>= λ b.
    if bad_second is_second a.0 b.0 then refused fault.Surrogate a.1 else hex_at b.1 >>= λ c.
    hex_at c.1 >>= λ d. Ok (a.0 * 4096 + b.0 * 256 + c.0 * 16 + d.0, d.1)

-- this byte
unfoldable pub byte_at : Fault → ℕ → List ℕ → Result (List ℕ) Refusal
byte_at f due [] = refused f []
byte_at f due (b ∷ bs) = if b == due then Ok bs else refused f (b ∷ bs)

-- a character by its digits, in one unit or two
unfoldable pub unicode_at : Reader ℕ
unicode_at bs = unit_at false bs >>= λ u.
    if is_in_range 0xD800 0xDBFF u.0
    then (byte_at fault.Surrogate 92 u.1 >>= λ behind. byte_at fault.Surrogate 117 behind >>= λ digits.
    unit_at true digits >>= λ v. Ok (0x10000 + ((u.0 - 0xD800) * 1024 + (v.0 - 0xDC00)), v.1))
    else Ok (u.0, u.1)

-- an escape after its backslash
unfoldable pub escape_at : Reader ℕ
escape_at [] = refused fault.Escape []
escape_at (b ∷ bs) =
    if b == 117 then unicode_at bs
    else or_refused fault.Escape (b ∷ bs) (short_escape b) >>= λ c. Ok (c, bs)

-- the characters up to a quote, after some, with no more than so many escapes
unfoldable pub rest_at : ℕ → List ℕ → Reader (List ℕ)
rest_at zero done bs = refused fault.Ended []
rest_at (suc k) done bs =
    if begins_with 34 bs then Ok (done, drop 1 bs)
    else if begins_with 92 bs
    then (escape_at (drop 1 bs) >>= λ c. run_at c.1 >>= λ r. rest_at k ((done ++ encode_utf8 c.0) ++ r.0) r.1)
    else refused fault.Control bs

-- a text after its quote: borrowed if it has no escape, else owned
unfoldable pub string_at : Reader Text
string_at bs = run_at bs >>= λ r.
    if begins_with 34 r.1 then Ok (static_name r.0, drop 1 r.1)
    else rest_at (length r.1) r.0 r.1 >>= λ x. Ok (owned_text x.0, x.1)
