-- The heads of data items, in as few bytes as can be.
use Rattle.std.specs.Prelude.{ℕ, ◌+◌, ◌*◌, ◌^◌, List, [], ◌∷◌, nat_lt, if◌then◌else◌}
use Rattle.std.specs.Int.{to_be_bytes, w16, w32, w64}
use Rattle.content_cbor.specs.declared.heads.Major.{Major}
use Rattle.content_cbor.specs.declared.heads.Major.TheVariants as major

-- a major type's three bits
abbrev pub code : Major → ℕ
code major.Unsigned = 0
code major.Negative = 1
code major.Bytes = 2
code major.Text = 3
code major.Array = 4
code major.Map = 5
code major.Tag = 6
code major.Simple = 7

-- the first byte: the major type, and five bits of additional information
abbrev pub first_byte : Major → ℕ → ℕ
first_byte m info = 32 * code m + info

-- the head of a major type and a number: the number in the first byte, or in 1, 2, 4 or 8 after it
unfoldable pub head : Major → ℕ → List ℕ
head m n =
    if nat_lt n 24 then first_byte m n ∷ []
    else if nat_lt n (2 ^ 8) then first_byte m 24 ∷ n ∷ []
    else if nat_lt n (2 ^ 16) then first_byte m 25 ∷ to_be_bytes w16 n
    else if nat_lt n (2 ^ 32) then first_byte m 26 ∷ to_be_bytes w32 n
    else first_byte m 27 ∷ to_be_bytes w64 n
