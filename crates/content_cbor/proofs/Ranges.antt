-- The ranges of the kinds of numbers.
use Rattle.std.proofs.Common.{◌≡◌, ℕ, ◌^◌, ◌<◌, ◌≤◌, ℤ, pos, negsuc, ◌&&◌, true, int_le, refl, arith}
use Rattle.std.proofs.lemmas.Bool.{and_parts, and_from, le-leb, leb-true}
use lib.Dec.{leb}
use lib.Signed.{mag}
use Rattle.content_tree.specs.Values.Ranges.{number_value}
use Rattle.content_tree.specs.declared.number.Number.{Number}
use Rattle.content_tree.specs.declared.number.Number.TheVariants as num
use Rattle.content_cbor.specs.Form.{in_own_range}

-- a number from nothing to the most
pub unsigned_in : (most n : ℕ) → n ≤ most → (int_le (pos 0) (pos n) && int_le (pos n) (pos most)) ≡ true
unsigned_in most n le = and_from (leb 0 n) (leb n most) (le-leb 0 n (omega arith)) (le-leb n most le)

-- a number of either sign
pub signed_in : (most : ℕ) (z : ℤ) → mag z ≤ most → (int_le (negsuc most) z && int_le z (pos most)) ≡ true
signed_in most (pos n) le = le-leb n most le
signed_in most (negsuc n) le = and_from (leb n most) true (le-leb n most le) refl

-- an integer of some kind
abbrev pub IsInRange : ℤ → Type 0
IsInRange (pos n) = n < 2 ^ 128
IsInRange (negsuc n) = n < 2 ^ 127

unsigned_within : (most n : ℕ) → most < 2 ^ 128 → (int_le (pos 0) (pos n) && int_le (pos n) (pos most)) ≡ true → n < 2 ^ 128
unsigned_within most n room e = let le = leb-true n most (and_parts (leb 0 n) (leb n most) e).1 in omega (arith, le, room)

signed_within : (most : ℕ) (z : ℤ) → most < 2 ^ 127 → (int_le (negsuc most) z && int_le z (pos most)) ≡ true → IsInRange z
signed_within most (pos n) room e = let le = leb-true n most e in omega (arith, le, room)
signed_within most (negsuc n) room e = let le = leb-true n most (and_parts (leb n most) true e).0 in omega (arith, le, room)

-- the range of each kind is among those of 128 bits
pub within : (n : Number) → in_own_range n ≡ true → IsInRange (number_value n)
within (num.U8 x) e = unsigned_within 255 x (omega arith) e
within (num.U16 x) e = unsigned_within 65535 x (omega arith) e
within (num.U32 x) e = unsigned_within 4294967295 x (omega arith) e
within (num.U64 x) e = unsigned_within 18446744073709551615 x (omega arith) e
within (num.U128 x) e = unsigned_within 340282366920938463463374607431768211455 x (omega arith) e
within (num.I8 x) e = signed_within 127 x (omega arith) e
within (num.I16 x) e = signed_within 32767 x (omega arith) e
within (num.I32 x) e = signed_within 2147483647 x (omega arith) e
within (num.I64 x) e = signed_within 9223372036854775807 x (omega arith) e
within (num.I128 x) e = signed_within 170141183460469231731687303715884105727 x (omega arith) e
