-- The ten kinds of numbers, and the range of each.
use Rattle.std.specs.Prelude.{ℤ, pos, negsuc, Bool, true, false, int_le, ◌&&◌}
use Rattle.content_tree.specs.declared.number.Number.{Number}
use Rattle.content_tree.specs.declared.number.Number.TheVariants as n

-- the kind of a number: how many bits, and whether there is a sign
pub data NumberKind : Type 0 where
  i8 : NumberKind
  u8 : NumberKind
  i16 : NumberKind
  u16 : NumberKind
  i32 : NumberKind
  u32 : NumberKind
  i64 : NumberKind
  u64 : NumberKind
  i128 : NumberKind
  u128 : NumberKind

-- the least number of a kind
abbrev pub least : NumberKind → ℤ
least i8 = negsuc 127
least i16 = negsuc 32767
least i32 = negsuc 2147483647
least i64 = negsuc 9223372036854775807
least i128 = negsuc 170141183460469231731687303715884105727
least k = pos 0

-- the greatest number of a kind
abbrev pub greatest : NumberKind → ℤ
greatest i8 = pos 127
greatest u8 = pos 255
greatest i16 = pos 32767
greatest u16 = pos 65535
greatest i32 = pos 2147483647
greatest u32 = pos 4294967295
greatest i64 = pos 9223372036854775807
greatest u64 = pos 18446744073709551615
greatest i128 = pos 170141183460469231731687303715884105727
greatest u128 = pos 340282366920938463463374607431768211455

-- this number lies in the kind's range
abbrev pub in_range : NumberKind → ℤ → Bool
in_range k z = int_le (least k) z && int_le z (greatest k)

-- the number itself, whatever its kind
abbrev pub number_value : Number → ℤ
number_value (n.I8 x) = x
number_value (n.U8 x) = pos x
number_value (n.I16 x) = x
number_value (n.U16 x) = pos x
number_value (n.I32 x) = x
number_value (n.U32 x) = pos x
number_value (n.I64 x) = x
number_value (n.U64 x) = pos x
number_value (n.I128 x) = x
number_value (n.U128 x) = pos x

-- the number is of this kind
abbrev pub is_of_kind : NumberKind → Number → Bool
is_of_kind i8 (n.I8 x) = true
is_of_kind u8 (n.U8 x) = true
is_of_kind i16 (n.I16 x) = true
is_of_kind u16 (n.U16 x) = true
is_of_kind i32 (n.I32 x) = true
is_of_kind u32 (n.U32 x) = true
is_of_kind i64 (n.I64 x) = true
is_of_kind u64 (n.U64 x) = true
is_of_kind i128 (n.I128 x) = true
is_of_kind u128 (n.U128 x) = true
is_of_kind k x = false
