-- Requests for numbers, and what coercion takes.
use Rattle.std.specs.Prelude.{ℕ, ℤ, pos, Bool, Option, Some, None, codes}
use Rattle.std.specs.Prelude.{◌&&◌, ◌||◌, if◌then◌else◌}
use Rattle.content_tree.specs.Values.Text.{Text}
use Rattle.content_tree.specs.Values.Tree as tree
use Rattle.content_tree.specs.Values.Ranges.{NumberKind, i8, u8, i16, u16, i32, u32, i64, u64}
use Rattle.content_tree.specs.Values.Ranges.{i128, u128, in_range, number_value, is_of_kind}
use Rattle.content_tree.specs.Errors.Cause.{Expectation, nameless, custom}
use Rattle.content_tree.specs.declared.number.Number.{Number}
use Rattle.content_tree.specs.declared.expected.Expected.TheVariants as want
use Rattle.content_de.specs.Sources.Origin.{Origin, of_tree, of_identifier, Subject}
use Rattle.content_de.specs.Outcomes.{Outcome, taken, refused, misfit}
use Rattle.content_de.specs.Requests.Data.{or_else}

-- what is expected where a number of this kind is asked for
abbrev pub expected_number : NumberKind → Expectation
expected_number i8 = nameless want.I8
expected_number u8 = nameless want.U8
expected_number i16 = nameless want.I16
expected_number u16 = nameless want.U16
expected_number i32 = nameless want.I32
expected_number u32 = nameless want.U32
expected_number i64 = nameless want.I64
expected_number u64 = nameless want.U64
expected_number i128 = nameless want.I128
expected_number u128 = nameless want.U128

-- a number of the kind is taken; under coercion also any other whose value lies in the kind's range
abbrev pub takes_number : NumberKind → Bool → Number → Bool
takes_number k coerces n = is_of_kind k n || (coerces && in_range k (number_value n))

-- the value of a number that is taken
abbrev pub number_as : NumberKind → Bool → Number → Option ℤ
number_as k coerces n = if takes_number k coerces n then Some (number_value n) else None

-- the index of an identifier is a number of 64 bits without a sign; 128 bits are refused by a text
abbrev pub index_as : NumberKind → Text → ℕ → Outcome ℤ
index_as u64 n i = taken (pos i)
index_as i128 n i = refused (custom (codes "i128 is not supported"))
index_as u128 n i = refused (custom (codes "u128 is not supported"))
index_as k n i = misfit (of_identifier n i) (expected_number k)

-- a number of this kind
abbrev pub number_at : NumberKind → Bool → Origin → Outcome ℤ
number_at k coerces (of_tree (tree.number n)) =
    or_else (number_as k coerces n) (misfit (of_tree (tree.number n)) (expected_number k))
number_at k coerces (of_identifier n i) = index_as k n i
number_at k coerces o = misfit o (expected_number k)

-- the same under the subject's own flag
abbrev pub number_from : NumberKind → Subject → Outcome ℤ
number_from k s = number_at k s.flags.coerces s.origin
