-- The order of expectations and errors: cases first, as they are listed, then contents from left to right.
use Rattle.std.specs.Prelude.{ℕ}
use Rattle.std.specs.Ordering.{nat_cmp, ordering_then}
use Rattle.std.specs.Option.{option_cmp}
use Rattle.std.specs.declared.cmp.Ordering.{Ordering}
use Rattle.content_tree.specs.Images.Found.{image_view}
use Rattle.content_tree.specs.Orders.Images.{string_cmp, image_cmp}
use Rattle.content_tree.specs.Errors.Kind.{kind_of}
use Rattle.content_tree.specs.declared.expected.DataType.{DataType}
use Rattle.content_tree.specs.declared.expected.DataType.TheVariants as kind
use Rattle.content_tree.specs.declared.expected.Expected.{Expected}
use Rattle.content_tree.specs.declared.expected.Expected.TheVariants as want
use Rattle.content_tree.specs.declared.error.ErrorKind.{ErrorKind}
use Rattle.content_tree.specs.declared.error.ErrorKind.TheVariants as error
use Rattle.content_tree.specs.declared.error.Error.{Error}

-- the place of a type among the four
abbrev pub type_rank : DataType → ℕ
type_rank kind.Unit = 0
type_rank kind.NewType = 1
type_rank kind.Tuple = 2
type_rank kind.Struct = 3

-- types go by place
abbrev pub type_cmp : DataType → DataType → Ordering
type_cmp a b = nat_cmp (type_rank a) (type_rank b)

-- the place of an expectation's case among the twenty-two
abbrev pub expected_rank : Expected → ℕ
expected_rank want.Unit = 0
expected_rank want.Bool = 1
expected_rank want.Char = 2
expected_rank want.String = 3
expected_rank want.StaticStr = 4
expected_rank want.Bytes = 5
expected_rank want.Seq = 6
expected_rank want.Map = 7
expected_rank (want.Struct n t) = 8
expected_rank (want.Enum n t) = 9
expected_rank (want.Tuple n) = 10
expected_rank want.Identifier = 11
expected_rank want.I8 = 12
expected_rank want.U8 = 13
expected_rank want.I16 = 14
expected_rank want.U16 = 15
expected_rank want.I32 = 16
expected_rank want.U32 = 17
expected_rank want.I64 = 18
expected_rank want.U64 = 19
expected_rank want.I128 = 20
expected_rank want.U128 = 21

-- by name and then type, where each is none before some; tuples by their number of elements
abbrev pub expected_cmp : Expected → Expected → Ordering
expected_cmp (want.Struct n t) (want.Struct m u) = ordering_then (option_cmp string_cmp n m) (option_cmp type_cmp t u)
expected_cmp (want.Enum n t) (want.Enum m u) = ordering_then (option_cmp string_cmp n m) (option_cmp type_cmp t u)
expected_cmp (want.Tuple n) (want.Tuple m) = nat_cmp n m
expected_cmp a b = nat_cmp (expected_rank a) (expected_rank b)

-- the place of a kind of error among the six
abbrev pub kind_rank : ErrorKind → ℕ
kind_rank (error.Unexpected f e) = 0
kind_rank (error.Custom t) = 1
kind_rank error.OutOfMemory = 2
kind_rank error.Misplaced = 3
kind_rank error.Failed = 4
kind_rank error.Unfinished = 5

-- by the image of what was found and then what was expected; custom errors by their text
abbrev pub kind_cmp : ErrorKind → ErrorKind → Ordering
kind_cmp (error.Unexpected f e) (error.Unexpected g d) = ordering_then (image_cmp (image_view f) (image_view g)) (expected_cmp e d)
kind_cmp (error.Custom a) (error.Custom b) = string_cmp a b
kind_cmp a b = nat_cmp (kind_rank a) (kind_rank b)

-- errors go by kind
abbrev pub error_cmp : Error → Error → Ordering
error_cmp a b = kind_cmp (kind_of a) (kind_of b)
