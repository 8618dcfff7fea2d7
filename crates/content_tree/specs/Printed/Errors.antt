-- What expectations and errors print.
use Rattle.std.specs.Prelude.{ℕ, List, [], ◌++◌, codes, Option, Some, None, string_bytes}
use Rattle.std.specs.Fmt.{decimal}
use Rattle.std.specs.declared.alloc.Global.{Global}
use Rattle.std.specs.declared.string.String.{String}
use Rattle.content_tree.specs.Printed.Images.{printed}
use Rattle.content_tree.specs.Images.Found.{image_view}
use Rattle.content_tree.specs.declared.expected.DataType.{DataType}
use Rattle.content_tree.specs.declared.expected.DataType.TheVariants as kind
use Rattle.content_tree.specs.declared.expected.Expected.{Expected}
use Rattle.content_tree.specs.declared.expected.Expected.TheVariants as want
use Rattle.content_tree.specs.declared.error.ErrorKind.{ErrorKind}
use Rattle.content_tree.specs.declared.error.ErrorKind.TheVariants as error
use Rattle.content_tree.specs.declared.error.Error.{Error}
use Rattle.content_tree.specs.Errors.Kind.{kind_of}

-- what a struct or a variant holds, in words
abbrev pub type_text : DataType → List ℕ
type_text kind.Unit = codes "a unit"
type_text kind.NewType = codes "a newtype"
type_text kind.Tuple = codes "a tuple"
type_text kind.Struct = codes "an object-like"

-- the noun alone, or after the text of a type
abbrev pub typed : List ℕ → List ℕ → Option DataType → List ℕ
typed alone noun None = alone
typed alone noun (Some t) = type_text t ++ noun

-- a link and a name, where there is a name
abbrev pub with_name : List ℕ → Option (String Global) → List ℕ
with_name link None = []
with_name link (Some n) = link ++ string_bytes n

-- what an expectation prints
abbrev pub expected_text : Expected → List ℕ
expected_text want.Unit = codes "a unit"
expected_text want.Bool = codes "a boolean"
expected_text want.Char = codes "a single character"
expected_text want.String = codes "a string"
expected_text want.StaticStr = codes "a static string slice"
expected_text want.Bytes = codes "a byte array"
expected_text want.Seq = codes "a sequence"
expected_text want.Map = codes "a map"
expected_text (want.Struct n t) = typed (codes "a struct") (codes " struct") t ++ with_name (codes " named ") n
expected_text (want.Enum n t) = typed (codes "an enum variant") (codes " enum variant") t ++ with_name (codes " of ") n
expected_text (want.Tuple n) = codes "a tuple with " ++ (decimal n ++ codes " elements")
expected_text want.Identifier = codes "a struct field name or an enum variant"
expected_text want.I8 = codes "an 8-bit signed integer"
expected_text want.U8 = codes "an 8-bit unsigned integer"
expected_text want.I16 = codes "a 16-bit signed integer"
expected_text want.U16 = codes "a 16-bit unsigned integer"
expected_text want.I32 = codes "a 32-bit signed integer"
expected_text want.U32 = codes "a 32-bit unsigned integer"
expected_text want.I64 = codes "a 64-bit signed integer"
expected_text want.U64 = codes "a 64-bit unsigned integer"
expected_text want.I128 = codes "a 128-bit signed integer"
expected_text want.U128 = codes "a 128-bit unsigned integer"

-- what a kind of error prints
abbrev pub kind_text : ErrorKind → List ℕ
kind_text (error.Unexpected found expected) = codes "failed to deserialize; expected " ++ (expected_text expected ++ (codes ", found " ++ printed (image_view found)))
kind_text (error.Custom t) = string_bytes t
kind_text error.OutOfMemory = codes "out of memory"
kind_text error.Misplaced = codes "call out of place"
kind_text error.Failed = codes "serializer has failed"
kind_text error.Unfinished = codes "call list is unfinished"

-- what an error prints
abbrev pub error_text : Error → List ℕ
error_text e = kind_text (kind_of e)
