-- What `cmp` answers where it is derived, in the words of the orders. The law `matches_eq` says the same of `==`.
use Rattle.std.proofs.Common.{◌≡◌, refl, ap, Option, None, Some, String, Global}
use Rattle.std.specs.Ordering.{ordering_then}
use Rattle.std.specs.Option.{option_cmp}
use Rattle.content_tree.specs.Images.Found.{image_view}
use Rattle.content_tree.specs.Orders.Trees.{number_cmp}
use Rattle.content_tree.specs.Orders.Images.{string_cmp, image_cmp}
use Rattle.content_tree.specs.Orders.Errors.{type_cmp, expected_cmp, kind_cmp, error_cmp}
use Rattle.content_tree.specs.declared.number.Number.{Number}
use Rattle.content_tree.specs.declared.number.Number.TheVariants as num
use Rattle.content_tree.specs.declared.expected.DataType.{DataType}
use Rattle.content_tree.specs.declared.expected.DataType.TheVariants as kind
use Rattle.content_tree.specs.declared.expected.Expected.{Expected}
use Rattle.content_tree.specs.declared.expected.Expected.TheVariants as want
use Rattle.content_tree.specs.declared.error.ErrorKind.{ErrorKind}
use Rattle.content_tree.specs.declared.error.ErrorKind.TheVariants as error
use Rattle.content_tree.specs.declared.error.Error.{Error}
use Rattle.content_tree.specs.contracts.number.NumberOrd.TheImpl as number_ord
use Rattle.content_tree.specs.contracts.expected.DataTypeOrd.TheImpl as type_ord
use Rattle.content_tree.specs.contracts.expected.ExpectedOrd.TheImpl as expected_ord
use Rattle.content_tree.specs.contracts.error.ErrorKindOrd.TheImpl as kind_ord
use Rattle.content_tree.specs.contracts.error.ErrorOrd.TheImpl as error_ord

-- what structs and variants hold
pub type_order : (a b : DataType) → (type_ord.ghosts).cmp a b ≡ type_cmp a b
type_order kind.Unit kind.Unit = refl
type_order kind.NewType kind.NewType = refl
type_order kind.Tuple kind.Tuple = refl
type_order kind.Struct kind.Struct = refl
type_order a b = refl

-- numbers
pub number_order : (a b : Number) → (number_ord.ghosts).cmp a b ≡ number_cmp a b
number_order (num.I8 a) (num.I8 b) = refl
number_order (num.U8 a) (num.U8 b) = refl
number_order (num.I16 a) (num.I16 b) = refl
number_order (num.U16 a) (num.U16 b) = refl
number_order (num.I32 a) (num.I32 b) = refl
number_order (num.U32 a) (num.U32 b) = refl
number_order (num.I64 a) (num.I64 b) = refl
number_order (num.U64 a) (num.U64 b) = refl
number_order (num.I128 a) (num.I128 b) = refl
number_order (num.U128 a) (num.U128 b) = refl
number_order a b = refl

-- what a struct or a variant may hold
types_order : (a b : Option DataType) → option_cmp (type_ord.ghosts).cmp a b ≡ option_cmp type_cmp a b
types_order None None = refl
types_order None (Some u) = refl
types_order (Some t) None = refl
types_order (Some t) (Some u) = type_order t u

-- a name and a type
named : (n m : Option (String Global)) (t u : Option DataType) →
    ordering_then (option_cmp string_cmp n m) (option_cmp (type_ord.ghosts).cmp t u)
    ≡ ordering_then (option_cmp string_cmp n m) (option_cmp type_cmp t u)
named n m t u = ap (ordering_then (option_cmp string_cmp n m)) (types_order t u)

-- expectations
pub expected_order : (a b : Expected) → (expected_ord.ghosts).cmp a b ≡ expected_cmp a b
expected_order want.Unit want.Unit = refl
expected_order want.Bool want.Bool = refl
expected_order want.Char want.Char = refl
expected_order want.String want.String = refl
expected_order want.StaticStr want.StaticStr = refl
expected_order want.Bytes want.Bytes = refl
expected_order want.Seq want.Seq = refl
expected_order want.Map want.Map = refl
expected_order (want.Struct n t) (want.Struct m u) = named n m t u
expected_order (want.Enum n t) (want.Enum m u) = named n m t u
expected_order (want.Tuple n) (want.Tuple m) = refl
expected_order want.Identifier want.Identifier = refl
expected_order want.I8 want.I8 = refl
expected_order want.U8 want.U8 = refl
expected_order want.I16 want.I16 = refl
expected_order want.U16 want.U16 = refl
expected_order want.I32 want.I32 = refl
expected_order want.U32 want.U32 = refl
expected_order want.I64 want.I64 = refl
expected_order want.U64 want.U64 = refl
expected_order want.I128 want.I128 = refl
expected_order want.U128 want.U128 = refl
expected_order a b = refl

-- kinds of errors
pub kind_order : (a b : ErrorKind) → (kind_ord.ghosts).cmp a b ≡ kind_cmp a b
kind_order (error.Unexpected f e) (error.Unexpected g d) =
    ap (ordering_then (image_cmp (image_view f) (image_view g))) (expected_order e d)
kind_order (error.Custom a) (error.Custom b) = refl
kind_order error.OutOfMemory error.OutOfMemory = refl
kind_order error.Misplaced error.Misplaced = refl
kind_order error.Failed error.Failed = refl
kind_order error.Unfinished error.Unfinished = refl
kind_order a b = refl

-- errors
pub error_order : (a b : Error) → (error_ord.ghosts).cmp a b ≡ error_cmp a b
error_order a b = kind_order a.kind b.kind
