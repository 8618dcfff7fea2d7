-- What `==` decides where it is derived.
use Rattle.std.proofs.Common.{◌≡◌, refl, ap, sym, subst, ◌∙◌, Option, None, Some, String}
use Rattle.std.proofs.Common.{Global, Ordering}
use Rattle.std.specs.Prelude.{string_bytes, option_map}
use Rattle.std.specs.Bool.{Decides}
use Rattle.std.specs.Ordering.{is_eq, ordering_then}
use Rattle.std.specs.Option.{option_cmp}
use Rattle.content_tree.proofs.Decide.{Ties, along, both, nats_tie, bytes_tie, numbers_tie}
use Rattle.content_tree.proofs.SameImage.{images_tie}
use Rattle.content_tree.proofs.DerivedOrders.{number_order, type_order, expected_order, kind_order}
use Rattle.content_tree.proofs.DerivedOrders.{error_order}
use Rattle.content_tree.specs.Images.Found.{image_view}
use Rattle.content_tree.specs.Errors.Cause.{name_view, expectation_of}
use Rattle.content_tree.specs.Errors.Cause.{cause_of, custom}
use Rattle.content_tree.specs.Errors.Kind.{kind_of}
use Rattle.content_tree.specs.Orders.Images.{string_cmp, image_cmp}
use Rattle.content_tree.specs.Orders.Errors.{type_cmp, expected_cmp, kind_cmp}
use Rattle.content_tree.specs.declared.number.Number.{Number}
use Rattle.content_tree.specs.declared.expected.DataType.{DataType}
use Rattle.content_tree.specs.declared.expected.DataType.TheVariants as kind
use Rattle.content_tree.specs.declared.expected.Expected.{Expected}
use Rattle.content_tree.specs.declared.expected.Expected.TheVariants as want
use Rattle.content_tree.specs.declared.error.ErrorKind.{ErrorKind}
use Rattle.content_tree.specs.declared.error.ErrorKind.TheVariants as error
use Rattle.content_tree.specs.declared.error.Error.{Error}
use Rattle.content_tree.specs.contracts.number.NumberPartialEq.TheImpl as number_eq
use Rattle.content_tree.specs.contracts.expected.DataTypePartialEq.TheImpl as type_eq
use Rattle.content_tree.specs.contracts.expected.ExpectedPartialEq.TheImpl as expected_eq
use Rattle.content_tree.specs.contracts.error.ErrorKindPartialEq.TheImpl as kind_eq
use Rattle.content_tree.specs.contracts.error.ErrorPartialEq.TheImpl as error_eq
use Rattle.content_tree.specs.contracts.number.NumberOrd.TheImpl.Laws as number_laws
use Rattle.content_tree.specs.contracts.expected.DataTypeOrd.TheImpl.Laws as type_laws
use Rattle.content_tree.specs.contracts.expected.ExpectedOrd.TheImpl.Laws as expected_laws
use Rattle.content_tree.specs.contracts.error.ErrorKindOrd.TheImpl.Laws as kind_laws
use Rattle.content_tree.specs.contracts.error.ErrorOrd.TheImpl.Laws as error_laws

-- numbers
pub equal_numbers : (a b : Number) → Decides ((number_eq.ghosts).eq a b) (a ≡ b)
equal_numbers a b =
    subst (λ t. Decides t (a ≡ b)) (sym (number_laws.matches_eq-law a b ∙ ap is_eq (number_order a b))) (numbers_tie a b)

-- types
types_tie : (t u : DataType) → Ties (type_cmp t u) (t ≡ u)
types_tie kind.Unit kind.Unit = (λ e. refl, λ e. refl)
types_tie kind.NewType kind.NewType = (λ e. refl, λ e. refl)
types_tie kind.Tuple kind.Tuple = (λ e. refl, λ e. refl)
types_tie kind.Struct kind.Struct = (λ e. refl, λ e. refl)
types_tie t u = (λ e. absurd (cc e), λ e. absurd (cc e))

pub equal_types : (a b : DataType) → Decides ((type_eq.ghosts).eq a b) (a ≡ b)
equal_types a b =
    subst (λ t. Decides t (a ≡ b)) (sym (type_laws.matches_eq-law a b ∙ ap is_eq (type_order a b))) (types_tie a b)

-- two optional parts: neither is there, or both are and tie
options_tie : {A B : Type 0} (f : A → A → Ordering) (v : A → B) →
    ((a b : A) → Ties (f a b) (v a ≡ v b)) → (o p : Option A) → Ties (option_cmp f o p) (option_map v o ≡ option_map v p)
options_tie f v t None None = (λ e. refl, λ e. refl)
options_tie f v t None (Some b) = (λ e. absurd (cc e), λ e. absurd (cc e))
options_tie f v t (Some a) None = (λ e. absurd (cc e), λ e. absurd (cc e))
options_tie f v t (Some a) (Some b) = along _ (t a b) (ap Some) (λ e. cc)

-- an optional type
optional_types_tie : (o p : Option DataType) → Ties (option_cmp type_cmp o p) (o ≡ p)
optional_types_tie None None = (λ e. refl, λ e. refl)
optional_types_tie None (Some b) = (λ e. absurd (cc e), λ e. absurd (cc e))
optional_types_tie (Some a) None = (λ e. absurd (cc e), λ e. absurd (cc e))
optional_types_tie (Some a) (Some b) = along _ (types_tie a b) (ap Some) (λ e. cc)

-- a name and a type
named_tie : (n m : Option (String Global)) (t u : Option DataType) →
    Ties (ordering_then (option_cmp string_cmp n m) (option_cmp type_cmp t u)) ((name_view n ≡ name_view m) × (t ≡ u))
named_tie n m t u =
    let names = options_tie string_cmp string_bytes (λ a b. bytes_tie (string_bytes a) (string_bytes b)) n m in
    both (option_cmp string_cmp n m) (option_cmp type_cmp t u) names (optional_types_tie t u)

-- expectations
expected_tie : (a b : Expected) → Ties (expected_cmp a b) (expectation_of a ≡ expectation_of b)
expected_tie want.Unit want.Unit = (λ e. refl, λ e. refl)
expected_tie want.Bool want.Bool = (λ e. refl, λ e. refl)
expected_tie want.Char want.Char = (λ e. refl, λ e. refl)
expected_tie want.String want.String = (λ e. refl, λ e. refl)
expected_tie want.StaticStr want.StaticStr = (λ e. refl, λ e. refl)
expected_tie want.Bytes want.Bytes = (λ e. refl, λ e. refl)
expected_tie want.Seq want.Seq = (λ e. refl, λ e. refl)
expected_tie want.Map want.Map = (λ e. refl, λ e. refl)
expected_tie (want.Struct n t) (want.Struct m u) = along _ (named_tie n m t u) (λ e. cc) (λ e. (cc, cc))
expected_tie (want.Enum n t) (want.Enum m u) = along _ (named_tie n m t u) (λ e. cc) (λ e. (cc, cc))
expected_tie (want.Tuple n) (want.Tuple m) = along _ (nats_tie n m) (λ e. cc) (λ e. cc)
expected_tie want.Identifier want.Identifier = (λ e. refl, λ e. refl)
expected_tie want.I8 want.I8 = (λ e. refl, λ e. refl)
expected_tie want.U8 want.U8 = (λ e. refl, λ e. refl)
expected_tie want.I16 want.I16 = (λ e. refl, λ e. refl)
expected_tie want.U16 want.U16 = (λ e. refl, λ e. refl)
expected_tie want.I32 want.I32 = (λ e. refl, λ e. refl)
expected_tie want.U32 want.U32 = (λ e. refl, λ e. refl)
expected_tie want.I64 want.I64 = (λ e. refl, λ e. refl)
expected_tie want.U64 want.U64 = (λ e. refl, λ e. refl)
expected_tie want.I128 want.I128 = (λ e. refl, λ e. refl)
expected_tie want.U128 want.U128 = (λ e. refl, λ e. refl)
expected_tie a b = (λ e. absurd (cc e), λ e. absurd (cc e))

pub equal_expected : (a b : Expected) → Decides ((expected_eq.ghosts).eq a b) (expectation_of a ≡ expectation_of b)
equal_expected a b =
    let same = expected_laws.matches_eq-law a b ∙ ap is_eq (expected_order a b) in
    subst (λ t. Decides t (expectation_of a ≡ expectation_of b)) (sym same) (expected_tie a b)

-- kinds of errors
kinds_tie : (a b : ErrorKind) → Ties (kind_cmp a b) (cause_of a ≡ cause_of b)
kinds_tie (error.Unexpected f e) (error.Unexpected g d) =
    along _ (both (image_cmp (image_view f) (image_view g)) (expected_cmp e d) (images_tie (image_view f) (image_view g)) (expected_tie e d))
    (λ p. cc) (λ p. (cc, cc))
kinds_tie (error.Custom a) (error.Custom b) = along _ (bytes_tie (string_bytes a) (string_bytes b)) (ap custom) (λ e. cc)
kinds_tie error.OutOfMemory error.OutOfMemory = (λ e. refl, λ e. refl)
kinds_tie error.Misplaced error.Misplaced = (λ e. refl, λ e. refl)
kinds_tie error.Failed error.Failed = (λ e. refl, λ e. refl)
kinds_tie error.Unfinished error.Unfinished = (λ e. refl, λ e. refl)
kinds_tie a b = (λ e. absurd (cc e), λ e. absurd (cc e))

pub equal_kinds : (a b : ErrorKind) → Decides ((kind_eq.ghosts).eq a b) (cause_of a ≡ cause_of b)
equal_kinds a b =
    let same = kind_laws.matches_eq-law a b ∙ ap is_eq (kind_order a b) in
    subst (λ t. Decides t (cause_of a ≡ cause_of b)) (sym same) (kinds_tie a b)

-- errors
pub equal_errors : (a b : Error) → Decides ((error_eq.ghosts).eq a b) (cause_of (kind_of a) ≡ cause_of (kind_of b))
equal_errors a b =
    let same = error_laws.matches_eq-law a b ∙ ap is_eq (error_order a b) in
    subst (λ t. Decides t (cause_of (kind_of a) ≡ cause_of (kind_of b))) (sym same) (kinds_tie (kind_of a) (kind_of b))
