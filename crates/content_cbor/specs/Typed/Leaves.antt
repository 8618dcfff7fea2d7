-- What is sent by one call comes back from CBOR; numbers do, as they are read by their value.
use Rattle.std.specs.Prelude.{◌≡◌, ℕ, ℤ, pos, negsuc, ◌^◌, Bool, true, false, None, Some, refl, ⊤}
use Rattle.std.specs.Prelude.{nat_eq, nat_lt, string_bytes, ◌&&◌, ◌||◌, if◌then◌else◌}
use Rattle.std.specs.Bool.{beq}
use Rattle.std.specs.Ordering.{int_eq}
use Rattle.std.specs.String.{string_eq}
use Rattle.std.specs.Cmp.{bool_eq_equiv}
use Rattle.std.specs.declared.alloc.Global.{Global}
use Rattle.std.specs.declared.string.String.{String}
use Rattle.std.proofs.Common.{ap, sym, ◌∙◌}
use Rattle.std.proofs.lemmas.Cmp.{int_eq_equiv, nat_eq_equiv, nat_list_eq_equiv}
use Rattle.content_tree.specs.Values.Ranges as kind
use Rattle.content_tree.specs.Values.Ranges.{NumberKind, in_range, is_of_kind, number_value}
use Rattle.content_tree.specs.Values.Text.{owned_text}
use Rattle.content_tree.specs.Values.Tree as tree
use Rattle.content_tree.specs.declared.number.Number.{Number}
use Rattle.content_tree.specs.declared.number.Number.TheVariants as num
use Rattle.content_ser.specs.Calls.Event as event
use Rattle.content_ser.specs.Scripts.Standard.{only}
use Rattle.content_de.specs.Sources.Origin.{of_tree}
use Rattle.content_de.specs.Outcomes.{Outcome, taken, misfit, IsTaken, refusal_of}
use Rattle.content_de.specs.Requests.Data.{or_else}
use Rattle.content_de.specs.Requests.Leaves.{bool_from, text_from}
use Rattle.content_de.specs.Requests.Numbers.{number_from, expected_number}
use Rattle.content_de.specs.Reads.Standard.{HasContent}
use Rattle.serde_content.specs.Laws.Leaves.{equal_to_itself}
use Rattle.serde_content.specs.Laws.Spelled.{leaf_such}
use Rattle.content_cbor.specs.Codes.{number_of}
use Rattle.content_cbor.specs.Decoded.{read_in}
use Rattle.content_cbor.specs.Form.{form, in_own_range}
use Rattle.content_cbor.specs.Typed.Kept.{FormComesBack, RefusesNull}

-- a boolean
pub bool_kept : FormComesBack (λ b. ⊤) (λ b. only (event.boolean b)) (λ s. refusal_of (bool_from s.origin)) (λ s b. bool_from s.origin ≡ taken b) beq
bool_kept = record { of_value = λ x real. leaf_such (tree.boolean x) refl (λ fits b. record { free = refl; only = λ y h. equal_to_itself bool_eq_equiv x y (cc) }) }

-- a text
pub text_kept : FormComesBack (λ s. ⊤) (λ (s : String Global). only (event.text (string_bytes s))) (λ s. refusal_of (text_from s.origin)) (λ s x. IsTaken (text_from s.origin) (HasContent (string_bytes x))) string_eq
text_kept = record { of_value = λ x real. leaf_such (tree.text (owned_text (string_bytes x))) refl (λ fits b. record { free = refl; only = λ y h. equal_to_itself nat_list_eq_equiv (string_bytes x) (string_bytes y) h }) }

-- whichever kind a number gets, its value is this
either_kind : (b : Bool) (m n : Number) (z : ℤ) → number_value m ≡ z → number_value n ≡ z → number_value (if b then m else n) ≡ z
either_kind true m n z e d = e
either_kind false m n z e d = d

-- a number's form has its value
pub value_kept : (z : ℤ) → number_value (number_of z) ≡ z
value_kept (pos n) = either_kind (nat_lt n (2 ^ 64)) (num.U64 n) (num.U128 n) (pos n) refl refl
value_kept (negsuc n) = either_kind (nat_lt n (2 ^ 63)) (num.I64 (negsuc n)) (num.I128 (negsuc n)) (negsuc n) refl refl

-- what lies in the range of a kind is taken
taken_inside : (is inside : Bool) (v z : ℤ) (o : Outcome ℤ) → inside ≡ true → v ≡ z → or_else (if is || (true && inside) then Some v else None) o ≡ taken z
taken_inside true inside v z o e d = ap taken d
taken_inside false true v z o e d = ap taken d
taken_inside false false v z o e d = absurd (cc e)

-- the form of a number in the range of a kind is taken as one of that kind
form_taken : (b : Bool) (k : NumberKind) (m : Number) (z : ℤ) → number_value m ≡ z → in_range k z ≡ true → number_from k (read_in b (form (tree.number m))) ≡ taken z
form_taken b k m z e inside =
    let n = number_of (number_value m) in
    let is : number_value n ≡ z = value_kept (number_value m) ∙ e in
    taken_inside (is_of_kind k n) (in_range k (number_value n)) (number_value n) z (misfit (of_tree (tree.number n)) (expected_number k)) (ap (in_range k) is ∙ inside) is

-- numbers without a sign come back as this kind
abbrev pub NaturalKept : NumberKind → (ℕ → Number) → Type 0
NaturalKept k n = FormComesBack (λ x. ⊤) (λ x. only (event.number (n x))) (λ s. refusal_of (number_from k s)) (λ s x. number_from k s ≡ taken (pos x)) nat_eq

-- numbers with a sign come back as this kind
abbrev pub IntegerKept : NumberKind → (ℤ → Number) → Type 0
IntegerKept k n = FormComesBack (λ x. ⊤) (λ x. only (event.number (n x))) (λ s. refusal_of (number_from k s)) (λ s x. number_from k s ≡ taken x) int_eq

-- a number without a sign
natural_kept : (k : NumberKind) (n : ℕ → Number) → ((x : ℕ) → in_own_range (n x) ≡ in_range k (pos x)) → ((x : ℕ) → number_value (n x) ≡ pos x) → NaturalKept k n
natural_kept k n own value = record {
  of_value = λ x real. leaf_such (tree.number (n x)) refl (λ fits b.
      let is = form_taken b k (n x) (pos x) (value x) (sym (own x) ∙ fits) in
      record { free = ap refusal_of is; only = λ y h. equal_to_itself nat_eq_equiv x y (cc) });
}

-- a number with a sign
integer_kept : (k : NumberKind) (n : ℤ → Number) → ((x : ℤ) → in_own_range (n x) ≡ in_range k x) → ((x : ℤ) → number_value (n x) ≡ x) → IntegerKept k n
integer_kept k n own value = record {
  of_value = λ x real. leaf_such (tree.number (n x)) refl (λ fits b.
      let is = form_taken b k (n x) x (value x) (sym (own x) ∙ fits) in
      record { free = ap refusal_of is; only = λ y h. equal_to_itself int_eq_equiv x y (cc) });
}

-- an unsigned number of 8 bits
pub u8_kept : NaturalKept kind.u8 num.U8
u8_kept = natural_kept kind.u8 num.U8 (λ x. refl) (λ x. refl)

-- a signed number of 8 bits
pub i8_kept : IntegerKept kind.i8 num.I8
i8_kept = integer_kept kind.i8 num.I8 (λ x. refl) (λ x. refl)

-- an unsigned number of 16 bits
pub u16_kept : NaturalKept kind.u16 num.U16
u16_kept = natural_kept kind.u16 num.U16 (λ x. refl) (λ x. refl)

-- a signed number of 16 bits
pub i16_kept : IntegerKept kind.i16 num.I16
i16_kept = integer_kept kind.i16 num.I16 (λ x. refl) (λ x. refl)

-- an unsigned number of 32 bits
pub u32_kept : NaturalKept kind.u32 num.U32
u32_kept = natural_kept kind.u32 num.U32 (λ x. refl) (λ x. refl)

-- a signed number of 32 bits
pub i32_kept : IntegerKept kind.i32 num.I32
i32_kept = integer_kept kind.i32 num.I32 (λ x. refl) (λ x. refl)

-- an unsigned number of 64 bits
pub u64_kept : NaturalKept kind.u64 num.U64
u64_kept = natural_kept kind.u64 num.U64 (λ x. refl) (λ x. refl)

-- a signed number of 64 bits
pub i64_kept : IntegerKept kind.i64 num.I64
i64_kept = integer_kept kind.i64 num.I64 (λ x. refl) (λ x. refl)

-- an unsigned number of 128 bits
pub u128_kept : NaturalKept kind.u128 num.U128
u128_kept = natural_kept kind.u128 num.U128 (λ x. refl) (λ x. refl)

-- a signed number of 128 bits
pub i128_kept : IntegerKept kind.i128 num.I128
i128_kept = integer_kept kind.i128 num.I128 (λ x. refl) (λ x. refl)

-- a number isn't read of null
pub number_not_null : (k : NumberKind) → RefusesNull (λ s. refusal_of (number_from k s))
number_not_null k = record { of_null = λ b e. absurd (cc e) }

-- nor a boolean
pub bool_not_null : RefusesNull (λ s. refusal_of (bool_from s.origin))
bool_not_null = record { of_null = λ b e. absurd (cc e) }

-- nor a text
pub text_not_null : RefusesNull (λ s. refusal_of (text_from s.origin))
text_not_null = record { of_null = λ b e. absurd (cc e) }
