-- What is sent by one call comes back, and keeps what it gives under coercion.
use Rattle.std.specs.Prelude.{◌≡◌, ℕ, ℤ, pos, Bool, true, false, None, Option, Some, refl, ⊤}
use Rattle.std.specs.Prelude.{nat_eq, string_bytes, ◌&&◌, ◌||◌, if◌then◌else◌}
use Rattle.std.specs.Bool.{beq}
use Rattle.std.specs.Ordering.{int_eq}
use Rattle.std.specs.String.{string_eq}
use Rattle.std.specs.Cmp.{IsEquivalence, bool_eq_equiv}
use Rattle.std.specs.declared.alloc.Global.{Global}
use Rattle.std.specs.declared.string.String.{String}
use Rattle.std.proofs.Common.{ap, subst, sym, ◌∙◌}
use Rattle.std.proofs.lemmas.Cmp.{int_eq_equiv, nat_eq_equiv, nat_list_eq_equiv}
use Rattle.content_tree.specs.Values.Ranges as kind
use Rattle.content_tree.specs.Values.Ranges.{NumberKind, in_range, is_of_kind, number_value}
use Rattle.content_tree.specs.Values.Text.{owned_text}
use Rattle.content_tree.specs.Values.Tree as tree
use Rattle.content_tree.specs.Errors.Cause.{Cause}
use Rattle.content_tree.specs.declared.number.Number.{Number}
use Rattle.content_tree.specs.declared.number.Number.TheVariants as num
use Rattle.content_tree.specs.contracts.number.NumberPartialEq.TheImpl as number_eq
use Rattle.content_tree.proofs.DerivedTies.{equal_numbers}
use Rattle.content_ser.specs.Calls.Event as event
use Rattle.content_ser.specs.Scripts.Standard.{only}
use Rattle.content_de.specs.Sources.Origin.{Origin, of_tree, Flags, tree_under, under}
use Rattle.content_de.specs.Outcomes.{Outcome, taken, refused, misfit, IsRefused, IsTaken}
use Rattle.content_de.specs.Outcomes.{refusal_of}
use Rattle.content_de.specs.Requests.Data.{or_else}
use Rattle.content_de.specs.Requests.Leaves.{bool_from, char_from, unit_from, text_from}
use Rattle.content_de.specs.Requests.Numbers.{number_from, expected_number}
use Rattle.content_de.specs.Accesses.Node.{shape_at}
use Rattle.content_de.specs.Reads.Standard.{HasContent, number_in, number_refusal}
use Rattle.serde_content.specs.RoundTrip.{ComesBack, CoercionKeeps}
use Rattle.serde_content.specs.RoundTrip.{flags}
use Rattle.serde_content.specs.Laws.Spelled.{leaf_such}

-- what is the same is equal
pub equal_to_itself : {A : Type 0} {eq : A → A → Bool} → IsEquivalence eq → (x y : A) → x ≡ y → eq x y ≡ true
equal_to_itself {A} {eq} laws x y same = subst (λ z. eq x z ≡ true) same (laws.refl x)

-- what doesn't turn on coercion
pub heedless_keeps : {A : Type 0} (refusal : Origin → Option Cause) (gives : Origin → A → Type 0) → CoercionKeeps (λ s. refusal s.origin) (λ s x. gives s.origin x)
heedless_keeps refusal gives = record { of_origin = λ o h x p. record { free = p.free; given = p.given } }

-- a boolean
pub bool_back : ComesBack (λ b. ⊤) (λ b. only (event.boolean b)) (λ s. refusal_of (bool_from s.origin)) (λ s b. bool_from s.origin ≡ taken b) beq
bool_back = record { of_value = λ x real f. leaf_such (tree.boolean x) refl (record { free = refl; only = λ y h. equal_to_itself bool_eq_equiv x y (cc) }) }

-- a character
pub char_back : ComesBack (λ c. ⊤) (λ c. only (event.character c)) (λ s. refusal_of (char_from s.origin)) (λ s c. char_from s.origin ≡ taken c) nat_eq
char_back = record { of_value = λ x real f. leaf_such (tree.character x) refl (record { free = refl; only = λ y h. equal_to_itself nat_eq_equiv x y (cc) }) }

-- the unit
pub unit_back : ComesBack (λ u. ⊤) (λ u. only event.unit) (λ s. refusal_of (unit_from s.origin)) (λ s u. unit_from s.origin ≡ taken u) (λ x y. true)
unit_back = record { of_value = λ x real f. leaf_such tree.unit refl (record { free = refl; only = λ y h. refl }) }

-- a text
pub text_back : ComesBack (λ s. ⊤) (λ (s : String Global). only (event.text (string_bytes s))) (λ s. refusal_of (text_from s.origin)) (λ s x. IsTaken (text_from s.origin) (HasContent (string_bytes x))) string_eq
text_back = record { of_value = λ x real f. leaf_such (tree.text (owned_text (string_bytes x))) refl (record { free = refl; only = λ y h. equal_to_itself nat_list_eq_equiv (string_bytes x) (string_bytes y) h }) }

-- a number that is of the kind is taken
taken_of_kind : (is inside coerces : Bool) (z : ℤ) (o : Outcome ℤ) → is ≡ true → or_else (if is || (coerces && inside) then Some z else None) o ≡ taken z
taken_of_kind true inside coerces z o e = refl
taken_of_kind false inside coerces z o e = absurd (cc e)

-- the same of a tree
number_taken : (k : NumberKind) (n : Number) (f : Flags) → is_of_kind k n ≡ true → number_from k (tree_under f (tree.number n)) ≡ taken (number_value n)
number_taken k n f is = taken_of_kind (is_of_kind k n) (in_range k (number_value n)) f.coerces (number_value n) (misfit (of_tree (tree.number n)) (expected_number k)) is

-- numbers without a sign come back as this kind
abbrev pub NaturalBack : NumberKind → (ℕ → Number) → Type 0
NaturalBack k n = ComesBack (λ x. ⊤) (λ x. only (event.number (n x))) (λ s. refusal_of (number_from k s)) (λ s x. number_from k s ≡ taken (pos x)) nat_eq

-- numbers with a sign come back as this kind
abbrev pub IntegerBack : NumberKind → (ℤ → Number) → Type 0
IntegerBack k n = ComesBack (λ x. ⊤) (λ x. only (event.number (n x))) (λ s. refusal_of (number_from k s)) (λ s x. number_from k s ≡ taken x) int_eq

-- a number without a sign
natural_back : (k : NumberKind) (n : ℕ → Number) → ((x : ℕ) → is_of_kind k (n x) ≡ true) → ((x : ℕ) → number_value (n x) ≡ pos x)
    → NaturalBack k n
natural_back k n kind value = record {
  of_value = λ x real f.
      let is = number_taken k (n x) f (kind x) in
      leaf_such (tree.number (n x)) refl (record { free = ap refusal_of is; only = λ y h. equal_to_itself nat_eq_equiv x y (let v = value x in cc) });
}

-- a number with a sign
integer_back : (k : NumberKind) (n : ℤ → Number) → ((x : ℤ) → is_of_kind k (n x) ≡ true) → ((x : ℤ) → number_value (n x) ≡ x)
    → IntegerBack k n
integer_back k n kind value = record {
  of_value = λ x real f.
      let is = number_taken k (n x) f (kind x) in
      leaf_such (tree.number (n x)) refl (record { free = ap refusal_of is; only = λ y h. equal_to_itself int_eq_equiv x y (let v = value x in cc) });
}

-- an unsigned number of 8 bits
pub u8_back : NaturalBack kind.u8 num.U8
u8_back = natural_back kind.u8 num.U8 (λ x. refl) (λ x. refl)

-- a signed number of 8 bits
pub i8_back : IntegerBack kind.i8 num.I8
i8_back = integer_back kind.i8 num.I8 (λ x. refl) (λ x. refl)

-- an unsigned number of 16 bits
pub u16_back : NaturalBack kind.u16 num.U16
u16_back = natural_back kind.u16 num.U16 (λ x. refl) (λ x. refl)

-- a signed number of 16 bits
pub i16_back : IntegerBack kind.i16 num.I16
i16_back = integer_back kind.i16 num.I16 (λ x. refl) (λ x. refl)

-- an unsigned number of 32 bits
pub u32_back : NaturalBack kind.u32 num.U32
u32_back = natural_back kind.u32 num.U32 (λ x. refl) (λ x. refl)

-- a signed number of 32 bits
pub i32_back : IntegerBack kind.i32 num.I32
i32_back = integer_back kind.i32 num.I32 (λ x. refl) (λ x. refl)

-- an unsigned number of 64 bits
pub u64_back : NaturalBack kind.u64 num.U64
u64_back = natural_back kind.u64 num.U64 (λ x. refl) (λ x. refl)

-- a signed number of 64 bits
pub i64_back : IntegerBack kind.i64 num.I64
i64_back = integer_back kind.i64 num.I64 (λ x. refl) (λ x. refl)

-- an unsigned number of 128 bits
pub u128_back : NaturalBack kind.u128 num.U128
u128_back = natural_back kind.u128 num.U128 (λ x. refl) (λ x. refl)

-- a signed number of 128 bits
pub i128_back : IntegerBack kind.i128 num.I128
i128_back = integer_back kind.i128 num.I128 (λ x. refl) (λ x. refl)

-- a number of any kind
pub number_back : ComesBack (λ n. ⊤) (λ n. only (event.number n)) (λ s. number_refusal (number_in (shape_at s))) (λ s n. number_in (shape_at s) ≡ Some n) (number_eq.ghosts).eq
number_back = record { of_value = λ x real f. leaf_such (tree.number x) refl (record { free = refl; only = λ y h. (equal_numbers x y).1 (cc) }) }

-- a number that is taken of its own kind is taken of any
taken_coerced : (is inside : Bool) (v z : ℤ) (o : Outcome ℤ) → IsRefused o
    → or_else (if is || (false && inside) then Some v else None) o ≡ taken z → or_else (if is || (true && inside) then Some v else None) o ≡ taken z
taken_coerced true inside v z o r p = p
taken_coerced false inside v z (taken y) r p = absurd r
taken_coerced false inside v z (refused c) r p = absurd (cc p)

-- what is taken as a number of some kind without coercion is taken with it
number_kept : (k : NumberKind) (h : Bool) (o : Origin) (z : ℤ) → number_from k (under (flags h false) o) ≡ taken z → number_from k (under (flags h true) o) ≡ taken z
number_kept k h (of_tree (tree.number n)) z p = taken_coerced (is_of_kind k n) (in_range k (number_value n)) (number_value n) z (misfit (of_tree (tree.number n)) (expected_number k)) tt p
number_kept k h o z p = p

-- a number of some kind
number_keeps : {A : Type 0} (k : NumberKind) (z : A → ℤ) → CoercionKeeps (λ s. refusal_of (number_from k s)) (λ s x. number_from k s ≡ taken (z x))
number_keeps k z = record { of_origin = λ o h x p. let q = number_kept k h o (z x) p.given in record { free = ap refusal_of q; given = q } }

-- a number without a sign
pub natural_keeps : (k : NumberKind) → CoercionKeeps (λ s. refusal_of (number_from k s)) (λ s x. number_from k s ≡ taken (pos x))
natural_keeps k = number_keeps k (λ x. pos x)

-- a number with a sign
pub integer_keeps : (k : NumberKind) → CoercionKeeps (λ s. refusal_of (number_from k s)) (λ s x. number_from k s ≡ taken x)
integer_keeps k = number_keeps k (λ x. x)

-- what number is read doesn't depend on coercion
same_number : (h : Bool) (o : Origin) → number_in (shape_at (under (flags h false) o)) ≡ number_in (shape_at (under (flags h true) o))
same_number h (of_tree (tree.structure n tree.no_data)) = refl
same_number h (of_tree (tree.structure n (tree.one t))) = refl
same_number h (of_tree (tree.structure n (tree.many ts))) = refl
same_number h (of_tree (tree.structure n (tree.named fs))) = refl
same_number h o = refl

-- a number of any kind
pub any_number_keeps : CoercionKeeps (λ s. number_refusal (number_in (shape_at s))) (λ s n. number_in (shape_at s) ≡ Some n)
any_number_keeps = record { of_origin = λ o h x p. let q = sym (same_number h o) ∙ p.given in record { free = ap number_refusal q; given = q } }
