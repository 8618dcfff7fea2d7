-- Two calls are equal exactly if they are the same by contents.
use Rattle.std.proofs.Common.{◌≡◌, ℕ, Bool, true, false, ◌&&◌, ◌==◌, List, Option, Some, None, refl}
use Rattle.std.proofs.Common.{ap}
use Rattle.std.specs.Bool.{Decides}
use Rattle.std.specs.Cmp.{booleans_Decides}
use mathlib.Core.Bool.{beq}
use Rattle.std.proofs.lemmas.Bool.Decides.{Decides-int_eq, Decides-eqb}
use Rattle.std.specs.Str.{bytes_eq}
use Rattle.std.proofs.lemmas.Slice.Eq.{bytes_eq-Decides}
use Rattle.content_tree.specs.Values.Text.{text_content, bytes_content}
use Rattle.content_tree.specs.declared.number.Number.{Number}
use Rattle.content_tree.specs.declared.number.Number.TheVariants as num
use Rattle.content_tree.specs.contracts.number.NumberPartialEq.TheImpl as number_eq
use Rattle.content_ser.specs.contracts.call.CallPartialEq.TheImpl as call_eq
use Rattle.content_ser.specs.Calls.Call.{event_of}
use Rattle.content_ser.specs.Calls.Event as event
use Rattle.content_ser.specs.Calls.Event.{Event}
use Rattle.content_ser.proofs.DerivedEquality.{along, place, Tests, decides}
use Rattle.content_ser.specs.contracts.call.Call as declared
use denote.Signature.{static_lft}
use denote.Enum.Declared.{Record}
use Rattle.content_ser.specs.declared.call.Call.{Call}
use Rattle.content_ser.specs.declared.call.Call.TheVariants as call

-- two parts, each decided
both : {A B : Type 0} (a b : Bool) → Decides a A → Decides b B → Decides (a && b) (A × B)
both true true p q = (λ e. (p.0 refl, q.0 refl), λ e. refl)
both true false p q = (λ e. absurd (cc e), λ e. q.1 e.1)
both false b p q = (λ e. absurd (cc e), λ e. p.1 e.0)

-- numbers, by kind and value
number_decides : (a b : Number) → Decides (number_eq.ghosts.eq a b) (a ≡ b)
number_decides (num.I8 a) (num.I8 b) = along _ (Decides-int_eq a b) (ap num.I8) (λ e. cc)
number_decides (num.U8 a) (num.U8 b) = along _ (Decides-eqb a b) (ap num.U8) (λ e. cc)
number_decides (num.I16 a) (num.I16 b) = along _ (Decides-int_eq a b) (ap num.I16) (λ e. cc)
number_decides (num.U16 a) (num.U16 b) = along _ (Decides-eqb a b) (ap num.U16) (λ e. cc)
number_decides (num.I32 a) (num.I32 b) = along _ (Decides-int_eq a b) (ap num.I32) (λ e. cc)
number_decides (num.U32 a) (num.U32 b) = along _ (Decides-eqb a b) (ap num.U32) (λ e. cc)
number_decides (num.I64 a) (num.I64 b) = along _ (Decides-int_eq a b) (ap num.I64) (λ e. cc)
number_decides (num.U64 a) (num.U64 b) = along _ (Decides-eqb a b) (ap num.U64) (λ e. cc)
number_decides (num.I128 a) (num.I128 b) = along _ (Decides-int_eq a b) (ap num.I128) (λ e. cc)
number_decides (num.U128 a) (num.U128 b) = along _ (Decides-eqb a b) (ap num.U128) (λ e. cc)
number_decides a b = (λ e. absurd (cc e), λ e. absurd (cc e))

-- names of equal bytes, and lengths
sized : (n m : List ℕ) (k l : ℕ) → Decides (bytes_eq n m && (k == l)) ((n ≡ m) × (k ≡ l))
sized n m k l = both (bytes_eq n m) (k == l) (bytes_eq-Decides n m) (Decides-eqb k l)

-- the names and the index of a variant, and what follows them
variant : {A : Type 0} (n m : List ℕ) (i j : ℕ) (b : Bool) → Decides b A → Decides (bytes_eq n m && ((i == j) && b)) ((n ≡ m) × ((i ≡ j) × A))
variant n m i j b d = both (bytes_eq n m) _ (bytes_eq-Decides n m) (both (i == j) b (Decides-eqb i j) d)

-- hints of a length
abbrev same_hint : Option ℕ → Option ℕ → Bool
same_hint None None = true
same_hint (Some k) (Some l) = k == l
same_hint k l = false

hint_decides : (k l : Option ℕ) → Decides (same_hint k l) (k ≡ l)
hint_decides None None = (λ e. refl, λ e. refl)
hint_decides (Some k) (Some l) = along _ (Decides-eqb k l) (ap Some) (λ e. cc)
hint_decides None (Some l) = (λ e. absurd (cc e), λ e. absurd (cc e))
hint_decides (Some k) None = (λ e. absurd (cc e), λ e. absurd (cc e))

-- the place of a kind of call
abbrev rank : Event → ℕ
rank (event.boolean a) = 0
rank (event.number a) = 1
rank (event.character a) = 2
rank (event.text a) = 3
rank (event.octets a) = 4
rank event.unit = 5
rank event.none = 6
rank event.some = 7
rank (event.unit_struct a) = 8
rank (event.unit_variant a b c) = 9
rank (event.newtype_struct a) = 10
rank (event.newtype_variant a b c) = 11
rank (event.seq a) = 12
rank (event.tuple a) = 13
rank (event.tuple_struct a b) = 14
rank (event.tuple_variant a b c d) = 15
rank (event.map a) = 16
rank (event.structure a b) = 17
rank (event.struct_variant a b c d) = 18
rank event.element = 19
rank event.tuple_field = 20
rank (event.field a) = 21
rank event.key = 22
rank event.value = 23
rank event.entry = 24
rank event.end = 25

abbrev enum : Record
enum = declared.enum static_lft

ranked : (a : Call) → rank (event_of a) ≡ place enum.parts (enum.as_values a)
ranked (call.Bool a) = refl
ranked (call.Number a) = refl
ranked (call.Char a) = refl
ranked (call.Str a) = refl
ranked (call.Bytes a) = refl
ranked call.Unit = refl
ranked call.NoneCall = refl
ranked call.SomeCall = refl
ranked (call.UnitStruct a) = refl
ranked (call.UnitVariant a b c) = refl
ranked (call.NewtypeStruct a) = refl
ranked (call.NewtypeVariant a b c) = refl
ranked (call.Seq a) = refl
ranked (call.Tuple a) = refl
ranked (call.TupleStruct a b) = refl
ranked (call.TupleVariant a b c d) = refl
ranked (call.Map a) = refl
ranked (call.Struct a b) = refl
ranked (call.StructVariant a b c d) = refl
ranked call.Element = refl
ranked call.TupleField = refl
ranked (call.Field a) = refl
ranked call.Key = refl
ranked call.Value = refl
ranked call.Entry = refl
ranked call.End = refl

-- the test of each kind of call, in their order
tests : Tests enum.parts (λ c. event_of (enum.make c))
tests = (
  ((λ x y. beq x.0 y.0), λ x y. along _ (booleans_Decides x.0 y.0) (ap event.boolean) (λ e. cc)),
  (
    ((λ x y. number_eq.ghosts.eq x.0 y.0), λ x y. along _ (number_decides x.0 y.0) (ap event.number) (λ e. cc)),
    (
      ((λ x y. x.0 == y.0), λ x y. along _ (Decides-eqb x.0 y.0) (ap event.character) (λ e. cc)),
      (
        ((λ x y. bytes_eq (text_content x.0) (text_content y.0)), λ x y. along _ (bytes_eq-Decides (text_content x.0) (text_content y.0)) (ap event.text) (λ e. cc)),
        (
          ((λ x y. bytes_eq (bytes_content x.0) (bytes_content y.0)), λ x y. along _ (bytes_eq-Decides (bytes_content x.0) (bytes_content y.0)) (ap event.octets) (λ e. cc)),
          (
            ((λ x y. true), λ x y. (λ e. refl, λ e. refl)),
            (
              ((λ x y. true), λ x y. (λ e. refl, λ e. refl)),
              (
                ((λ x y. true), λ x y. (λ e. refl, λ e. refl)),
                (
                  ((λ x y. bytes_eq x.0.now y.0.now), λ x y. along _ (bytes_eq-Decides x.0.now y.0.now) (ap event.unit_struct) (λ e. cc)),
                  (
                    ((λ x y. bytes_eq x.0.now y.0.now && ((x.1.0 == y.1.0) && bytes_eq x.1.1.0.now y.1.1.0.now)), λ x y. along _ (variant x.0.now y.0.now x.1.0 y.1.0 _ (bytes_eq-Decides x.1.1.0.now y.1.1.0.now)) (λ e. cc) (λ e. (cc, (cc, cc)))),
                    (
                      ((λ x y. bytes_eq x.0.now y.0.now), λ x y. along _ (bytes_eq-Decides x.0.now y.0.now) (ap event.newtype_struct) (λ e. cc)),
                      (
                        ((λ x y. bytes_eq x.0.now y.0.now && ((x.1.0 == y.1.0) && bytes_eq x.1.1.0.now y.1.1.0.now)), λ x y. along _ (variant x.0.now y.0.now x.1.0 y.1.0 _ (bytes_eq-Decides x.1.1.0.now y.1.1.0.now)) (λ e. cc) (λ e. (cc, (cc, cc)))),
                        (
                          ((λ x y. same_hint x.0 y.0), λ x y. along _ (hint_decides x.0 y.0) (ap event.seq) (λ e. cc)),
                          (
                            ((λ x y. x.0 == y.0), λ x y. along _ (Decides-eqb x.0 y.0) (ap event.tuple) (λ e. cc)),
                            (
                              ((λ x y. bytes_eq x.0.now y.0.now && (x.1.0 == y.1.0)), λ x y. along _ (sized x.0.now y.0.now x.1.0 y.1.0) (λ e. cc) (λ e. (cc, cc))),
                              (
                                ((λ x y. bytes_eq x.0.now y.0.now && ((x.1.0 == y.1.0) && (bytes_eq x.1.1.0.now y.1.1.0.now && (x.1.1.1.0 == y.1.1.1.0)))), λ x y. along _ (variant x.0.now y.0.now x.1.0 y.1.0 _ (sized x.1.1.0.now y.1.1.0.now x.1.1.1.0 y.1.1.1.0)) (λ e. cc) (λ e. (cc, (cc, (cc, cc))))),
                                (
                                  ((λ x y. same_hint x.0 y.0), λ x y. along _ (hint_decides x.0 y.0) (ap event.map) (λ e. cc)),
                                  (
                                    ((λ x y. bytes_eq x.0.now y.0.now && (x.1.0 == y.1.0)), λ x y. along _ (sized x.0.now y.0.now x.1.0 y.1.0) (λ e. cc) (λ e. (cc, cc))),
                                    (
                                      ((λ x y. bytes_eq x.0.now y.0.now && ((x.1.0 == y.1.0) && (bytes_eq x.1.1.0.now y.1.1.0.now && (x.1.1.1.0 == y.1.1.1.0)))), λ x y. along _ (variant x.0.now y.0.now x.1.0 y.1.0 _ (sized x.1.1.0.now y.1.1.0.now x.1.1.1.0 y.1.1.1.0)) (λ e. cc) (λ e. (cc, (cc, (cc, cc))))),
                                      (
                                        ((λ x y. true), λ x y. (λ e. refl, λ e. refl)),
                                        (
                                          ((λ x y. true), λ x y. (λ e. refl, λ e. refl)),
                                          (
                                            ((λ x y. bytes_eq x.0.now y.0.now), λ x y. along _ (bytes_eq-Decides x.0.now y.0.now) (ap event.field) (λ e. cc)),
                                            (
                                              ((λ x y. true), λ x y. (λ e. refl, λ e. refl)),
                                              (
                                                ((λ x y. true), λ x y. (λ e. refl, λ e. refl)),
                                                (
                                                  ((λ x y. true), λ x y. (λ e. refl, λ e. refl)),
                                                  (
                                                    ((λ x y. true), λ x y. (λ e. refl, λ e. refl)),
                                                    tt,
                                                  ),
                                                ),
                                              ),
                                            ),
                                          ),
                                        ),
                                      ),
                                    ),
                                  ),
                                ),
                              ),
                            ),
                          ),
                        ),
                      ),
                    ),
                  ),
                ),
              ),
            ),
          ),
        ),
      ),
    ),
  ),
)

-- `==` of calls decides whether they are the same by contents
pub call_decides : (a b : Call) → Decides (call_eq.ghosts.eq a b) (event_of a ≡ event_of b)
unfolding tests
call_decides a b = decides enum event_of rank ranked tests a b
