-- When two parts are compared and neither is less: what that decides.
use Rattle.std.proofs.Common.{◌≡◌, ℕ, Bool, true, false, List, refl, ap, subst, Ordering, Less}
use Rattle.std.proofs.Common.{Equal, Greater, nat_cmp}
use Rattle.std.specs.Bool.{Decides}
use Rattle.std.specs.Ordering.{is_eq, bool_cmp, ordering_then}
use Rattle.std.specs.Cmp.{unsigned_ties}
use Rattle.std.specs.Cmp.Lexicographic.{slice_cmp, texts_ties}
use Rattle.std.proofs.lemmas.Bool.Decides.{Decides-int_eq, Decides-eqb}
use Rattle.std.proofs.lemmas.Slice.Eq.{bytes_eq-Decides}
use Rattle.content_tree.specs.Values.Text.{Text, to_owned, owned_text}
use Rattle.content_tree.specs.Orders.Trees.{text_cmp, number_cmp}
use Rattle.content_tree.specs.declared.number.Number.{Number}
use Rattle.content_tree.specs.declared.number.Number.TheVariants as num

-- the comparison finds neither less exactly if A holds
abbrev pub Ties : Ordering → Type 0 → Type 0
Ties o A = Decides (is_eq o) A

-- the same comparison of another fact
pub along : {A C : Type 0} (o : Ordering) → Ties o A → (A → C) → (C → A) → Ties o C
along o d make back = (λ e. make (d.0 e), λ e. d.1 (back e))

-- one comparison, and then another
pub both : {A B : Type 0} (a b : Ordering) → Ties a A → Ties b B → Ties (ordering_then a b) (A × B)
both Less b p q = (λ e. absurd (cc e), λ e. p.1 e.0)
both Equal b p q = (λ e. (p.0 refl, q.0 e), λ e. q.1 e.1)
both Greater b p q = (λ e. absurd (cc e), λ e. p.1 e.0)

-- numbers without sign
pub nats_tie : (a b : ℕ) → Ties (nat_cmp a b) (a ≡ b)
nats_tie a b = subst (λ t. Decides t (a ≡ b)) (unsigned_ties a b) (Decides-eqb a b)

-- bytes
pub bytes_tie : (a b : List ℕ) → Ties (slice_cmp nat_cmp a b) (a ≡ b)
bytes_tie a b = subst (λ t. Decides t (a ≡ b)) (texts_ties a b) (bytes_eq-Decides a b)

-- booleans
pub bools_tie : (a b : Bool) → Ties (bool_cmp a b) (a ≡ b)
bools_tie true true = (λ e. refl, λ e. refl)
bools_tie true false = (λ e. absurd (cc e), λ e. absurd (cc e))
bools_tie false true = (λ e. absurd (cc e), λ e. absurd (cc e))
bools_tie false false = (λ e. refl, λ e. refl)

-- texts, with the marks taken off
pub texts_tie : (a b : Text) → Ties (text_cmp a b) (to_owned a ≡ to_owned b)
texts_tie a b = along _ (bytes_tie a.content b.content) (ap owned_text) (λ e. ap (λ t. t.content) e)

-- numbers of every kind
pub numbers_tie : (a b : Number) → Ties (number_cmp a b) (a ≡ b)
numbers_tie (num.I8 a) (num.I8 b) = along _ (Decides-int_eq a b) (ap num.I8) (λ e. cc)
numbers_tie (num.U8 a) (num.U8 b) = along _ (nats_tie a b) (ap num.U8) (λ e. cc)
numbers_tie (num.I16 a) (num.I16 b) = along _ (Decides-int_eq a b) (ap num.I16) (λ e. cc)
numbers_tie (num.U16 a) (num.U16 b) = along _ (nats_tie a b) (ap num.U16) (λ e. cc)
numbers_tie (num.I32 a) (num.I32 b) = along _ (Decides-int_eq a b) (ap num.I32) (λ e. cc)
numbers_tie (num.U32 a) (num.U32 b) = along _ (nats_tie a b) (ap num.U32) (λ e. cc)
numbers_tie (num.I64 a) (num.I64 b) = along _ (Decides-int_eq a b) (ap num.I64) (λ e. cc)
numbers_tie (num.U64 a) (num.U64 b) = along _ (nats_tie a b) (ap num.U64) (λ e. cc)
numbers_tie (num.I128 a) (num.I128 b) = along _ (Decides-int_eq a b) (ap num.I128) (λ e. cc)
numbers_tie (num.U128 a) (num.U128 b) = along _ (nats_tie a b) (ap num.U128) (λ e. cc)
numbers_tie a b = (λ e. absurd (cc e), λ e. absurd (cc e))
