-- Ranked trees, with one shape of node: a label and children. Their order is total, and that of trees and images is theirs.
use Rattle.std.specs.Prelude.{◌≡◌, ℕ, ℤ, List, refl}
use Rattle.std.proofs.Common.{sym, Less, Equal, Greater, Ordering, nat_cmp}
use Rattle.std.specs.Ordering.{ordering_reverse, ordering_then, int_cmp, then_cmp, on}
use Rattle.std.specs.Cmp.{IsTotalOrder, nat_cmp_total, int_cmp_total, then_total, on_total}
use Rattle.std.specs.Cmp.{alike_right}
use Rattle.std.specs.Cmp.Lexicographic.{slice_cmp, nat_list_cmp_total}

-- the place of the case, a place within it, a signed number, and bytes or an unsigned number
abbrev pub Label : Type 0
Label = ℕ × ℕ × ℤ × List ℕ

-- labels go part by part
abbrev pub label_cmp : Label → Label → Ordering
label_cmp =
    then_cmp (on (λ l. l.0) nat_cmp) (then_cmp (on (λ l. l.1) nat_cmp)
    (then_cmp (on (λ l. l.2) int_cmp) (on (λ l. l.3) (slice_cmp nat_cmp))))

mutual
  -- a label and children
  pub data Ranked : Type 0 where
    ranked : Label → Children → Ranked

  -- ranked trees, in order
  pub data Children : Type 0 where
    no_children : Children
    child_then : Ranked → Children → Children

-- the label, then the children from left to right, a proper beginning first
abbrev mutual
  pub ranked_cmp : Ranked → Ranked → Ordering
  ranked_cmp (ranked l rs) (ranked m ss) = ordering_then (label_cmp l m) (children_cmp rs ss)

  -- from left to right, a proper beginning first
  pub children_cmp : Children → Children → Ordering
  children_cmp no_children no_children = Equal
  children_cmp no_children (child_then s ss) = Less
  children_cmp (child_then r rs) no_children = Greater
  children_cmp (child_then r rs) (child_then s ss) = ordering_then (ranked_cmp r s) (children_cmp rs ss)

-- nothing after it
pub then_equal : (a : Ordering) → ordering_then a Equal ≡ a
then_equal Less = refl
then_equal Equal = refl
then_equal Greater = refl

-- one after another
pub then_assoc : (a b c : Ordering) → ordering_then (ordering_then a b) c ≡ ordering_then a (ordering_then b c)
then_assoc Less b c = refl
then_assoc Equal b c = refl
then_assoc Greater b c = refl

-- the other way round
then_reverse : (a b : Ordering) → ordering_reverse (ordering_then a b) ≡ ordering_then (ordering_reverse a) (ordering_reverse b)
then_reverse Less b = refl
then_reverse Equal b = refl
then_reverse Greater b = refl

-- labels are ordered
label_total : IsTotalOrder label_cmp
label_total =
    then_total (on_total (λ (l : Label). l.0) nat_cmp_total)
    (then_total (on_total (λ (l : Label). l.1) nat_cmp_total)
    (then_total (on_total (λ (l : Label). l.2) int_cmp_total) (on_total (λ (l : Label). l.3) nat_list_cmp_total)))

-- what three comparisons of a total order keep to
abbrev Triple : Ordering → Ordering → Ordering → Type 0
Triple a b c = (a ≡ Less → b ≡ Less → c ≡ Less) × (a ≡ Equal → c ≡ b) × (b ≡ Equal → c ≡ a)

-- the same of one comparison and then another
chained : (a a' a'' b b' b'' : Ordering) → Triple a a' a'' → Triple b b' b'' →
    Triple (ordering_then a b) (ordering_then a' b') (ordering_then a'' b'')
chained Less Less a'' b b' b'' p q = rw (p.0 refl refl) (λ e f. refl, λ e. absurd (cc e), λ e. absurd (cc e))
chained Less Equal a'' b b' b'' p q = rw (p.2 refl) (λ e f. refl, λ e. absurd (cc e), λ e. refl)
chained Less Greater a'' b b' b'' p q = (λ e f. absurd (cc f), λ e. absurd (cc e), λ e. absurd (cc e))
chained Equal Less a'' b b' b'' p q = rw (p.1 refl) (λ e f. refl, λ e. refl, λ e. absurd (cc e))
chained Equal Equal a'' b b' b'' p q = rw (p.1 refl) q
chained Equal Greater a'' b b' b'' p q = rw (p.1 refl) (λ e f. absurd (cc f), λ e. refl, λ e. absurd (cc e))
chained Greater Less a'' b b' b'' p q = (λ e f. absurd (cc e), λ e. absurd (cc e), λ e. absurd (cc e))
chained Greater Equal a'' b b' b'' p q = rw (p.2 refl) (λ e f. absurd (cc e), λ e. absurd (cc e), λ e. refl)
chained Greater Greater a'' b b' b'' p q = (λ e f. absurd (cc e), λ e. absurd (cc e), λ e. absurd (cc e))

-- three labels
label_triple : (x y z : Label) → Triple (label_cmp x y) (label_cmp y z) (label_cmp x z)
label_triple x y z = (label_total.trans x y z, label_total.congr x y z, λ e. sym (alike_right label_total y z x e))

-- ranked trees the other way round
mutual
  turned : (x y : Ranked) → ranked_cmp x y ≡ ordering_reverse (ranked_cmp y x)
  turned (ranked l rs) (ranked m ss) =
      rw (label_total.antisymm l m, turned_each rs ss) (sym (then_reverse (label_cmp m l) (children_cmp ss rs)))

  turned_each : (rs ss : Children) → children_cmp rs ss ≡ ordering_reverse (children_cmp ss rs)
  turned_each no_children no_children = refl
  turned_each no_children (child_then s ss) = refl
  turned_each (child_then r rs) no_children = refl
  turned_each (child_then r rs) (child_then s ss) =
      rw (turned r s, turned_each rs ss) (sym (then_reverse (ranked_cmp s r) (children_cmp ss rs)))

-- three ranked trees
mutual
  triple : (x y z : Ranked) → Triple (ranked_cmp x y) (ranked_cmp y z) (ranked_cmp x z)
  triple (ranked l rs) (ranked m ss) (ranked n ts) = chained _ _ _ _ _ _ (label_triple l m n) (triple_each rs ss ts)

  triple_each : (rs ss ts : Children) → Triple (children_cmp rs ss) (children_cmp ss ts) (children_cmp rs ts)
  triple_each no_children no_children no_children = (λ e f. absurd (cc e), λ e. refl, λ e. refl)
  triple_each no_children no_children (child_then t ts) = (λ e f. refl, λ e. refl, λ e. absurd (cc e))
  triple_each no_children (child_then s ss) no_children = (λ e f. absurd (cc f), λ e. absurd (cc e), λ e. absurd (cc e))
  triple_each no_children (child_then s ss) (child_then t ts) = (λ e f. refl, λ e. absurd (cc e), λ e. refl)
  triple_each (child_then r rs) no_children no_children = (λ e f. absurd (cc e), λ e. absurd (cc e), λ e. refl)
  triple_each (child_then r rs) no_children (child_then t ts) = (λ e f. absurd (cc e), λ e. absurd (cc e), λ e. absurd (cc e))
  triple_each (child_then r rs) (child_then s ss) no_children = (λ e f. absurd (cc f), λ e. refl, λ e. absurd (cc e))
  triple_each (child_then r rs) (child_then s ss) (child_then t ts) = chained _ _ _ _ _ _ (triple r s t) (triple_each rs ss ts)

-- the order of ranked trees is total
pub ranked_total : IsTotalOrder ranked_cmp
ranked_total = record {
  antisymm = turned;
  trans = λ x y z. (triple x y z).0;
  congr = λ x y z. (triple x y z).1;
}
