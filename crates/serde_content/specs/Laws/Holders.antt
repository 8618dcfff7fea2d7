-- What holds others comes back where they do.
use Rattle.std.specs.Prelude.{◌≡◌, Bool, true, false, List, [], ◌∷◌, Option, None, Some, IfSome}
use Rattle.std.specs.Prelude.{refl}
use Rattle.std.specs.Option.{option_eq}
use Rattle.std.specs.List.{AllByRecursion}
use Rattle.std.specs.Cmp.Lexicographic.{pointwise}
use Rattle.content_tree.specs.Values.Tree as tree
use Rattle.content_tree.specs.Values.Tree.{Tree, Trees}
use Rattle.content_tree.specs.Errors.Cause.{Cause}
use Rattle.content_ser.specs.Grammar.Token as token
use Rattle.content_ser.specs.Grammar.Spells.{spells_series}
use Rattle.content_ser.specs.Scripts.Standard.{ScriptOf, option_script, items_script, seq_script}
use Rattle.content_de.specs.Sources.Origin.{Origin, of_tree, of_identifier, Flags, tree_under, under}
use Rattle.content_de.specs.Outcomes.{refusal_then, IsTaken}
use Rattle.content_de.specs.Requests.Leaves.{held_by}
use Rattle.content_de.specs.Accesses.Seq.{seq_at}
use Rattle.content_de.specs.Reads.Read.{Refusal, Gives, first_of}
use Rattle.content_de.specs.Reads.Standard.{held_refusal, HeldGives, items_refusal, ItemsGive}
use Rattle.content_de.specs.Reads.Standard.{seq_refusal, SeqGives}
use Rattle.serde_content.specs.RoundTrip.{SpellsSuch, GivesOnly, ComesBack, MayGive, CoercionKeeps}
use Rattle.serde_content.specs.RoundTrip.{flags}
use Rattle.serde_content.specs.Laws.Spelled.{RowSuch, Spelled, spelled_call, such_spelled}
use Rattle.serde_content.specs.Laws.Spelled.{leaf_such}
use Rattle.serde_content.specs.Laws.Spelled.{wrapped_such, row_end, row_more}

-- two refusals that aren't there
pub both_free : {a b : Option Cause} → a ≡ None → b ≡ None → first_of a b ≡ None
both_free e d = rw e d

-- where there is no refusal of both, there is none of the first
pub first_free : (a b : Option Cause) → first_of a b ≡ None → a ≡ None
first_free None b e = refl
first_free (Some c) b e = absurd (cc e)

-- and none of the second
pub second_free : (a b : Option Cause) → first_of a b ≡ None → b ≡ None
second_free None b e = e
second_free (Some c) b e = absurd (cc e)

-- what is seen as another value
pub seen_back : {A B : Type 0} {exists : A → Type 0} {script : ScriptOf A} {refusal : Refusal} {gives : Gives A} {eq : A → A → Bool} (see : B → A) → ComesBack exists script refusal gives eq
    → ComesBack (λ b. exists (see b)) (λ b. script (see b)) refusal (λ s b. gives s (see b)) (λ a b. eq (see a) (see b))
seen_back see back = record {
  of_value = λ b real f.
      let there = back.of_value (see b) real f in
      record { free = there.free; whole = there.whole; spelled = there.spelled; such = record { free = there.such.free; only = λ y h. there.such.only (see y) h } };
}

-- the same of what it keeps
pub seen_keeps : {A B : Type 0} {refusal : Refusal} {gives : Gives A} (see : B → A) → CoercionKeeps refusal gives → CoercionKeeps refusal (λ s b. gives s (see b))
seen_keeps see keeps = record { of_origin = λ o h b p. let there = keeps.of_origin o h (see b) (record { free = p.free; given = p.given }) in record { free = there.free; given = there.given } }

-- a value that an option holds, or none
option_such : {A : Type 0} {exists : A → Type 0} {script : ScriptOf A} {refusal : Refusal} {gives : Gives A} {eq : A → A → Bool} → ComesBack exists script refusal gives eq → (x : Option A) → IfSome x exists → (f : Flags)
    → SpellsSuch (λ t. GivesOnly (held_refusal refusal (held_by (tree_under f t))) (HeldGives gives (held_by (tree_under f t))) (λ y. option_eq eq x y ≡ true)) (option_script script x f.human_readable)
option_such {A} {exists} {script} {refusal} {gives} {eq} back None real f = leaf_such tree.absent refl (record { free = refl; only = none_only })
  where
    none_only : (y : Option A) → HeldGives gives None y → option_eq eq None y ≡ true
    none_only None h = refl
    none_only (Some y) h = absurd h
option_such {A} {exists} {script} {refusal} {gives} {eq} back (Some x) real f =
    wrapped_such token.in_some refl (λ t such. record { free = such.free; only = some_only t such }) (back.of_value x real f)
  where
    some_only : (t : Tree) → GivesOnly (refusal (tree_under f t)) (gives (tree_under f t)) (λ y. eq x y ≡ true)
        → (y : Option A) → HeldGives gives (Some (tree_under f t)) y → option_eq eq (Some x) y ≡ true
    some_only t such None h = absurd h
    some_only t such (Some y) h = such.only y h

-- an optional value
pub option_back : {A : Type 0} {exists : A → Type 0} {script : ScriptOf A} {refusal : Refusal} {gives : Gives A} {eq : A → A → Bool} → ComesBack exists script refusal gives eq
    → ComesBack (λ o. IfSome o exists) (option_script script) (λ s. held_refusal refusal (held_by s)) (λ s x. HeldGives gives (held_by s) x) (option_eq eq)
option_back back = record { of_value = λ x real f. option_such back x real f }

-- what an option may give
option_kept : {A : Type 0} {refusal : Refusal} {gives : Gives A} → CoercionKeeps refusal gives → (o : Origin) (h : Bool) (x : Option A)
    → MayGive (refusal (under (flags h false) o)) (HeldGives gives (Some (under (flags h false) o))) x
    → MayGive (refusal (under (flags h true) o)) (HeldGives gives (Some (under (flags h true) o))) x
option_kept keeps o h None p = absurd p.given
option_kept keeps o h (Some x) p = let there = keeps.of_origin o h x (record { free = p.free; given = p.given }) in record { free = there.free; given = there.given }

-- the same, whatever is read
held_kept : {A : Type 0} {refusal : Refusal} {gives : Gives A} → CoercionKeeps refusal gives → (o : Origin) (h : Bool) (x : Option A)
    → MayGive (held_refusal refusal (held_by (under (flags h false) o))) (HeldGives gives (held_by (under (flags h false) o))) x
    → MayGive (held_refusal refusal (held_by (under (flags h true) o))) (HeldGives gives (held_by (under (flags h true) o))) x
held_kept keeps (of_tree tree.absent) h x p = record { free = p.free; given = p.given }
held_kept keeps (of_tree (tree.present t)) h x p = option_kept keeps (of_tree t) h x p
held_kept keeps (of_tree t) h x p = option_kept keeps (of_tree t) h x p
held_kept keeps (of_identifier n i) h x p = option_kept keeps (of_identifier n i) h x p

-- an optional value
pub option_keeps : {A : Type 0} {refusal : Refusal} {gives : Gives A} → CoercionKeeps refusal gives → CoercionKeeps (λ s. held_refusal refusal (held_by s)) (λ s x. HeldGives gives (held_by s) x)
option_keeps keeps = record { of_origin = λ o h x p. held_kept keeps o h x p }

-- the items of a list
items_back : {A : Type 0} {exists : A → Type 0} {script : ScriptOf A} {refusal : Refusal} {gives : Gives A} {eq : A → A → Bool} → ComesBack exists script refusal gives eq → (xs : List A) → AllByRecursion exists xs → (f : Flags)
    → Spelled (RowSuch token.element (λ ts. GivesOnly (items_refusal refusal f ts) (ItemsGive gives f ts) (λ ys. pointwise eq xs ys ≡ true))) (items_script script xs f.human_readable)
items_back {A} {exists} {script} {refusal} {gives} {eq} back [] real f = row_end (record { free = refl; only = none_only })
  where
    none_only : (ys : List A) → ItemsGive gives f tree.no_trees ys → pointwise eq [] ys ≡ true
    none_only [] h = refl
    none_only (y ∷ ys) h = absurd h
items_back {A} {exists} {script} {refusal} {gives} {eq} back (x ∷ xs) real f =
    row_more refl (λ t ts one others. record { free = both_free one.free others.free; only = more_only t ts one others }) (back.of_value x real.0 f) (items_back back xs real.1 f)
  where
    more_only : (t : Tree) (ts : Trees) → GivesOnly (refusal (tree_under f t)) (gives (tree_under f t)) (λ y. eq x y ≡ true)
        → GivesOnly (items_refusal refusal f ts) (ItemsGive gives f ts) (λ ys. pointwise eq xs ys ≡ true)
        → (ys : List A) → ItemsGive gives f (tree.tree_then t ts) ys → pointwise eq (x ∷ xs) ys ≡ true
    more_only t ts one others [] h = absurd h
    more_only t ts one others (y ∷ ys) h = rw (one.only y h.0, others.only ys h.1) refl

-- a list
pub seq_back : {A : Type 0} {exists : A → Type 0} {script : ScriptOf A} {refusal : Refusal} {gives : Gives A} {eq : A → A → Bool} → ComesBack exists script refusal gives eq
    → ComesBack (AllByRecursion exists) (seq_script script) (λ s. refusal_then (seq_at s) (seq_refusal refusal)) (λ s xs. IsTaken (seq_at s) (λ l. SeqGives gives l xs)) (pointwise eq)
seq_back back = record {
  of_value = λ xs real f. such_spelled (spelled_call (λ calls rest e. (tree.seq e.0, spells_series e.1, record { free = e.2.free; only = e.2.only })) (items_back back xs real f));
}

-- the items that a sequence may give
items_keep : {A : Type 0} {refusal : Refusal} {gives : Gives A} → CoercionKeeps refusal gives → (ts : Trees) (h : Bool) (xs : List A)
    → items_refusal refusal (flags h false) ts ≡ None → ItemsGive gives (flags h false) ts xs
    → MayGive (items_refusal refusal (flags h true) ts) (ItemsGive gives (flags h true) ts) xs
items_keep keeps tree.no_trees h [] free given = record { free = refl; given = tt }
items_keep keeps tree.no_trees h (x ∷ xs) free given = absurd given
items_keep keeps (tree.tree_then t ts) h [] free given = absurd given
items_keep keeps (tree.tree_then t ts) h (x ∷ xs) free given =
    let one = keeps.of_origin (of_tree t) h x (record { free = first_free _ _ free; given = given.0 }) in
    let others = items_keep keeps ts h xs (second_free _ _ free) given.1 in
    record { free = both_free one.free others.free; given = (one.given, others.given) }

-- a sequence, whatever is read
seq_kept : {A : Type 0} {refusal : Refusal} {gives : Gives A} → CoercionKeeps refusal gives → (o : Origin) (h : Bool) (xs : List A)
    → MayGive (refusal_then (seq_at (under (flags h false) o)) (seq_refusal refusal)) (λ ys. IsTaken (seq_at (under (flags h false) o)) (λ l. SeqGives gives l ys)) xs
    → MayGive (refusal_then (seq_at (under (flags h true) o)) (seq_refusal refusal)) (λ ys. IsTaken (seq_at (under (flags h true) o)) (λ l. SeqGives gives l ys)) xs
seq_kept keeps (of_tree (tree.seq ts)) h xs p = let there = items_keep keeps ts h xs p.free p.given in record { free = there.free; given = there.given }
seq_kept keeps o h xs p = absurd p.given

-- a sequence
pub seq_keeps : {A : Type 0} {refusal : Refusal} {gives : Gives A} → CoercionKeeps refusal gives
    → CoercionKeeps (λ s. refusal_then (seq_at s) (seq_refusal refusal)) (λ s xs. IsTaken (seq_at s) (λ l. SeqGives gives l xs))
seq_keeps keeps = record { of_origin = λ o h xs p. seq_kept keeps o h xs p }
