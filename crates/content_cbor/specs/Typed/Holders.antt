-- What holds others comes back from CBOR where they do.
use Rattle.std.specs.Prelude.{◌≡◌, Bool, true, false, List, [], ◌∷◌, Option, None, Some, IfSome, refl}
use Rattle.std.specs.Option.{option_eq}
use Rattle.std.specs.List.{AllByRecursion}
use Rattle.std.specs.Cmp.Lexicographic.{pointwise}
use Rattle.std.proofs.Common.{subst, sym}
use Rattle.content_tree.specs.Values.Tree as tree
use Rattle.content_tree.specs.Values.Tree.{Tree, Trees}
use Rattle.content_ser.specs.Grammar.Token as token
use Rattle.content_ser.specs.Grammar.Spells.{spells_series}
use Rattle.content_ser.specs.Scripts.Standard.{ScriptOf, option_script, items_script, seq_script}
use Rattle.content_de.specs.Sources.Origin.{Subject}
use Rattle.content_de.specs.Outcomes.{refusal_then, IsTaken}
use Rattle.content_de.specs.Requests.Leaves.{held_by}
use Rattle.content_de.specs.Accesses.Seq.{seq_at}
use Rattle.content_de.specs.Reads.Read.{Refusal, Gives}
use Rattle.content_de.specs.Reads.Standard.{held_refusal, HeldGives, items_refusal, ItemsGive}
use Rattle.content_de.specs.Reads.Standard.{seq_refusal, SeqGives}
use Rattle.serde_content.specs.RoundTrip.{SpellsSuch, GivesOnly}
use Rattle.serde_content.specs.Laws.Holders.{both_free}
use Rattle.serde_content.specs.Laws.Spelled.{RowSuch, Spelled, spelled_call, such_spelled, leaf_such}
use Rattle.serde_content.specs.Laws.Spelled.{wrapped_such, row_end, row_more}
use Rattle.content_cbor.specs.Decoded.{read_in, flags_in}
use Rattle.content_cbor.specs.Form.{form, each_form, EachFits}
use Rattle.content_cbor.specs.Typed.Kept.{FormComesBack, FormGives, RefusesNull}

-- what stands for another value
pub seen_kept : {A B : Type 0} {exists : A → Type 0} {script : ScriptOf A} {refusal : Refusal} {gives : Gives A} {eq : A → A → Bool} (see : B → A) → FormComesBack exists script refusal gives eq
    → FormComesBack (λ b. exists (see b)) (λ b. script (see b)) refusal (λ s b. gives s (see b)) (λ a b. eq (see a) (see b))
seen_kept see kept = record {
  of_value = λ b real.
      let there = kept.of_value (see b) real in
      record { free = there.free; whole = there.whole; spelled = there.spelled; such = λ fits b. record { free = (there.such fits b).free; only = λ y h. (there.such fits b).only (see y) h } };
}

-- a form that isn't null stands for itself where an option is asked for
held_form : (b : Bool) (t : Tree) → (form t ≡ tree.absent → ⊥) → held_by (read_in b (form t)) ≡ Some (read_in b (form t))
held_form b tree.unit other = absurd (other refl)
held_form b (tree.boolean x) other = refl
held_form b (tree.number n) other = refl
held_form b (tree.character c) other = refl
held_form b (tree.text t) other = refl
held_form b (tree.octets t) other = refl
held_form b (tree.seq ts) other = refl
held_form b (tree.map ps) other = refl
held_form b tree.absent other = absurd (other refl)
held_form b (tree.present t) other = held_form b t other
held_form b (tree.structure n tree.no_data) other = absurd (other refl)
held_form b (tree.structure n (tree.one t)) other = held_form b t other
held_form b (tree.structure n (tree.many ts)) other = refl
held_form b (tree.structure n (tree.named fs)) other = refl
held_form b (tree.enumeration n i v tree.no_data) other = refl
held_form b (tree.enumeration n i v (tree.one t)) other = refl
held_form b (tree.enumeration n i v (tree.many ts)) other = refl
held_form b (tree.enumeration n i v (tree.named fs)) other = refl
held_form b (tree.tuple ts) other = refl

-- such an optional value
abbrev OptionGives : {A : Type 0} → Refusal → Gives A → (Option A → Type 0) → Option Subject → Type 0
OptionGives refusal gives such o = GivesOnly (held_refusal refusal o) (HeldGives gives o) such

-- what an option holds is read as such where its form is
some_such : {A : Type 0} (refusal : Refusal) (gives : Gives A) (eq : A → A → Bool) → RefusesNull refusal → (x : A) (b : Bool) (t : Tree)
    → GivesOnly (refusal (read_in b (form t))) (gives (read_in b (form t))) (λ y. eq x y ≡ true)
    → OptionGives refusal gives (λ y. option_eq eq (Some x) y ≡ true) (held_by (read_in b (form t)))
some_such {A} refusal gives eq never x b t one =
    subst (OptionGives refusal gives (λ y. option_eq eq (Some x) y ≡ true)) (sym (held_form b t not_null)) (record { free = one.free; only = some_only })
  where
    not_null : form t ≡ tree.absent → ⊥
    not_null is = never.of_null b (subst (λ u. refusal (read_in b u) ≡ None) is one.free)

    some_only : (y : Option A) → HeldGives gives (Some (read_in b (form t))) y → option_eq eq (Some x) y ≡ true
    some_only None h = absurd h
    some_only (Some y) h = one.only y h

-- a value that an option holds, or none
option_such : {A : Type 0} {exists : A → Type 0} {script : ScriptOf A} {refusal : Refusal} {gives : Gives A} {eq : A → A → Bool} → RefusesNull refusal → FormComesBack exists script refusal gives eq
    → (x : Option A) → IfSome x exists
    → SpellsSuch (FormGives (λ s. held_refusal refusal (held_by s)) (λ s y. HeldGives gives (held_by s) y) (λ y. option_eq eq x y ≡ true)) (option_script script x false)
option_such {A} {gives = gives} {eq = eq} never kept None real = leaf_such tree.absent refl (λ fits b. record { free = refl; only = none_only })
  where
    none_only : (y : Option A) → HeldGives gives None y → option_eq eq None y ≡ true
    none_only None h = refl
    none_only (Some y) h = absurd h
option_such {refusal = refusal} {gives = gives} {eq = eq} never kept (Some x) real = wrapped_such token.in_some refl (λ t one fits b. some_such refusal gives eq never x b t (one fits b)) (kept.of_value x real)

-- an optional value of a type that isn't read of null
pub option_kept : {A : Type 0} {exists : A → Type 0} {script : ScriptOf A} {refusal : Refusal} {gives : Gives A} {eq : A → A → Bool} → RefusesNull refusal → FormComesBack exists script refusal gives eq
    → FormComesBack (λ o. IfSome o exists) (option_script script) (λ s. held_refusal refusal (held_by s)) (λ s x. HeldGives gives (held_by s) x) (option_eq eq)
option_kept never kept = record { of_value = λ x real. option_such never kept x real }

-- the items of a list
items_kept : {A : Type 0} {exists : A → Type 0} {script : ScriptOf A} {refusal : Refusal} {gives : Gives A} {eq : A → A → Bool} → FormComesBack exists script refusal gives eq → (xs : List A) → AllByRecursion exists xs
    → Spelled (RowSuch token.element (λ ts. EachFits ts → (b : Bool) → GivesOnly (items_refusal refusal (flags_in b) (each_form ts)) (ItemsGive gives (flags_in b) (each_form ts)) (λ ys. pointwise eq xs ys ≡ true))) (items_script script xs false)
items_kept {A} {gives = gives} {eq = eq} kept [] real = row_end (λ fits b. record { free = refl; only = none_only b })
  where
    none_only : (b : Bool) (ys : List A) → ItemsGive gives (flags_in b) tree.no_trees ys → pointwise eq [] ys ≡ true
    none_only b [] h = refl
    none_only b (y ∷ ys) h = absurd h
items_kept {A} {refusal = refusal} {gives = gives} {eq = eq} kept (x ∷ xs) real =
    row_more refl (λ t ts one others fits b. record { free = both_free (one fits.0 b).free (others fits.1 b).free; only = more_only b t ts (one fits.0 b) (others fits.1 b) }) (kept.of_value x real.0) (items_kept kept xs real.1)
  where
    more_only : (b : Bool) (t : Tree) (ts : Trees) → GivesOnly (refusal (read_in b (form t))) (gives (read_in b (form t))) (λ y. eq x y ≡ true)
        → GivesOnly (items_refusal refusal (flags_in b) (each_form ts)) (ItemsGive gives (flags_in b) (each_form ts)) (λ ys. pointwise eq xs ys ≡ true)
        → (ys : List A) → ItemsGive gives (flags_in b) (tree.tree_then (form t) (each_form ts)) ys → pointwise eq (x ∷ xs) ys ≡ true
    more_only b t ts one others [] h = absurd h
    more_only b t ts one others (y ∷ ys) h = rw (one.only y h.0, others.only ys h.1) refl

-- a list
pub seq_kept : {A : Type 0} {exists : A → Type 0} {script : ScriptOf A} {refusal : Refusal} {gives : Gives A} {eq : A → A → Bool} → FormComesBack exists script refusal gives eq
    → FormComesBack (AllByRecursion exists) (seq_script script) (λ s. refusal_then (seq_at s) (seq_refusal refusal)) (λ s xs. IsTaken (seq_at s) (λ l. SeqGives gives l xs)) (pointwise eq)
seq_kept kept = record {
  of_value = λ xs real. such_spelled (spelled_call (λ calls rest e. (tree.seq e.0, spells_series e.1, λ fits b. record { free = (e.2 fits.1 b).free; only = (e.2 fits.1 b).only })) (items_kept kept xs real));
}

-- a list isn't read of null
pub seq_not_null : (refusal : Refusal) → RefusesNull (λ s. refusal_then (seq_at s) (seq_refusal refusal))
seq_not_null refusal = record { of_null = λ b e. absurd (cc e) }
