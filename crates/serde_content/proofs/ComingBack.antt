-- A value that comes back, sent and read again.
use Rattle.std.proofs.Common.{◌≡◌, Bool, true, None, Some, Result, Ok, Err, IsErrAnd, IfOk, IfErr}
use Rattle.std.proofs.Common.{refl, sym, subst, ◌∙◌, ⊎_elim}
use Rattle.content_tree.specs.Errors.Kind.{IsOutOfMemory, kind_of}
use Rattle.content_tree.specs.Errors.Cause.{cause_of, out_of_memory}
use Rattle.content_tree.specs.Values.Tree.{Tree}
use Rattle.content_tree.specs.Values.Value.{tree_of}
use Rattle.content_tree.specs.declared.error.Error.{Error}
use Rattle.content_tree.specs.declared.error.ErrorKind.{ErrorKind}
use Rattle.content_tree.specs.declared.error.ErrorKind.TheVariants as error
use Rattle.content_tree.specs.declared.value.NamedValue.{NamedValue}
use Rattle.content_ser.specs.Grammar.Spells.{SpellsWhole}
use Rattle.content_ser.specs.Scripts.Script.{Script, calls_of}
use Rattle.content_ser.specs.Scripts.Standard.{ScriptOf}
use Rattle.content_build.specs.Serializer.{Serialized}
use Rattle.content_build.proofs.Agreement.{one_tree}
use Rattle.content_de.specs.Sources.Origin.{Flags, Subject, tree_under}
use Rattle.content_de.specs.Reads.Read.{Refusal, Gives, Reads}
use Rattle.serde_content.specs.RoundTrip.{ComesBack, GivesOnly, SpellsSuch}

-- what is sent without a stop is refused for memory only
refused_for_memory : {p : Tree → Type 0} (sc : Script) (e : Error) → SpellsSuch p sc → Serialized sc (Err e) → IsOutOfMemory e
refused_for_memory sc e such s = ⊎_elim (λ memory. memory) (λ stop. let clash : Some stop.0 ≡ None = sym stop.1 ∙ such.free in absurd (cc clash)) s

-- and so is what hands that error on
pub sent_or_memory : {A : Type 0} {p : Tree → Type 0} (sc : Script) (e : Error) (r : Result A Error) → SpellsSuch p sc → Serialized sc (Err e) → IsErrAnd r (λ x. x ≡ e)
    → IfErr r (λ x. IsOutOfMemory x)
sent_or_memory sc e (Ok y) such s is = absurd is
sent_or_memory sc e (Err x) such s is = subst (λ z. IsOutOfMemory z) (sym is) (refused_for_memory sc e such s)

-- what is read of a tree that a value's calls spell
pub returned_tree : {A : Type 0} {exists : A → Type 0} {script : ScriptOf A} {refusal : Refusal} {gives : Gives A} {eq : A → A → Bool} → ComesBack exists script refusal gives eq
    → (x : A) → exists x → (f : Flags) (t : Tree) → SpellsWhole (calls_of (script x f.human_readable)) t
    → GivesOnly (refusal (tree_under f t)) (gives (tree_under f t)) (λ y. eq x y ≡ true)
returned_tree {script} {refusal} {gives} {eq} back x real f t spelled =
    let b = back.of_value x real f in
    subst (λ u. GivesOnly (refusal (tree_under f u)) (gives (tree_under f u)) (λ y. eq x y ≡ true)) (one_tree (calls_of (script x f.human_readable)) b.whole t b.spelled spelled) b.such

-- what is read of the value that a value was sent as
pub returned : {A : Type 0} {exists : A → Type 0} {script : ScriptOf A} {refusal : Refusal} {gives : Gives A} {eq : A → A → Bool} → ComesBack exists script refusal gives eq
    → (x : A) → exists x → (f : Flags) (v : NamedValue) → Serialized (script x f.human_readable) (Ok v)
    → GivesOnly (refusal (tree_under f (tree_of v))) (gives (tree_under f (tree_of v))) (λ y. eq x y ≡ true)
returned back x real f v s = returned_tree back x real f (tree_of v) s.1

-- no cause but out of memory
memory_only : (k : ErrorKind) → ((cause_of k ≡ out_of_memory → ⊥) → ⊥) → k ≡ error.OutOfMemory
memory_only (error.Unexpected found expected) h = absurd (h (λ e. absurd (cc e)))
memory_only (error.Custom text) h = absurd (h (λ e. absurd (cc e)))
memory_only error.OutOfMemory h = refl
memory_only error.Misplaced h = absurd (h (λ e. absurd (cc e)))
memory_only error.Failed h = absurd (h (λ e. absurd (cc e)))
memory_only error.Unfinished h = absurd (h (λ e. absurd (cc e)))

-- what is read where there is no refusal is such a value
pub read_such : {A : Type 0} (refusal : Refusal) (gives : Gives A) {such : A → Type 0} (s t : Subject) (r : Result A Error) → GivesOnly (refusal t) (gives t) such
    → s ≡ t → Reads (refusal s) (gives s) r → IfOk r such
read_such {A} refusal gives {such} s t r only same reads = ok r (subst (λ u. Reads (refusal u) (gives u) r) same reads)
  where
    ok : (q : Result A Error) → Reads (refusal t) (gives t) q → IfOk q such
    ok (Ok y) h = only.only y h.1
    ok (Err e) h = tt

-- what is read may be given of an equal subject
pub read_given : {A : Type 0} (refusal : Refusal) (gives : Gives A) (s t : Subject) (r : Result A Error) → s ≡ t → Reads (refusal s) (gives s) r → IfOk r (gives t)
read_given {A} refusal gives s t r same reads = ok r (subst (λ u. Reads (refusal u) (gives u) r) same reads)
  where
    ok : (q : Result A Error) → Reads (refusal t) (gives t) q → IfOk q (gives t)
    ok (Ok y) h = h.1
    ok (Err e) h = tt

-- and else out of memory
pub read_or_memory : {A : Type 0} (refusal : Refusal) (gives : Gives A) {such : A → Type 0} (s t : Subject) (r : Result A Error) → GivesOnly (refusal t) (gives t) such
    → s ≡ t → Reads (refusal s) (gives s) r → IfErr r (λ e. IsOutOfMemory e)
read_or_memory {A} refusal gives {such} s t r only same reads = err r (subst (λ u. Reads (refusal u) (gives u) r) same reads)
  where
    err : (q : Result A Error) → Reads (refusal t) (gives t) q → IfErr q (λ e. IsOutOfMemory e)
    err (Ok y) h = tt
    err (Err e) h = memory_only (kind_of e) (λ other. let clash : Some (cause_of (kind_of e)) ≡ None = sym (h other) ∙ only.free in absurd (cc clash))
