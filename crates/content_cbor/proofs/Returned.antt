-- What is read of what CBOR keeps of a value that comes back.
use Rattle.std.proofs.Common.{arith, ◌<◌, ◌≡◌, ◌≤◌, ℕ, Bool, true, false, List, None, Some, Ok, Err, Result, IfErr, IsErrAnd, inl, refl, sym, ap, subst, ◌∙◌, ⊎_elim}
use Rattle.std.specs.declared.alloc.Global.{Global}
use Rattle.std.specs.declared.vec.Vec.{Vec}
use Rattle.content_tree.specs.Errors.Kind.{IsOutOfMemory}
use Rattle.content_tree.specs.Values.Tree.{Tree}
use Rattle.content_tree.specs.declared.error.Error.{Error}
use Rattle.content_ser.specs.Grammar.Spells.{SpellsWhole}
use Rattle.content_ser.specs.Scripts.Script.{Script, calls_of}
use Rattle.content_ser.specs.Scripts.Standard.{ScriptOf}
use Rattle.content_build.proofs.Agreement.{one_tree}
use Rattle.content_de.specs.Reads.Read.{Refusal, Gives}
use Rattle.serde_content.specs.RoundTrip.{GivesOnly, SpellsSuch}
use Rattle.content_cbor.specs.Codes.{Codes}
use Rattle.content_cbor.specs.Decoded.{as_read, IsFaultOf}
use Rattle.content_cbor.specs.Encoded.{Encoded}
use Rattle.content_cbor.specs.Form.{depth, form}
use Rattle.content_cbor.specs.Item.{item}
use Rattle.content_cbor.specs.Typed.Kept.{FormComesBack, FormGives, IsKeptOf}
use Rattle.content_cbor.proofs.Kept.{none_within}

pub kept_back : {A : Type 0} {exists : A → Type 0} {script : ScriptOf A} {refusal : Refusal} {gives : Gives A} {eq : A → A → Bool} → FormComesBack exists script refusal gives eq
    → (x : A) → exists x → (u : Tree) → IsKeptOf (script x false) u → GivesOnly (refusal (as_read u)) (gives (as_read u)) (λ y. eq x y ≡ true)
kept_back {script = script} {refusal = refusal} {gives = gives} {eq = eq} kept x real u is =
    let there = kept.of_value x real in
    let such : FormGives refusal gives (λ y. eq x y ≡ true) is.0 =
    subst (FormGives refusal gives (λ y. eq x y ≡ true)) (one_tree (calls_of (script x false)) there.whole is.0 there.spelled is.1) there.such in
    subst (λ v. GivesOnly (refusal (as_read v)) (gives (as_read v)) (λ y. eq x y ≡ true)) (sym is.3) (such is.2 false)

-- bytes that a script was encoded as code what CBOR keeps of its tree
pub kept_in : (sc : Script) (limit : ℕ) (bytes : Vec ℕ Global) (lent : List ℕ) (t : Tree) → SpellsWhole (calls_of sc) t → depth (form t) ≤ limit → Encoded sc (Ok bytes) → lent ≡ bytes.items
    → (u : Tree) × IsKeptOf sc u × Codes limit u lent
kept_in sc limit bytes lent t spelled le e is =
    let same : e.0 ≡ t = one_tree (calls_of sc) e.0 t e.2 spelled in (
      form e.0,
      (e.0, e.2, e.3, refl),
      subst (λ bs. Codes limit (form e.0) bs) (sym is) (e.5 limit (subst (λ v. depth (form v) ≤ limit) (sym same) le)),
    )

-- bytes that a script was encoded as are the item of its tree
pub item_in : (sc : Script) (bytes : Vec ℕ Global) (lent : List ℕ) (t : Tree) → SpellsWhole (calls_of sc) t → Encoded sc (Ok bytes) → lent ≡ bytes.items → lent ≡ item t
item_in sc bytes lent t spelled e is = is ∙ e.4 ∙ ap item (one_tree (calls_of sc) e.0 t e.2 spelled)

-- what has no stop is encoded but where memory runs out
encoded_memory : {p : Tree → Type 0} (sc : Script) (e : Error) → SpellsSuch p sc → Encoded sc (Err e) → IsOutOfMemory e
encoded_memory sc e such s = ⊎_elim (λ memory. memory) (λ stop. let clash : Some stop.0 ≡ None = sym stop.1 ∙ such.free in absurd (cc clash)) s

-- what hands that error on says so
pub only_memory : {A : Type 0} {p : Tree → Type 0} (sc : Script) (e : Error) (r : Result A Error) → SpellsSuch p sc → Encoded sc (Err e) → IsErrAnd r (λ x. x ≡ e)
    → IfErr r (λ x. IsOutOfMemory x)
only_memory sc e (Ok y) such s is = absurd is
only_memory sc e (Err x) such s is = subst (λ z. IsOutOfMemory z) (sym is) (encoded_memory sc e such s)

-- and that is a fault of any bytes
pub memory_fault : {A : Type 0} {p : Tree → Type 0} (limit : ℕ) (bytes : List ℕ) (sc : Script) (e : Error) (r : Result A Error) → SpellsSuch p sc → Encoded sc (Err e) → IsErrAnd r (λ x. x ≡ e)
    → IsErrAnd r (λ x. IsFaultOf limit bytes x)
memory_fault limit bytes sc e (Ok y) such s is = absurd is
memory_fault limit bytes sc e (Err x) such s is = inl (subst (λ z. IsOutOfMemory z) (sym is) (encoded_memory sc e such s))

-- bytes that a script was encoded as code nothing within a limit that the form of its tree doesn't keep
pub none_kept : (sc : Script) (limit : ℕ) (bytes : Vec ℕ Global) (lent : List ℕ) (t : Tree) → SpellsWhole (calls_of sc) t → limit < depth (form t) → Encoded sc (Ok bytes) → lent ≡ bytes.items
    → (u : Tree) → Codes limit u lent → ⊥
none_kept sc limit bytes lent t spelled past e is u codes =
    let form_coded : Codes (depth (form e.0)) (form e.0) lent = subst (λ bs. Codes (depth (form e.0)) (form e.0) bs) (sym is) (e.5 (depth (form e.0)) (omega arith)) in
    none_within limit lent u (form t) past (subst (λ v. Codes (depth (form v)) (form v) lent) (one_tree (calls_of sc) e.0 t e.2 spelled) form_coded) codes
