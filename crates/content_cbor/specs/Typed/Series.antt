-- Values by place come back from CBOR where each part does.
use Rattle.std.specs.Prelude.{◌≡◌, ℕ, Bool, true, false, List, Option, refl, ⊤}
use Rattle.content_tree.specs.Values.Tree as tree
use Rattle.content_tree.specs.Errors.Cause.{Cause}
use Rattle.content_ser.specs.Calls.Event as event
use Rattle.content_ser.specs.Calls.Event.{Event}
use Rattle.content_ser.specs.Grammar.Token as token
use Rattle.content_ser.specs.Grammar.Token.{ItemCall}
use Rattle.content_ser.specs.Grammar.Spells.{spells_series}
use Rattle.content_ser.specs.Scripts.Script.{Script}
use Rattle.content_ser.specs.Scripts.Standard.{ScriptOf, only, item_first, tuple_script}
use Rattle.content_ser.specs.Scripts.Own.{tuple_struct_script}
use Rattle.content_de.specs.Outcomes.{refusal_then, IsTaken}
use Rattle.content_de.specs.Accesses.Seq.{SeqLeft, tuple_at, items_under}
use Rattle.content_de.specs.Reads.Read.{Refusal, Gives}
use Rattle.content_de.specs.Reads.Own.{tuple_struct_refusal, TupleStructGives}
use Rattle.content_de.specs.Reads.Tuples.{part_then, end_of_parts, PartThen, NoPart}
use Rattle.serde_content.specs.RoundTrip.{SpellsSuch, GivesOnly}
use Rattle.serde_content.specs.Laws.Holders.{both_free}
use Rattle.serde_content.specs.Laws.Series.{nothing_left}
use Rattle.serde_content.specs.Laws.Spelled.{RowSuch, Spelled, spelled_call, such_spelled}
use Rattle.serde_content.specs.Laws.Spelled.{row_end, row_more}
use Rattle.content_cbor.specs.Decoded.{flags_in}
use Rattle.content_cbor.specs.Form.{each_form, EachFits}
use Rattle.content_cbor.specs.Typed.Kept.{FormComesBack, FormGives, RefusesNull}

-- parts are sent as items whose forms aren't refused and give only such values
pub record PartsKept {Y : Type 0} (m : ItemCall) (script : Bool → Script) (refusal : SeqLeft → Option Cause) (given : Y → SeqLeft → Type 0) (such : Y → Type 0) : Type 0 where
  pub spelled : Spelled (RowSuch m (λ ts. EachFits ts → (b : Bool) → GivesOnly (refusal (items_under (flags_in b) (each_form ts))) (λ y. given y (items_under (flags_in b) (each_form ts))) such)) (script false)

-- no part
pub parts_end_kept : {Y : Type 0} {m : ItemCall} (n : ℕ) → PartsKept {Y = Y} m (only event.end) (end_of_parts n) (λ y. NoPart) (λ y. ⊤)
parts_end_kept n = record { spelled = row_end (λ fits b. record { free = nothing_left n (flags_in b); only = λ y h. tt }) }

-- a part after its call, and then the others
part_kept : {A Y : Type 0} {exists : A → Type 0} {script : ScriptOf A} {refusal : Refusal} {gives : Gives A} {eq : A → A → Bool} {m : ItemCall} {rest : Bool → Script} {others : SeqLeft → Option Cause}
    {given : Y → SeqLeft → Type 0} {such : Y → Type 0} (c : Event) → token.token_of c ≡ token.item m → FormComesBack exists script refusal gives eq → (x : A) → exists x → (see : Y → A) (expected found : ℕ)
    → PartsKept m rest others given such
    → PartsKept m (item_first c (script x) rest) (part_then expected found refusal others) (λ y. PartThen gives (see y) (given y)) (λ y. (eq x (see y) ≡ true) × such y)
part_kept c is kept x real see expected found more = record {
  spelled = row_more is
      (λ t ts one last fits b. record { free = both_free (one fits.0 b).free (last fits.1 b).free; only = λ y h. ((one fits.0 b).only (see y) h.0, (last fits.1 b).only y h.1) })
      (kept.of_value x real) more.spelled;
}

-- an element, and then the others
pub element_kept : {A Y : Type 0} {exists : A → Type 0} {script : ScriptOf A} {refusal : Refusal} {gives : Gives A} {eq : A → A → Bool} {rest : Bool → Script} {others : SeqLeft → Option Cause}
    {given : Y → SeqLeft → Type 0} {such : Y → Type 0} → FormComesBack exists script refusal gives eq → (x : A) → exists x → (see : Y → A) (expected found : ℕ)
    → PartsKept token.element rest others given such
    → PartsKept token.element (item_first event.element (script x) rest) (part_then expected found refusal others) (λ y. PartThen gives (see y) (given y)) (λ y. (eq x (see y) ≡ true) × such y)
element_kept kept x real see expected found more = part_kept event.element refl kept x real see expected found more

-- a value by place, and then the others
pub tuple_field_kept : {A Y : Type 0} {exists : A → Type 0} {script : ScriptOf A} {refusal : Refusal} {gives : Gives A} {eq : A → A → Bool} {rest : Bool → Script} {others : SeqLeft → Option Cause}
    {given : Y → SeqLeft → Type 0} {such : Y → Type 0} → FormComesBack exists script refusal gives eq → (x : A) → exists x → (see : Y → A) (expected found : ℕ)
    → PartsKept token.tuple_field rest others given such
    → PartsKept token.tuple_field (item_first event.tuple_field (script x) rest) (part_then expected found refusal others) (λ y. PartThen gives (see y) (given y)) (λ y. (eq x (see y) ≡ true) × such y)
tuple_field_kept kept x real see expected found more = part_kept event.tuple_field refl kept x real see expected found more

-- a tuple of these parts
pub tuple_kept : {Y : Type 0} {script : Bool → Script} {refusal : SeqLeft → Option Cause} {given : Y → SeqLeft → Type 0} {such passes : Y → Type 0} {n : ℕ}
    → PartsKept token.element script refusal given such → ((y : Y) → such y → passes y)
    → SpellsSuch (FormGives (λ s. refusal_then (tuple_at n s) refusal) (λ s y. IsTaken (tuple_at n s) (given y)) passes) (tuple_script n script false)
tuple_kept parts pass =
    such_spelled (spelled_call (λ calls rest e. (tree.tuple e.0, spells_series e.1, λ fits b. record { free = (e.2 fits.1 b).free; only = λ y h. pass y ((e.2 fits.1 b).only y h) })) parts.spelled)

-- a struct of these values by place
pub tuple_struct_kept : {Y : Type 0} {script : Bool → Script} {refusal : SeqLeft → Option Cause} {given : Y → SeqLeft → Type 0} {such passes : Y → Type 0} {name : List ℕ} {len : ℕ}
    → PartsKept token.tuple_field script refusal given such → ((y : Y) → such y → passes y)
    → SpellsSuch (FormGives (tuple_struct_refusal name refusal) (λ s y. TupleStructGives name (given y) s) passes) (tuple_struct_script name len script false)
tuple_struct_kept parts pass =
    such_spelled (spelled_call (λ calls rest e. (_, spells_series e.1, λ fits b. record { free = (e.2 fits.1 b).free; only = λ y h. pass y ((e.2 fits.1 b).only y h) })) parts.spelled)

-- a tuple isn't read of null
pub tuple_not_null : (n : ℕ) (refusal : SeqLeft → Option Cause) → RefusesNull (λ s. refusal_then (tuple_at n s) refusal)
tuple_not_null n refusal = record { of_null = λ b e. absurd (cc e) }
