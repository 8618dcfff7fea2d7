-- Values by key come back from CBOR where each field does.
use Rattle.std.specs.Prelude.{◌≡◌, ℕ, Bool, true, false, List, Option, refl, ⊤}
use Rattle.std.proofs.Common.{ap, subst, ◌∙◌}
use Rattle.content_tree.specs.Values.Tree as tree
use Rattle.content_tree.specs.Values.Tree.{Tree}
use Rattle.content_tree.specs.Errors.Cause.{Cause}
use Rattle.content_ser.specs.Calls.Head.{of_struct}
use Rattle.content_ser.specs.Grammar.Spells.{spells_record}
use Rattle.content_ser.specs.Grammar.Token as token
use Rattle.content_ser.specs.Scripts.Script.{Script}
use Rattle.content_ser.specs.Scripts.Standard.{ScriptOf}
use Rattle.content_ser.specs.Scripts.Own.{end_script, field_first, struct_script, newtype_struct_script}
use Rattle.content_de.specs.Outcomes.{taken, refusal_then, IsTaken}
use Rattle.content_de.specs.Requests.Compounds.{entries_of_pairs, newtype_from}
use Rattle.content_de.specs.Accesses.Map.{MapLeft, entries_under}
use Rattle.content_de.specs.Reads.Read.{Refusal, Gives}
use Rattle.content_de.specs.Reads.Own.{struct_refusal, StructGives, field_then, no_field, FieldThen, NoField}
use Rattle.content_de.specs.Reads.Own.{newtype_struct_refusal, NewtypeStructGives}
use Rattle.serde_content.specs.RoundTrip.{SpellsSuch, GivesOnly}
use Rattle.serde_content.specs.Laws.Holders.{both_free}
use Rattle.serde_content.specs.Laws.Records.{named_itself}
use Rattle.serde_content.specs.Laws.Spelled.{FieldsSuch, Spelled, spelled_call, such_spelled}
use Rattle.serde_content.specs.Laws.Spelled.{wrapped_such, fields_end_such, fields_more_such}
use Rattle.content_cbor.specs.Decoded.{read_in, flags_in}
use Rattle.content_cbor.specs.Form.{form, field_forms, FieldsFit}
use Rattle.content_cbor.specs.Typed.Kept.{FormComesBack, FormGives}

-- fields are sent so that their forms, as the entries of a map, aren't refused and give only such values
pub record FieldsKept {Y : Type 0} (script : Bool → Script) (refusal : MapLeft → Option Cause) (given : Y → MapLeft → Type 0) (such : Y → Type 0) : Type 0 where
  pub spelled : Spelled (FieldsSuch (λ fs. FieldsFit fs
      → (b : Bool) → GivesOnly (refusal (entries_under (flags_in b) (entries_of_pairs (field_forms fs)))) (λ y. given y (entries_under (flags_in b) (entries_of_pairs (field_forms fs)))) such)) (script false)

-- no field
pub fields_end_kept : {Y : Type 0} → FieldsKept {Y = Y} end_script no_field (λ y. NoField) (λ y. ⊤)
fields_end_kept = record { spelled = fields_end_such (λ fits b. record { free = refl; only = λ y h. tt }) }

-- a field, and then the others
pub field_kept : {A Y : Type 0} {exists : A → Type 0} {script : ScriptOf A} {refusal : Refusal} {gives : Gives A} {eq : A → A → Bool} {rest : Bool → Script} {others : MapLeft → Option Cause}
    {given : Y → MapLeft → Type 0} {such : Y → Type 0} (name : List ℕ) → FormComesBack exists script refusal gives eq → (x : A) → exists x → (see : Y → A)
    → FieldsKept rest others given such
    → FieldsKept (field_first name (script x) rest) (field_then name refusal others) (λ y. FieldThen gives (see y) (given y)) (λ y. (eq x (see y) ≡ true) × such y)
field_kept name kept x real see more = record {
  spelled = fields_more_such
      (λ t fs one last fits b. record {
        free = both_free (both_free (one fits.1 b).free (named_itself name _)) (last fits.2 b).free;
        only = λ y h. ((one fits.1 b).only (see y) h.0, (last fits.2 b).only y h.1);
      })
      (kept.of_value x real) more.spelled;
}

-- a struct of these fields
pub struct_kept : {Y : Type 0} {script : Bool → Script} {refusal : MapLeft → Option Cause} {given : Y → MapLeft → Type 0} {such passes : Y → Type 0} {name : List ℕ} {len : ℕ}
    → FieldsKept script refusal given such → ((y : Y) → such y → passes y)
    → SpellsSuch (FormGives (struct_refusal name refusal) (λ s y. StructGives name (given y) s) passes) (struct_script name len script false)
struct_kept fields pass =
    such_spelled (spelled_call (λ calls rest e. (_, spells_record e.1, λ fits b. record { free = (e.2 fits.1 b).free; only = λ y h. pass y ((e.2 fits.1 b).only y h) })) fields.spelled)

-- a form stands for itself where a newtype struct is asked for
newtype_form : (b : Bool) (name : List ℕ) (t : Tree) → newtype_from name (read_in b (form t)) ≡ taken (read_in b (form t))
newtype_form b name tree.unit = refl
newtype_form b name (tree.boolean x) = refl
newtype_form b name (tree.number n) = refl
newtype_form b name (tree.character c) = refl
newtype_form b name (tree.text t) = refl
newtype_form b name (tree.octets t) = refl
newtype_form b name (tree.seq ts) = refl
newtype_form b name (tree.map ps) = refl
newtype_form b name tree.absent = refl
newtype_form b name (tree.present t) = newtype_form b name t
newtype_form b name (tree.structure n tree.no_data) = refl
newtype_form b name (tree.structure n (tree.one t)) = newtype_form b name t
newtype_form b name (tree.structure n (tree.many ts)) = refl
newtype_form b name (tree.structure n (tree.named fs)) = refl
newtype_form b name (tree.enumeration n i v tree.no_data) = refl
newtype_form b name (tree.enumeration n i v (tree.one t)) = refl
newtype_form b name (tree.enumeration n i v (tree.many ts)) = refl
newtype_form b name (tree.enumeration n i v (tree.named fs)) = refl
newtype_form b name (tree.tuple ts) = refl

-- what is asked for as a newtype struct, where it stands for itself
newtype_such : {A Y : Type 0} (refusal : Refusal) (gives : Gives A) (eq : A → A → Bool) {passes : Y → Type 0} (name : List ℕ) (x : A) (see : Y → A) → ((y : Y) → eq x (see y) ≡ true → passes y) → (b : Bool) (t : Tree)
    → GivesOnly (refusal (read_in b (form t))) (gives (read_in b (form t))) (λ y. eq x y ≡ true)
    → GivesOnly (newtype_struct_refusal name refusal (read_in b (form t))) (λ y. NewtypeStructGives name gives (see y) (read_in b (form t))) passes
newtype_such refusal gives eq name x see pass b t one = record {
  free = ap (λ o. refusal_then o refusal) (newtype_form b name t) ∙ one.free;
  only = λ y h. pass y (one.only (see y) (subst (λ o. IsTaken o (λ held. gives held (see y))) (newtype_form b name t) h));
}

-- a struct around one value
pub newtype_struct_kept : {A Y : Type 0} {exists : A → Type 0} {script : ScriptOf A} {refusal : Refusal} {gives : Gives A} {eq : A → A → Bool} {passes : Y → Type 0} {name : List ℕ}
    → FormComesBack exists script refusal gives eq → (x : A) → exists x → (see : Y → A) → ((y : Y) → eq x (see y) ≡ true → passes y)
    → SpellsSuch (FormGives (newtype_struct_refusal name refusal) (λ s y. NewtypeStructGives name gives (see y) s) passes) (newtype_struct_script name (script x) false)
newtype_struct_kept {refusal} {gives} {eq} {name} kept x real see pass =
    wrapped_such (token.in_head (of_struct name)) refl (λ t one fits b. newtype_such refusal gives eq name x see pass b t (one fits b)) (kept.of_value x real)
