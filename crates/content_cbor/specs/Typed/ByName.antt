-- Fields that are taken by name come back from CBOR where each field does.
use Rattle.std.specs.Prelude.{◌≡◌, ℕ, Bool, true, false, List, [], ◌∷◌, map, Option, None, Some, refl, ⊤}
use Rattle.std.proofs.Common.{ap, subst}
use Rattle.std.proofs.lemmas.Slice.Eq.{bytes_eq-Decides}
use Rattle.content_tree.specs.Values.Tree as tree
use Rattle.content_tree.specs.Values.Tree.{Tree, Fields}
use Rattle.content_tree.specs.Errors.Cause.{Cause}
use Rattle.content_ser.specs.Scripts.Script.{Script}
use Rattle.content_ser.specs.Scripts.Standard.{ScriptOf}
use Rattle.content_ser.specs.Scripts.Own.{end_script, field_first}
use Rattle.content_de.specs.Requests.Compounds.{entries_of_pairs}
use Rattle.content_de.specs.Accesses.ByName.{FieldsLeft, key_tree}
use Rattle.content_de.specs.Reads.Read.{Refusal, Gives}
use Rattle.content_de.specs.Reads.ByName.{missing_field}
use Rattle.content_de.specs.Reads.ByName.{no_others, NoOthers, read_by_name, ReadByName}
use Rattle.serde_content.specs.Literals.{row_then, row_or_then, RowThen, RowOrThen, others_left}
use Rattle.serde_content.specs.RoundTrip.{GivesOnly}
use Rattle.serde_content.specs.Laws.ByName.{named_under, skipped_free, entry_first, entry_refusal, EntryGives}
use Rattle.serde_content.specs.Laws.Spelled.{FieldsSuch, Spelled, fields_end_such, fields_more_such}
use Rattle.content_cbor.specs.Decoded.{flags_in}
use Rattle.content_cbor.specs.Form.{form, text_form, field_forms, FieldsFit}
use Rattle.content_cbor.specs.Typed.Kept.{FormComesBack}
use Rattle.content_cbor.specs.Typed.Records.{FieldsKept}

-- the forms of fields as entries, each key a text
abbrev pub form_entries : Fields → List (Tree × Tree)
form_entries tree.no_fields = []
form_entries (tree.field_then k t fs) = (text_form k.content, form t) ∷ form_entries fs

-- fields are sent so that their forms, taken by name, aren't refused and give only such values
pub record NamedKept {Y : Type 0} (script : Bool → Script) (refusal : FieldsLeft → Option Cause) (given : Y → FieldsLeft → Type 0) (such : Y → Type 0) : Type 0 where
  pub spelled : Spelled (FieldsSuch (λ fs. FieldsFit fs
      → (b : Bool) → GivesOnly (refusal (named_under (flags_in b) (form_entries fs))) (λ y. given y (named_under (flags_in b) (form_entries fs))) such)) (script false)

-- no field, where others are skipped
pub skipped_kept : {Y : Type 0} (known : List (List ℕ)) → NamedKept {Y = Y} end_script (others_left known) (λ y. NoOthers) (λ y. ⊤)
skipped_kept known = unfold others_left in record { spelled = fields_end_such (λ fits b. record { free = skipped_free known (flags_in b); only = λ y h. tt }) }

-- no field, where there are no others
pub closed_kept : {Y : Type 0} (known : List (List ℕ)) → NamedKept {Y = Y} end_script (no_others known) (λ y. NoOthers) (λ y. ⊤)
closed_kept known = record { spelled = fields_end_such (λ fits b. record { free = refl; only = λ y h. tt }) }

-- a field, whatever a missing one comes to, and then the others
entry_kept : {A Y : Type 0} {exists : A → Type 0} {script : ScriptOf A} {refusal : Refusal} {gives : Gives A} {eq : A → A → Bool} {rest : Bool → Script} {others : FieldsLeft → Option Cause}
    {given : Y → FieldsLeft → Type 0} {such : Y → Type 0} (name : List ℕ) (absent : Option Cause) (missing : A → Type 0) → FormComesBack exists script refusal gives eq → (x : A) → exists x → (see : Y → A)
    → NamedKept rest others given such
    → NamedKept (field_first name (script x) rest) (entry_refusal name absent refusal others) (λ y. EntryGives name missing gives (see y) (given y)) (λ y. (eq x (see y) ≡ true) × such y)
entry_kept {refusal} {gives} {others} {given} name absent missing kept x real see more = record {
  spelled = fields_more_such
      (λ t fs one last fits b. entry_first refusal gives others given name absent missing see (flags_in b) (text_form name) (form t) (form_entries fs) ((bytes_eq-Decides name name).1 refl) (one fits.1 b) (last fits.2 b))
      (kept.of_value x real) more.spelled;
}

-- a field, and then the others
pub named_kept : {A Y : Type 0} {exists : A → Type 0} {script : ScriptOf A} {refusal : Refusal} {gives : Gives A} {eq : A → A → Bool} {rest : Bool → Script} {others : FieldsLeft → Option Cause}
    {given : Y → FieldsLeft → Type 0} {such : Y → Type 0} (name : List ℕ) → FormComesBack exists script refusal gives eq → (x : A) → exists x → (see : Y → A)
    → NamedKept rest others given such
    → NamedKept (field_first name (script x) rest) (row_then name refusal others) (λ y. RowThen name gives (see y) (given y)) (λ y. (eq x (see y) ≡ true) × such y)
named_kept name kept x real see more = unfold row_then RowThen in entry_kept name (Some (missing_field name)) (λ b. ⊥) kept x real see more

-- a field that may be missing, and then the others
pub named_or_kept : {A Y : Type 0} {exists : A → Type 0} {script : ScriptOf A} {refusal : Refusal} {gives : Gives A} {eq : A → A → Bool} {rest : Bool → Script} {others : FieldsLeft → Option Cause}
    {given : Y → FieldsLeft → Type 0} {such : Y → Type 0} (name : List ℕ) (missing : A → Type 0) → FormComesBack exists script refusal gives eq → (x : A) → exists x → (see : Y → A)
    → NamedKept rest others given such
    → NamedKept (field_first name (script x) rest) (row_or_then name refusal others) (λ y. RowOrThen name missing gives (see y) (given y)) (λ y. (eq x (see y) ≡ true) × such y)
named_or_kept name missing kept x real see more = unfold row_or_then RowOrThen in entry_kept name None missing kept x real see more

-- the entries of fields' forms, by name
pub entries_named : (fs : Fields) → form_entries fs ≡ map (λ e. (key_tree e.0, e.1)) (entries_of_pairs (field_forms fs))
entries_named tree.no_fields = refl
entries_named (tree.field_then k t fs) = ap (λ es. (text_form k.content, form t) ∷ es) (entries_named fs)

-- such fields are such others
fields_seen : {p q : Fields → Type 0} {sc : Script} → ((fs : Fields) → p fs → q fs) → Spelled (FieldsSuch p) sc → Spelled (FieldsSuch q) sc
fields_seen see s = record { free = s.free; reads = λ rest. let there = s.reads rest in (there.0, there.1, see there.0 there.2) }

-- fields by name are fields
pub by_name_kept : {Y : Type 0} {script : Bool → Script} {refusal : FieldsLeft → Option Cause} {given : Y → FieldsLeft → Type 0} {such : Y → Type 0}
    → NamedKept script refusal given such → FieldsKept script (read_by_name refusal) (λ y. ReadByName (given y)) such
by_name_kept {Y} {script} {refusal} {given} {such} fields = record {
  spelled = fields_seen
      (λ fs there fits b. subst (λ es. GivesOnly (refusal (named_under (flags_in b) es)) (λ y. given y (named_under (flags_in b) es)) such) (entries_named fs) (there fits b))
      fields.spelled;
}
