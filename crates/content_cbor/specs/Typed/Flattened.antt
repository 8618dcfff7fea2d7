-- Types with flattened fields come back from CBOR where each field does.
use Rattle.std.specs.Prelude.{◌≡◌, ℕ, Bool, true, false, List, [], map, Option, None, Some, refl, ⊤}
use Rattle.std.proofs.lemmas.Slice.Eq.{bytes_eq-Decides}
use Rattle.content_tree.specs.Values.Tree as tree
use Rattle.content_tree.specs.Values.Tree.{Pairs}
use Rattle.content_tree.specs.Errors.Cause.{Cause}
use Rattle.content_ser.specs.Grammar.Spells.{spells_map, pairs, items_end}
use Rattle.content_ser.specs.Scripts.Script.{Script}
use Rattle.content_ser.specs.Scripts.Standard.{ScriptOf}
use Rattle.content_ser.specs.Scripts.Own.{end_script}
use Rattle.content_de.specs.Requests.Compounds.{entries_of_pairs}
use Rattle.content_de.specs.Accesses.Map.{entries_under}
use Rattle.content_de.specs.Accesses.ByName.{FieldsLeft, key_tree, by_name}
use Rattle.content_de.specs.Reads.Read.{Refusal, Gives}
use Rattle.content_de.specs.Reads.ByName.{missing_field}
use Rattle.content_de.specs.Reads.ByName.{NoOthers, read_by_name, ReadByName}
use Rattle.serde_content.specs.Literals.{row_then, row_or_then, RowThen, RowOrThen, others_left}
use Rattle.serde_content.specs.RoundTrip.{SpellsSuch, GivesOnly}
use Rattle.serde_content.specs.Laws.ByName.{entry_refusal, EntryGives, entry_first, skipped_free}
use Rattle.serde_content.specs.Laws.Flattened.{flattened_script, flattened_first, flattened_refusal}
use Rattle.serde_content.specs.Laws.Flattened.{FlattenedGives, entry_more}
use Rattle.serde_content.specs.Laws.Maps.{EntriesSuch}
use Rattle.serde_content.specs.Laws.Spelled.{Spelled, spelled_only, spelled_call, such_spelled}
use Rattle.content_cbor.specs.Decoded.{flags_in}
use Rattle.content_cbor.specs.Form.{form, text_form, pair_forms, PairsFit}
use Rattle.content_cbor.specs.Typed.Kept.{FormComesBack, FormGives}

-- the forms of pairs by name, in a buffer or out of it
abbrev pub named_forms : (buffered : Bool) → Pairs → FieldsLeft
named_forms b ps = by_name (entries_under (flags_in b) (entries_of_pairs (pair_forms ps)))

-- entries are sent so that their forms, taken by name, aren't refused and give only such values
pub record FlattenedKept {Y : Type 0} (script : Bool → Script) (refusal : FieldsLeft → Option Cause) (given : Y → FieldsLeft → Type 0) (such : Y → Type 0) : Type 0 where
  pub spelled : Spelled (EntriesSuch (λ ps. PairsFit ps → (b : Bool) → GivesOnly (refusal (named_forms b ps)) (λ y. given y (named_forms b ps)) such)) (script false)

-- no entry
pub flattened_end_kept : {Y : Type 0} (known : List (List ℕ)) → FlattenedKept {Y = Y} end_script (others_left known) (λ y. NoOthers) (λ y. ⊤)
flattened_end_kept known = unfold others_left in record {
  spelled = spelled_only (λ rest. ([], items_end, λ t. refl, λ fits b. record { free = skipped_free known (flags_in b); only = λ y h. tt }));
}

-- a field, whatever a missing one comes to, and then the others
entry_kept : {A Y : Type 0} {exists : A → Type 0} {script : ScriptOf A} {refusal : Refusal} {gives : Gives A} {eq : A → A → Bool} {rest : Bool → Script} {others : FieldsLeft → Option Cause}
    {given : Y → FieldsLeft → Type 0} {such : Y → Type 0} (name : List ℕ) (absent : Option Cause) (missing : A → Type 0) → FormComesBack exists script refusal gives eq → (x : A) → exists x → (see : Y → A)
    → FlattenedKept rest others given such
    → FlattenedKept (flattened_first name (script x) rest) (entry_refusal name absent refusal others) (λ y. EntryGives name missing gives (see y) (given y)) (λ y. (eq x (see y) ≡ true) × such y)
entry_kept {refusal} {gives} {eq} {others} {given} {such} name absent missing kept x real see more = record {
  spelled = entry_more name
      (FormGives refusal gives (λ y. eq x y ≡ true))
      (λ ps. PairsFit ps → (b : Bool) → GivesOnly (others (named_forms b ps)) (λ y. given y (named_forms b ps)) such)
      (λ ps. PairsFit ps → (b : Bool) → GivesOnly (entry_refusal name absent refusal others (named_forms b ps)) (λ y. EntryGives name missing gives (see y) (given y) (named_forms b ps)) (λ y. (eq x (see y) ≡ true) × such y))
      (λ t ps one last fits b. entry_first refusal gives others given name absent missing see (flags_in b) (text_form name) (form t) (map (λ e. (key_tree e.0, e.1)) (entries_of_pairs (pair_forms ps)))
      ((bytes_eq-Decides name name).1 refl) (one fits.1 b) (last fits.2 b))
      (kept.of_value x real) more.spelled;
}

-- a field, and then the others
pub flattened_named_kept : {A Y : Type 0} {exists : A → Type 0} {script : ScriptOf A} {refusal : Refusal} {gives : Gives A} {eq : A → A → Bool} {rest : Bool → Script} {others : FieldsLeft → Option Cause}
    {given : Y → FieldsLeft → Type 0} {such : Y → Type 0} (name : List ℕ) → FormComesBack exists script refusal gives eq → (x : A) → exists x → (see : Y → A)
    → FlattenedKept rest others given such
    → FlattenedKept (flattened_first name (script x) rest) (row_then name refusal others) (λ y. RowThen name gives (see y) (given y)) (λ y. (eq x (see y) ≡ true) × such y)
flattened_named_kept name kept x real see more = unfold row_then RowThen in entry_kept name (Some (missing_field name)) (λ b. ⊥) kept x real see more

-- a field that may be missing, and then the others
pub flattened_named_or_kept : {A Y : Type 0} {exists : A → Type 0} {script : ScriptOf A} {refusal : Refusal} {gives : Gives A} {eq : A → A → Bool} {rest : Bool → Script} {others : FieldsLeft → Option Cause}
    {given : Y → FieldsLeft → Type 0} {such : Y → Type 0} (name : List ℕ) (missing : A → Type 0) → FormComesBack exists script refusal gives eq → (x : A) → exists x → (see : Y → A)
    → FlattenedKept rest others given such
    → FlattenedKept (flattened_first name (script x) rest) (row_or_then name refusal others) (λ y. RowOrThen name missing gives (see y) (given y)) (λ y. (eq x (see y) ≡ true) × such y)
flattened_named_or_kept name missing kept x real see more = unfold row_or_then RowOrThen in entry_kept name None missing kept x real see more

-- a map of such entries
pub flattened_kept : {Y : Type 0} {script : Bool → Script} {refusal : FieldsLeft → Option Cause} {given : Y → FieldsLeft → Type 0} {such passes : Y → Type 0}
    → FlattenedKept script refusal given such → ((y : Y) → such y → passes y)
    → SpellsSuch (FormGives (flattened_refusal (read_by_name refusal)) (λ s y. FlattenedGives (ReadByName (given y)) s) passes) (flattened_script script false)
flattened_kept fields pass =
    such_spelled (spelled_call (λ calls rest e. (tree.map (pairs e.0), spells_map e.1, λ fits b. record { free = (e.3 fits.1 b).free; only = λ y h. pass y ((e.3 fits.1 b).only y h) })) fields.spelled)
