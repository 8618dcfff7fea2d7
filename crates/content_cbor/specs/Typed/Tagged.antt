-- The variants of an enum whose tag is a field come back from CBOR where what stands beside it does.
use Rattle.std.specs.Prelude.{◌≡◌, ℕ, Bool, false, List, map, Option, Some, refl}
use Rattle.std.proofs.Common.{ap, subst, sym, ◌∙◌}
use Rattle.std.proofs.lemmas.Slice.Eq.{bytes_eq-Decides}
use Rattle.content_tree.specs.Values.Text.{static_name, owned_text}
use Rattle.content_tree.specs.Values.Tree as tree
use Rattle.content_tree.specs.Values.Tree.{Tree, Fields}
use Rattle.content_tree.specs.Errors.Cause.{Cause}
use Rattle.content_ser.specs.Grammar.Spells.{spells_record}
use Rattle.content_ser.specs.Scripts.Script.{Script}
use Rattle.content_ser.specs.Scripts.Own.{field_first}
use Rattle.content_de.specs.Requests.Compounds.{entries_of_pairs}
use Rattle.content_de.specs.Accesses.ByName.{FieldsLeft, key_tree}
use Rattle.content_de.specs.Reads.Read.{Refusal, Gives}
use Rattle.content_de.specs.Reads.ByName.{missing_field}
use Rattle.serde_content.specs.Literals.{row_then, RowThen}
use Rattle.serde_content.specs.RoundTrip.{SpellsSuch, GivesOnly}
use Rattle.serde_content.specs.Laws.ByName.{named_under, entry_first}
use Rattle.serde_content.specs.Laws.Spelled.{FieldsSuch, spelled_call, such_spelled, leaf_such}
use Rattle.serde_content.specs.Laws.Spelled.{fields_more_such}
use Rattle.serde_content.specs.Laws.Tagged.{IsTagged, tagged_script}
use Rattle.content_cbor.specs.Decoded.{read_in, flags_in}
use Rattle.content_cbor.specs.Form.{form, text_form, field_forms, FieldsFit}
use Rattle.content_cbor.specs.Typed.ByName.{NamedKept, form_entries, entries_named}
use Rattle.content_cbor.specs.Typed.Kept.{FormGives}

-- what stands beside the tag in a form, in a buffer or out of it
abbrev pub beside_form : (buffered : Bool) → Fields → FieldsLeft
beside_form b fs = named_under (flags_in b) (map (λ e. (key_tree e.0, e.1)) (entries_of_pairs (field_forms fs)))

-- the form of a variant: a map, its first entry the tag
abbrev pub tagged_form : (tag variant : List ℕ) → Fields → Tree
tagged_form tag variant fs = tree.map (tree.pair_then (text_form tag) (text_form variant) (field_forms fs))

-- a value of this variant comes back, where its form is refused as what stands beside the tag is, in a buffer inside or not, and gives what that gives
pub tagged_kept : {P Y : Type 0} {name tag variant : List ℕ} {len : ℕ} {rest : Bool → Script} {own : FieldsLeft → Option Cause} {given : P → FieldsLeft → Type 0} {such : P → Type 0}
    (refusal : Refusal) (gives : Gives Y) {passes : Y → Type 0} → NamedKept rest own given such
    → (inside : Bool → Bool) → ((b : Bool) (fs : Fields) → refusal (read_in b (tagged_form tag variant fs)) ≡ own (beside_form (inside b) fs))
    → ((b : Bool) (fs : Fields) → ((z : P) → given z (beside_form (inside b) fs) → such z) → (y : Y) → gives (read_in b (tagged_form tag variant fs)) y → passes y)
    → SpellsSuch (FormGives refusal gives passes) (tagged_script name len tag variant rest false)
tagged_kept {P} {Y} {name} {tag} {variant} {len} {rest} {own} {given} {such} refusal gives {passes} fields inside refused_so given_so =
    such_spelled (spelled_call
    {Q = FieldsSuch (IsTagged tag variant (λ fs. FieldsFit fs → (b : Bool) → GivesOnly (own (named_under (flags_in b) (form_entries fs))) (λ z. given z (named_under (flags_in b) (form_entries fs))) such))}
    (λ calls others e. (
      _,
      spells_record e.1,
      subst (λ fs. FormGives refusal gives passes (tree.structure (static_name name) (tree.named fs))) (sym e.2.1) (λ fits b.
          let beside = subst (λ es. GivesOnly (own (named_under (flags_in (inside b)) es)) (λ z. given z (named_under (flags_in (inside b)) es)) such) (entries_named e.2.0) (e.2.2 fits.1.2 (inside b)) in
          record { free = refused_so b e.2.0 ∙ beside.free; only = given_so b e.2.0 beside.only }),
    ))
    (fields_more_such {p = λ t. t ≡ tree.text (owned_text variant)}
    (λ t fs is one. (fs, ap (λ u. tree.field_then (static_name tag) u fs) is, one))
    (leaf_such (tree.text (owned_text variant)) refl refl) fields.spelled))

-- the content of a variant, which is sent as a tree whose form gives only such values, and then the others
pub content_kept : {A : Type 0} {rest : Bool → Script} {passes such : A → Type 0} {others : FieldsLeft → Option Cause} {given : A → FieldsLeft → Type 0}
    (name : List ℕ) (script : Bool → Script) (refusal : Refusal) (gives : Gives A) → SpellsSuch (FormGives refusal gives passes) (script false) → NamedKept rest others given such
    → NamedKept (field_first name script rest) (row_then name refusal others) (λ y. RowThen name gives y (given y)) (λ y. passes y × such y)
content_kept {others} {given} name script refusal gives one more = unfold row_then RowThen in record {
  spelled = fields_more_such
      (λ t fs content last fits b. entry_first refusal gives others given name (Some (missing_field name)) (λ b. ⊥) (λ y. y) (flags_in b) (text_form name) (form t) (form_entries fs) ((bytes_eq-Decides name name).1 refl) (content fits.1 b) (last fits.2 b))
      one more.spelled;
}
