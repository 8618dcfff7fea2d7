-- The variants of an enum come back from CBOR where what they hold does.
use Rattle.std.specs.Prelude.{◌≡◌, ℕ, Bool, true, false, List, Option, refl, ⊤}
use Rattle.std.proofs.Common.{ap, subst, sym, ◌∙◌}
use Rattle.content_tree.specs.Values.Tree as tree
use Rattle.content_tree.specs.Values.Tree.{Tree, TreeData}
use Rattle.content_tree.specs.Errors.Cause.{Cause}
use Rattle.content_ser.specs.Calls.Head.{of_variant}
use Rattle.content_ser.specs.Grammar.Token as token
use Rattle.content_ser.specs.Grammar.Spells.{spells_series, spells_record}
use Rattle.content_ser.specs.Scripts.Script.{Script}
use Rattle.content_ser.specs.Scripts.Standard.{ScriptOf}
use Rattle.content_ser.specs.Scripts.Own.{unit_variant_script, newtype_variant_script}
use Rattle.content_ser.specs.Scripts.Own.{tuple_variant_script, struct_variant_script}
use Rattle.content_de.specs.Sources.Origin.{of_tree}
use Rattle.content_de.specs.Outcomes.{taken, refusal_then, IsTaken}
use Rattle.content_de.specs.Requests.Leaves.{text_from}
use Rattle.content_de.specs.Accesses.Seq.{SeqLeft}
use Rattle.content_de.specs.Accesses.Map.{MapLeft}
use Rattle.content_de.specs.Accesses.Enum.{VariantLeft, Held, nothing, a_value, enum_at, enum_with, tag_of}
use Rattle.content_de.specs.Reads.Read.{Refusal, Gives}
use Rattle.content_de.specs.Reads.Own.{enum_refusal, EnumGives, unit_variant_refusal, UnitVariantGives}
use Rattle.content_de.specs.Reads.Own.{newtype_variant_refusal, NewtypeVariantGives}
use Rattle.content_de.specs.Reads.Own.{tuple_variant_refusal, TupleVariantGives}
use Rattle.content_de.specs.Reads.Own.{struct_variant_refusal, StructVariantGives}
use Rattle.serde_content.specs.RoundTrip.{SpellsSuch, GivesOnly}
use Rattle.serde_content.specs.Laws.Spelled.{spelled_call, such_spelled, leaf_such, wrapped_such}
use Rattle.serde_content.specs.Laws.Variants.{left, variant_node}
use Rattle.content_cbor.specs.Decoded.{read_in, flags_in}
use Rattle.content_cbor.specs.Form.{form, text_form, each_form, field_forms, variant_form, DataFits}
use Rattle.content_cbor.specs.Typed.Kept.{FormComesBack, FormGives}
use Rattle.content_cbor.specs.Typed.Records.{FieldsKept}
use Rattle.content_cbor.specs.Typed.Series.{PartsKept}

-- what the form of a variant holds behind its name
abbrev pub held_form : TreeData → Held
held_form tree.no_data = nothing
held_form (tree.one t) = a_value (form t)
held_form (tree.many ts) = a_value (tree.seq (each_form ts))
held_form (tree.named fs) = a_value (tree.map (field_forms fs))

-- the form with its name read, in a buffer or out of it
abbrev pub form_left : (buffered : Bool) → List ℕ → Held → VariantLeft
form_left b name h = left name h (flags_in b)

-- a variant is sent as a node whose form isn't refused as one and holds only such
pub record VariantKept {P : Type 0} (name : List ℕ) (index : ℕ) (variant : List ℕ) (script : Bool → Script) (refusal : VariantLeft → Option Cause)
    (given : P → VariantLeft → Type 0) (such : P → Type 0) : Type 0 where
  pub spelled : SpellsSuch (λ t. (d : TreeData) × (t ≡ variant_node name index variant d)
      × (DataFits d → (b : Bool) → GivesOnly (refusal (form_left b name (held_form d))) (λ z. given z (form_left b name (held_form d))) such)) (script false)

-- a variant that holds nothing
pub unit_variant_kept : {name : List ℕ} {index : ℕ} {variant : List ℕ}
    → VariantKept name index variant (unit_variant_script name index variant) unit_variant_refusal (λ (u : Unit {0}). UnitVariantGives) (λ u. ⊤)
unit_variant_kept {name} {index} {variant} = record {
  spelled = leaf_such (variant_node name index variant tree.no_data) refl (tree.no_data, refl, λ fits b. record { free = refl; only = λ z h. tt });
}

-- a variant around one value
pub newtype_variant_kept : {A : Type 0} {exists : A → Type 0} {script : ScriptOf A} {refusal : Refusal} {gives : Gives A} {eq : A → A → Bool} {name : List ℕ} {index : ℕ} {variant : List ℕ}
    → FormComesBack exists script refusal gives eq → (x : A) → exists x
    → VariantKept name index variant (newtype_variant_script name index variant (script x)) (newtype_variant_refusal refusal) (NewtypeVariantGives gives) (λ y. eq x y ≡ true)
newtype_variant_kept {name} {index} {variant} kept x real = record {
  spelled = wrapped_such (token.in_head (of_variant name index variant)) refl (λ t one. (tree.one t, refl, λ fits b. record { free = (one fits b).free; only = (one fits b).only })) (kept.of_value x real);
}

-- a variant of values by place
pub tuple_variant_kept : {P : Type 0} {script : Bool → Script} {refusal : SeqLeft → Option Cause} {given : P → SeqLeft → Type 0} {such : P → Type 0} {name : List ℕ} {index : ℕ} {variant : List ℕ} {len : ℕ}
    → PartsKept token.tuple_field script refusal given such
    → VariantKept name index variant (tuple_variant_script name index variant len script) (tuple_variant_refusal refusal) (λ z. TupleVariantGives (given z)) such
tuple_variant_kept parts = record {
  spelled = such_spelled (spelled_call (λ calls rest e. (_, spells_series e.1, (tree.many e.0, refl, λ fits b. record { free = (e.2 fits.1 b).free; only = (e.2 fits.1 b).only }))) parts.spelled);
}

-- a variant of values by key
pub struct_variant_kept : {P : Type 0} {script : Bool → Script} {refusal : MapLeft → Option Cause} {given : P → MapLeft → Type 0} {such : P → Type 0} {name : List ℕ} {index : ℕ} {variant : List ℕ} {len : ℕ}
    → FieldsKept script refusal given such
    → VariantKept name index variant (struct_variant_script name index variant len script) (struct_variant_refusal refusal) (λ z. StructVariantGives (given z)) such
struct_variant_kept fields = record {
  spelled = such_spelled (spelled_call (λ calls rest e. (_, spells_record e.1, (tree.named e.0, refl, λ fits b. record { free = (e.2 fits.1 b).free; only = (e.2 fits.1 b).only }))) fields.spelled);
}

-- a form of this variant is read with its name as the tag
form_tagged : (b : Bool) (name variant : List ℕ) (d : TreeData) → enum_at name (read_in b (variant_form variant d)) ≡ taken (enum_with name (flags_in b) (of_tree (text_form variant)) (held_form d))
form_tagged b name variant tree.no_data = refl
form_tagged b name variant (tree.one t) = refl
form_tagged b name variant (tree.many ts) = refl
form_tagged b name variant (tree.named fs) = refl

-- an enum refuses such a form as its variants refuse what it holds
refused_as : (b : Bool) (name variant : List ℕ) (variants : List ℕ → VariantLeft → Option Cause) (d : TreeData)
    → enum_refusal name variants (read_in b (variant_form variant d)) ≡ variants variant (form_left b name (held_form d))
refused_as b name variant variants d = ap (λ o. refusal_then o (λ e. refusal_then (text_from (tag_of e).origin) (λ tag. variants tag.content e.variant))) (form_tagged b name variant d)

-- it gives a variant of that name which holds that
pub record GivenAs (b : Bool) (name variant other : List ℕ) (given : VariantLeft → Type 0) (h : Held) : Type 0 where
  pub named : variant ≡ other
  pub held : given (form_left b name h)

-- what an enum gives of such a form
pub given_as : {other : List ℕ} {given : VariantLeft → Type 0} (b : Bool) (name variant : List ℕ) (d : TreeData) → EnumGives name other given (read_in b (variant_form variant d)) → GivenAs b name variant other given (held_form d)
given_as {other} {given} b name variant d it =
    let read = subst (λ o. IsTaken o (λ e. IsTaken (text_from (tag_of e).origin) (λ tag. tag.content ≡ other) × given e.variant)) (form_tagged b name variant d) it in
    record { named = read.0; held = read.1 }

-- a value of this variant comes back, where the enum reads its variants so, and gives what the variant holds
pub variant_comes_back : {P Y : Type 0} {name : List ℕ} {index : ℕ} {variant : List ℕ} {script : Bool → Script} {own : VariantLeft → Option Cause} {given : P → VariantLeft → Type 0} {such : P → Type 0}
    (variants : List ℕ → VariantLeft → Option Cause) (gives : Gives Y) {passes : Y → Type 0} → VariantKept name index variant script own given such
    → ((v : VariantLeft) → variants variant v ≡ own v)
    → ((b : Bool) (d : TreeData) → ((z : P) → given z (form_left b name (held_form d)) → such z) → (y : Y) → gives (read_in b (variant_form variant d)) y → passes y)
    → SpellsSuch (FormGives (enum_refusal name variants) gives passes) (script false)
variant_comes_back {name} {index} {variant} {own} variants gives {passes} kept so given_so =
    let there = kept.spelled in
    record {
      free = there.free;
      whole = there.whole;
      spelled = there.spelled;
      such = subst (FormGives (enum_refusal name variants) gives passes) (sym there.such.1)
          (λ fits b. record {
            free = refused_as b name variant variants there.such.0 ∙ so _ ∙ (there.such.2 fits.1 b).free;
            only = given_so b there.such.0 (there.such.2 fits.1 b).only;
          });
    }
