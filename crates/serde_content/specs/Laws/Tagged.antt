-- The variants of an enum whose tag is a field come back where what is next to it does.
use Rattle.std.specs.Prelude.{◌≡◌, ℕ, Bool, true, false, List, map, Option, None, Some, option_map}
use Rattle.std.specs.Prelude.{refl}
use Rattle.std.specs.Map.{lookup, remove_entry}
use Rattle.std.proofs.Common.{ap, subst, sym, ◌∙◌}
use Rattle.std.proofs.lemmas.Slice.Eq.{bytes_eq-Decides}
use Rattle.content_tree.specs.Values.Text.{Text, static_name, owned_text}
use Rattle.content_tree.specs.Values.Tree as tree
use Rattle.content_tree.specs.Values.Tree.{Tree, Fields}
use Rattle.content_tree.specs.Values.Lookups.{is_text}
use Rattle.content_tree.specs.Errors.Cause.{Cause}
use Rattle.content_ser.specs.Calls.Event as event
use Rattle.content_ser.specs.Grammar.Spells.{spells_record}
use Rattle.content_ser.specs.Scripts.Script.{Script}
use Rattle.content_ser.specs.Scripts.Standard.{only}
use Rattle.content_ser.specs.Scripts.Own.{field_first, struct_script}
use Rattle.content_de.specs.Sources.Origin.{Flags, tree_under, buffering}
use Rattle.content_de.specs.Outcomes.{Outcome, taken, refused, refusal_then, IsTaken}
use Rattle.content_de.specs.Requests.Compounds.{entries_of_fields}
use Rattle.content_de.specs.Accesses.ByName.{FieldsLeft, key_tree}
use Rattle.content_de.specs.Reads.Read.{Refusal, Gives}
use Rattle.content_de.specs.Reads.ByName.{missing_field}
use Rattle.content_de.specs.Reads.Tagged.{found_text, tag_at, tag_then, TagThen, tag_then_buffered, TagThenBuffered}
use Rattle.serde_content.specs.Literals.{row_then, RowThen}
use Rattle.serde_content.specs.RoundTrip.{SpellsSuch, GivesOnly, CoercionKeeps, flags}
use Rattle.serde_content.specs.Laws.Spelled.{FieldsSuch, Spelled, spelled_call, such_spelled, leaf_such}
use Rattle.serde_content.specs.Laws.Spelled.{fields_more_such}
use Rattle.serde_content.specs.Laws.ByName.{NamedBack, NamedKeep, named_entries, named_under}
use Rattle.serde_content.specs.Laws.ByName.{entries_by_name, entry_first, named_keeps}

-- what is next to the tag
abbrev pub beside_tag : Flags → Fields → FieldsLeft
beside_tag f fs = named_under f (map (λ e. (key_tree e.0, e.1)) (entries_of_fields 1 fs))

-- a variant as it is sent: a struct, its first field the tag
abbrev pub tagged_node : (name tag variant : List ℕ) → Fields → Tree
tagged_node name tag variant fs =
    tree.structure (static_name name) (tree.named (tree.field_then (static_name tag) (tree.text (owned_text variant)) fs))

-- the calls that send it
abbrev pub tagged_script : (name : List ℕ) (len : ℕ) (tag variant : List ℕ) → (Bool → Script) → Bool → Script
tagged_script name len tag variant rest = struct_script name len (field_first tag (only (event.text variant)) rest)

-- the first field is the tag, and the others are such
abbrev pub IsTagged : (tag variant : List ℕ) → (Fields → Type 0) → Fields → Type 0
IsTagged tag variant such fs =
    (others : Fields) × (fs ≡ tree.field_then (static_name tag) (tree.text (owned_text variant)) others) × such others

-- a value of this variant comes back, where its node is refused as what is next to the tag is under these flags, and gives what that gives
pub tagged_back : {P Y : Type 0} {name tag variant : List ℕ} {len : ℕ} {rest : Bool → Script} {own : FieldsLeft → Option Cause} {given : P → FieldsLeft → Type 0} {such : P → Type 0}
    (refusal : Refusal) (gives : Gives Y) {passes : Y → Type 0} → NamedBack rest own given such → (f beside : Flags) → beside.human_readable ≡ f.human_readable
    → ((fs : Fields) → refusal (tree_under f (tagged_node name tag variant fs)) ≡ own (beside_tag beside fs))
    → ((fs : Fields) → ((z : P) → given z (beside_tag beside fs) → such z) → (y : Y) → gives (tree_under f (tagged_node name tag variant fs)) y → passes y)
    → SpellsSuch (λ t. GivesOnly (refusal (tree_under f t)) (gives (tree_under f t)) passes) (tagged_script name len tag variant rest f.human_readable)
tagged_back {P} {Y} {name} {tag} {variant} {len} {rest} {own} {given} {such} refusal gives {passes} fields f beside same refused_so given_so =
    such_spelled (spelled_call
    {Q = FieldsSuch (IsTagged tag variant (λ fs. GivesOnly (own (named_under beside (named_entries fs))) (λ z. given z (named_under beside (named_entries fs))) such))}
    (λ calls others e.
    let there = subst (λ es. GivesOnly (own (named_under beside es)) (λ z. given z (named_under beside es)) such) (entries_by_name 1 e.2.0) e.2.2 in (
      _,
      spells_record e.1,
      subst
          (λ fs. GivesOnly (refusal (tree_under f (tree.structure (static_name name) (tree.named fs)))) (gives (tree_under f (tree.structure (static_name name) (tree.named fs)))) passes)
          (sym e.2.1) (record { free = refused_so e.2.0 ∙ there.free; only = given_so e.2.0 there.only }),
    ))
    (fields_more_such {p = λ t. t ≡ tree.text (owned_text variant)}
    (λ t fs is one. (fs, ap (λ u. tree.field_then (static_name tag) u fs) is, one))
    (leaf_such (tree.text (owned_text variant)) refl refl)
    (subst (λ h. Spelled (FieldsSuch (λ fs. GivesOnly (own (named_under beside (named_entries fs))) (λ z. given z (named_under beside (named_entries fs))) such)) (rest h)) same (fields.of_flags beside))))

-- a tag that is read as the variant's name, and what is next to it
beside_kept : {P : Type 0} {own : FieldsLeft → Option Cause} {given : P → FieldsLeft → Type 0} (variant : List ℕ) (variants : List ℕ → FieldsLeft → Option Cause)
    → ((f : FieldsLeft) → variants variant f ≡ own f) → NamedKeep own given → (tag : Outcome Text) (es : List (Tree × Tree)) (h : Bool) (z : P)
    → refusal_then tag (λ t. variants t.content (named_under (flags h false) es)) ≡ None
    → IsTaken tag (λ t. t.content ≡ variant) × given z (named_under (flags h false) es)
    → (refusal_then tag (λ t. variants t.content (named_under (flags h true) es)) ≡ None) × (IsTaken tag (λ t. t.content ≡ variant) × given z (named_under (flags h true) es))
beside_kept {own} variant variants so keeps (taken t) es h z free is =
    let before = named_under (flags h false) es in
    let after = named_under (flags h true) es in
    let there = keeps.of_entries es h z (record { free = sym (so before) ∙ subst (λ n. variants n before ≡ None) is.0 free; given = is.1 }) in
    (subst (λ n. variants n after ≡ None) (sym is.0) (so after ∙ there.free), (is.0, there.given))
beside_kept variant variants so keeps (refused c) es h z free is = absurd (cc free)

-- a tag is the same under other flags
same_tag : (tag : List ℕ) (f g : Flags) (o : Option Tree) → found_text tag (option_map (tree_under f) o) ≡ found_text tag (option_map (tree_under g) o)
same_tag tag f g None = refl
same_tag tag f g (Some t) = refl

-- what entries may give as this variant without coercion they may give with it
pub tag_keeps : {P : Type 0} {own : FieldsLeft → Option Cause} {given : P → FieldsLeft → Type 0} (tag variant : List ℕ) (variants : List ℕ → FieldsLeft → Option Cause)
    → ((f : FieldsLeft) → variants variant f ≡ own f) → NamedKeep own given → NamedKeep (tag_then tag variants) (λ z. TagThen tag variant (given z))
tag_keeps {P} {own} {given} tag variant variants so keeps = record {
  of_entries = λ es h z p.
      let others = remove_entry (is_text tag) es in
      let same = same_tag tag (flags h false) (flags h true) (lookup (is_text tag) es) in
      let there = beside_kept variant variants so keeps (tag_at tag (named_under (flags h false) es)) others h z p.free p.given in
      record {
        free = subst (λ o. refusal_then o (λ t. variants t.content (named_under (flags h true) others)) ≡ None) same there.0;
        given = subst (λ o. IsTaken o (λ t. t.content ≡ variant) × given z (named_under (flags h true) others)) same there.1;
      };
}

-- the same out of a buffer, where numbers are always coerced
pub tag_keeps_buffered : {P : Type 0} (tag variant : List ℕ) (variants : List ℕ → FieldsLeft → Option Cause) (given : P → FieldsLeft → Type 0)
    → NamedKeep (tag_then_buffered tag variants) (λ z. TagThenBuffered tag variant (given z))
tag_keeps_buffered tag variant variants given = record {
  of_entries = λ es h z p.
      let others = named_under (buffering (flags h true)) (remove_entry (is_text tag) es) in
      let same = same_tag tag (flags h false) (flags h true) (lookup (is_text tag) es) in
      record {
        free = subst (λ o. refusal_then o (λ t. variants t.content others) ≡ None) same p.free;
        given = subst (λ o. IsTaken o (λ t. t.content ≡ variant) × given z others) same p.given;
      };
}

-- the content of a variant, which is sent as a tree that gives only such values, and then the others
pub content_back : {A : Type 0} {rest : Bool → Script} {passes such : A → Type 0} {others : FieldsLeft → Option Cause} {given : A → FieldsLeft → Type 0}
    (name : List ℕ) (script : Bool → Script) (refusal : Refusal) (gives : Gives A)
    → ((f : Flags) → SpellsSuch (λ t. GivesOnly (refusal (tree_under f t)) (gives (tree_under f t)) passes) (script f.human_readable))
    → NamedBack rest others given such
    → NamedBack (field_first name script rest) (row_then name refusal others) (λ y. RowThen name gives y (given y)) (λ y. passes y × such y)
content_back {others} {given} name script refusal gives one more = unfold row_then RowThen in record {
  of_flags = λ f.
      fields_more_such
      (λ t fs content last. entry_first refusal gives others given name (Some (missing_field name)) (λ b. ⊥) (λ y. y) f (tree.text (static_name name)) t (named_entries fs) ((bytes_eq-Decides name name).1 refl) content last)
      (one f) (more.of_flags f);
}

-- what the content of a variant may give without coercion it may give with it, and then the others
pub content_keeps : {A : Type 0} {others : FieldsLeft → Option Cause} {given : A → FieldsLeft → Type 0} (name : List ℕ) (refusal : Refusal) (gives : Gives A)
    → CoercionKeeps refusal gives → NamedKeep others given → NamedKeep (row_then name refusal others) (λ y. RowThen name gives y (given y))
content_keeps name refusal gives keeps more = named_keeps name (λ y. y) keeps more
