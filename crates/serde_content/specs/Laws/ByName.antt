-- Fields that are taken by name come back where each field does.
use Rattle.std.specs.Prelude.{◌≡◌, ℕ, suc, Bool, true, false, List, [], ◌∷◌, map, Option, None, Some, option_map}
use Rattle.std.specs.Prelude.{refl, ⊤}
use Rattle.std.specs.Map.{lookup, remove_entry}
use Rattle.std.proofs.Common.{ap, subst}
use Rattle.std.proofs.lemmas.Slice.Eq.{bytes_eq-Decides}
use Rattle.content_tree.specs.Values.Text.{static_name}
use Rattle.content_tree.specs.Values.Tree as tree
use Rattle.content_tree.specs.Values.Tree.{Tree, Fields}
use Rattle.content_tree.specs.Values.Lookups.{is_text}
use Rattle.content_tree.specs.Errors.Cause.{Cause}
use Rattle.content_ser.specs.Scripts.Script.{Script}
use Rattle.content_ser.specs.Scripts.Standard.{ScriptOf}
use Rattle.content_ser.specs.Scripts.Own.{end_script, field_first}
use Rattle.content_de.specs.Sources.Origin.{of_tree, Flags, tree_under}
use Rattle.content_de.specs.Requests.Compounds.{entries_of_fields}
use Rattle.content_de.specs.Accesses.ByName.{FieldsLeft, key_tree, field_named, without_field}
use Rattle.content_de.specs.Reads.Read.{Refusal, Gives, first_of}
use Rattle.content_de.specs.Reads.ByName.{found_refusal, FoundGives, missing_field, duplicate_field}
use Rattle.content_de.specs.Reads.ByName.{others_skipped, no_others, NoOthers}
use Rattle.content_de.specs.Reads.ByName.{read_by_name, ReadByName}
use Rattle.serde_content.specs.Literals.{row_then, row_or_then, RowThen, RowOrThen, others_left}
use Rattle.serde_content.specs.RoundTrip.{GivesOnly, ComesBack, MayGive, CoercionKeeps, flags}
use Rattle.serde_content.specs.Laws.Spelled.{FieldsSuch, Spelled, fields_end_such, fields_more_such}
use Rattle.serde_content.specs.Laws.Holders.{both_free, first_free, second_free}
use Rattle.serde_content.specs.Laws.Records.{FieldsBack, FieldsKeep}

-- fields as entries, each key a text
abbrev pub named_entries : Fields → List (Tree × Tree)
named_entries tree.no_fields = []
named_entries (tree.field_then k t fs) = (tree.text k, t) ∷ named_entries fs

-- entries under these flags
abbrev pub named_under : Flags → List (Tree × Tree) → FieldsLeft
named_under f es = record { entries = es; flags = f }

-- fields are sent so that, taken by name, they aren't refused and give only such values
pub record NamedBack {Y : Type 0} (script : Bool → Script) (refusal : FieldsLeft → Option Cause) (given : Y → FieldsLeft → Type 0) (such : Y → Type 0) : Type 0 where
  pub of_flags : (f : Flags)
      → Spelled (FieldsSuch (λ fs. GivesOnly (refusal (named_under f (named_entries fs))) (λ y. given y (named_under f (named_entries fs))) such)) (script f.human_readable)

-- none of the names is among no entries
pub skipped_free : (known : List (List ℕ)) (f : Flags) → others_skipped known (named_under f []) ≡ None
skipped_free [] f = refl
skipped_free (name ∷ known) f = skipped_free known f

-- no field, where others are skipped
pub skipped_back : {Y : Type 0} (known : List (List ℕ)) → NamedBack {Y = Y} end_script (others_left known) (λ y. NoOthers) (λ y. ⊤)
skipped_back known = unfold others_left in record { of_flags = λ f. fields_end_such (record { free = skipped_free known f; only = λ y h. tt }) }

-- no field, where there are no others
pub closed_back : {Y : Type 0} (known : List (List ℕ)) → NamedBack {Y = Y} end_script (no_others known) (λ y. NoOthers) (λ y. ⊤)
closed_back known = record { of_flags = λ f. fields_end_such (record { free = refl; only = λ y h. tt }) }

-- a field of this name, whatever a missing one comes to, and then the others
abbrev pub entry_refusal : List ℕ → Option Cause → Refusal → (FieldsLeft → Option Cause) → FieldsLeft → Option Cause
entry_refusal name missing refusal others f = first_of (found_refusal missing refusal (field_named name f)) (others (without_field name f))

-- what they give
abbrev pub EntryGives : {A : Type 0} → List ℕ → (A → Type 0) → Gives A → A → (FieldsLeft → Type 0) → FieldsLeft → Type 0
EntryGives name missing gives a others f = FoundGives missing gives (field_named name f) a × others (without_field name f)

-- the first entry has the name
pub entry_first : {A Y : Type 0} {passes : A → Type 0} {such : Y → Type 0} (refusal : Refusal) (gives : Gives A) (others : FieldsLeft → Option Cause) (given : Y → FieldsLeft → Type 0)
    (name : List ℕ) (absent : Option Cause) (missing : A → Type 0) (see : Y → A) (f : Flags) (k t : Tree) (es : List (Tree × Tree)) → is_text name k ≡ true
    → GivesOnly (refusal (tree_under f t)) (gives (tree_under f t)) passes → GivesOnly (others (named_under f es)) (λ y. given y (named_under f es)) such
    → GivesOnly (entry_refusal name absent refusal others (named_under f ((k, t) ∷ es))) (λ y. EntryGives name missing gives (see y) (given y) (named_under f ((k, t) ∷ es))) (λ y. passes (see y) × such y)
entry_first refusal gives others given name absent missing see f k t es is one last = rw is (record {
  free = both_free one.free last.free;
  only = λ y h. (one.only (see y) h.0, last.only y h.1);
})

-- a field, whatever a missing one comes to, and then the others
entry_back : {A Y : Type 0} {exists : A → Type 0} {script : ScriptOf A} {refusal : Refusal} {gives : Gives A} {eq : A → A → Bool} {rest : Bool → Script} {others : FieldsLeft → Option Cause}
    {given : Y → FieldsLeft → Type 0} {such : Y → Type 0} (name : List ℕ) (absent : Option Cause) (missing : A → Type 0) → ComesBack exists script refusal gives eq → (x : A) → exists x → (see : Y → A)
    → NamedBack rest others given such
    → NamedBack (field_first name (script x) rest) (entry_refusal name absent refusal others) (λ y. EntryGives name missing gives (see y) (given y)) (λ y. (eq x (see y) ≡ true) × such y)
entry_back {refusal} {gives} {others} {given} name absent missing back x real see more = record {
  of_flags = λ f.
      fields_more_such
      (λ t fs one last. entry_first refusal gives others given name absent missing see f (tree.text (static_name name)) t (named_entries fs) ((bytes_eq-Decides name name).1 refl) one last)
      (back.of_value x real f) (more.of_flags f);
}

-- a field, and then the others
pub named_back : {A Y : Type 0} {exists : A → Type 0} {script : ScriptOf A} {refusal : Refusal} {gives : Gives A} {eq : A → A → Bool} {rest : Bool → Script} {others : FieldsLeft → Option Cause}
    {given : Y → FieldsLeft → Type 0} {such : Y → Type 0} (name : List ℕ) → ComesBack exists script refusal gives eq → (x : A) → exists x → (see : Y → A)
    → NamedBack rest others given such
    → NamedBack (field_first name (script x) rest) (row_then name refusal others) (λ y. RowThen name gives (see y) (given y)) (λ y. (eq x (see y) ≡ true) × such y)
named_back name back x real see more = unfold row_then RowThen in entry_back name (Some (missing_field name)) (λ b. ⊥) back x real see more

-- a field that may be missing, and then the others
pub named_or_back : {A Y : Type 0} {exists : A → Type 0} {script : ScriptOf A} {refusal : Refusal} {gives : Gives A} {eq : A → A → Bool} {rest : Bool → Script} {others : FieldsLeft → Option Cause}
    {given : Y → FieldsLeft → Type 0} {such : Y → Type 0} (name : List ℕ) (missing : A → Type 0) → ComesBack exists script refusal gives eq → (x : A) → exists x → (see : Y → A)
    → NamedBack rest others given such
    → NamedBack (field_first name (script x) rest) (row_or_then name refusal others) (λ y. RowOrThen name missing gives (see y) (given y)) (λ y. (eq x (see y) ≡ true) × such y)
named_or_back name missing back x real see more = unfold row_or_then RowOrThen in entry_back name None missing back x real see more

-- a field's key as a tree is its text
pub entries_by_name : (place : ℕ) (fs : Fields) → named_entries fs ≡ map (λ e. (key_tree e.0, e.1)) (entries_of_fields place fs)
entries_by_name place tree.no_fields = refl
entries_by_name place (tree.field_then k t fs) = ap (λ es. (tree.text k, t) ∷ es) (entries_by_name (suc place) fs)

-- such fields, seen from another place
pub fields_seen : {p q : Fields → Type 0} {sc : Script} → ((fs : Fields) → p fs → q fs) → Spelled (FieldsSuch p) sc → Spelled (FieldsSuch q) sc
fields_seen see s = record { free = s.free; reads = λ rest. let there = s.reads rest in (there.0, there.1, see there.0 there.2) }

-- fields by name are fields
pub by_name_back : {Y : Type 0} {script : Bool → Script} {refusal : FieldsLeft → Option Cause} {given : Y → FieldsLeft → Type 0} {such : Y → Type 0}
    → NamedBack script refusal given such → FieldsBack script (read_by_name refusal) (λ y. ReadByName (given y)) such
by_name_back {Y} {script} {refusal} {given} {such} fields = record {
  of_flags = λ f. fields_seen
      (λ fs there place. subst (λ es. GivesOnly (refusal (named_under f es)) (λ y. given y (named_under f es)) such) (entries_by_name place fs) there)
      (fields.of_flags f);
}

-- what entries may give by name without coercion they may give with it
pub record NamedKeep {Y : Type 0} (refusal : FieldsLeft → Option Cause) (given : Y → FieldsLeft → Type 0) : Type 0 where
  pub of_entries : (es : List (Tree × Tree)) (h : Bool) (y : Y)
      → MayGive (refusal (named_under (flags h false) es)) (λ z. given z (named_under (flags h false) es)) y
      → MayGive (refusal (named_under (flags h true) es)) (λ z. given z (named_under (flags h true) es)) y

-- an entry that isn't there isn't there under other flags
one_skipped : (name : List ℕ) (f g : Flags) (o : Option Tree) → found_refusal None (λ s. Some (duplicate_field name)) (option_map (tree_under f) o) ≡ None
    → found_refusal None (λ s. Some (duplicate_field name)) (option_map (tree_under g) o) ≡ None
one_skipped name f g None free = refl
one_skipped name f g (Some t) free = absurd (cc free)

-- nor are those of all names
all_skipped : (known : List (List ℕ)) (f g : Flags) (es : List (Tree × Tree)) → others_skipped known (named_under f es) ≡ None → others_skipped known (named_under g es) ≡ None
all_skipped [] f g es free = refl
all_skipped (name ∷ known) f g es free =
    both_free (one_skipped name f g (lookup (is_text name) es) (first_free _ _ free))
    (all_skipped known f g es (second_free (found_refusal None (λ s. Some (duplicate_field name)) (field_named name (named_under f es))) _ free))

-- no field, where others are skipped
pub skipped_keeps : {Y : Type 0} (known : List (List ℕ)) → NamedKeep {Y = Y} (others_left known) (λ y. NoOthers)
skipped_keeps known = unfold others_left in record { of_entries = λ es h y p. record { free = all_skipped known (flags h false) (flags h true) es p.free; given = tt } }

-- no field, where there are no others
pub closed_keeps : {Y : Type 0} (known : List (List ℕ)) → NamedKeep {Y = Y} (no_others known) (λ y. NoOthers)
closed_keeps known = record { of_entries = λ es h y p. record { free = p.free; given = tt } }

-- the value of an entry, where there is one
found_kept : {A : Type 0} {refusal : Refusal} {gives : Gives A} (absent : Option Cause) (missing : A → Type 0) → CoercionKeeps refusal gives → (h : Bool) (x : A) (o : Option Tree)
    → MayGive (found_refusal absent refusal (option_map (tree_under (flags h false)) o)) (FoundGives missing gives (option_map (tree_under (flags h false)) o)) x
    → MayGive (found_refusal absent refusal (option_map (tree_under (flags h true)) o)) (FoundGives missing gives (option_map (tree_under (flags h true)) o)) x
found_kept absent missing keeps h x None p = record { free = p.free; given = p.given }
found_kept absent missing keeps h x (Some t) p = let there = keeps.of_origin (of_tree t) h x (record { free = p.free; given = p.given }) in record { free = there.free; given = there.given }

-- a field, whatever a missing one comes to, and then the others
entry_keeps : {A Y : Type 0} {refusal : Refusal} {gives : Gives A} {others : FieldsLeft → Option Cause} {given : Y → FieldsLeft → Type 0} (name : List ℕ) (absent : Option Cause) (missing : A → Type 0)
    (see : Y → A) → CoercionKeeps refusal gives → NamedKeep others given → NamedKeep (entry_refusal name absent refusal others) (λ y. EntryGives name missing gives (see y) (given y))
entry_keeps {refusal} name absent missing see keeps more = record {
  of_entries = λ es h y p.
      let one = found_kept absent missing keeps h (see y) (lookup (is_text name) es) (record { free = first_free _ _ p.free; given = p.given.0 }) in
      let last = more.of_entries (remove_entry (is_text name) es) h y (record { free = second_free (found_refusal absent refusal (field_named name (named_under (flags h false) es))) _ p.free; given = p.given.1 }) in
      record { free = both_free one.free last.free; given = (one.given, last.given) };
}

-- a field, and then the others
pub named_keeps : {A Y : Type 0} {refusal : Refusal} {gives : Gives A} {others : FieldsLeft → Option Cause} {given : Y → FieldsLeft → Type 0} (name : List ℕ) (see : Y → A)
    → CoercionKeeps refusal gives → NamedKeep others given → NamedKeep (row_then name refusal others) (λ y. RowThen name gives (see y) (given y))
named_keeps name see keeps more = unfold row_then RowThen in entry_keeps name (Some (missing_field name)) (λ b. ⊥) see keeps more

-- a field that may be missing, and then the others
pub named_or_keeps : {A Y : Type 0} {refusal : Refusal} {gives : Gives A} {others : FieldsLeft → Option Cause} {given : Y → FieldsLeft → Type 0} (name : List ℕ) (missing : A → Type 0) (see : Y → A)
    → CoercionKeeps refusal gives → NamedKeep others given → NamedKeep (row_or_then name refusal others) (λ y. RowOrThen name missing gives (see y) (given y))
named_or_keeps name missing see keeps more = unfold row_or_then RowOrThen in entry_keeps name None missing see keeps more

-- fields by name are fields
pub by_name_keeps : {Y : Type 0} {refusal : FieldsLeft → Option Cause} {given : Y → FieldsLeft → Type 0} → NamedKeep refusal given → FieldsKeep (read_by_name refusal) (λ y. ReadByName (given y))
by_name_keeps fields = record {
  of_entries = λ es h y p.
      let there = fields.of_entries (map (λ e. (key_tree e.0, e.1)) es) h y (record { free = p.free; given = p.given }) in
      record { free = there.free; given = there.given };
}
