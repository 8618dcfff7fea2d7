-- Values by key come back where each field does.
use Rattle.std.specs.Prelude.{◌≡◌, ℕ, suc, Bool, true, false, List, [], ◌∷◌, Option, None, Some}
use Rattle.std.specs.Prelude.{refl, ⊤, codes}
use Rattle.std.proofs.lemmas.Slice.Eq.{bytes_eq-Decides}
use Rattle.content_tree.specs.Values.Text.{Text}
use Rattle.content_tree.specs.Values.Tree.{Tree}
use Rattle.content_tree.specs.Errors.Cause.{Cause, custom}
use Rattle.content_ser.specs.Grammar.Spells.{spells_record}
use Rattle.content_ser.specs.Grammar.Token as token
use Rattle.content_ser.specs.Calls.Head.{of_struct}
use Rattle.content_ser.specs.Scripts.Script.{Script}
use Rattle.content_ser.specs.Scripts.Standard.{ScriptOf}
use Rattle.content_ser.specs.Scripts.Own.{end_script, field_first, struct_script}
use Rattle.content_ser.specs.Scripts.Own.{newtype_struct_script}
use Rattle.content_de.specs.Sources.Origin.{Origin, of_tree, of_identifier, Flags, tree_under, under}
use Rattle.content_de.specs.Outcomes.{Outcome, taken, refused, outcome_map, refusal_then, IsTaken}
use Rattle.content_de.specs.Requests.Leaves.{text_from}
use Rattle.content_de.specs.Requests.Compounds.{entries_of_fields, newtype_in, struct_from}
use Rattle.content_de.specs.Accesses.Map.{MapLeft, entries_under}
use Rattle.content_de.specs.Reads.Read.{Refusal, Gives, first_of}
use Rattle.content_de.specs.Reads.Own.{struct_refusal, StructGives, unless_named, field_then}
use Rattle.content_de.specs.Reads.Own.{no_field}
use Rattle.content_de.specs.Reads.Own.{FieldThen, NoField, newtype_struct_refusal}
use Rattle.content_de.specs.Reads.Own.{NewtypeStructGives}
use Rattle.serde_content.specs.RoundTrip.{SpellsSuch, GivesOnly, ComesBack, MayGive, CoercionKeeps}
use Rattle.serde_content.specs.RoundTrip.{flags}
use Rattle.serde_content.specs.Laws.Spelled.{FieldsSuch, Spelled, spelled_call, such_spelled}
use Rattle.serde_content.specs.Laws.Spelled.{wrapped_such, fields_end_such, fields_more_such}
use Rattle.serde_content.specs.Laws.Holders.{both_free, first_free, second_free}

-- fields are sent so that, from any place on, they aren't refused and give only such values
pub record FieldsBack {Y : Type 0} (script : Bool → Script) (refusal : MapLeft → Option Cause) (given : Y → MapLeft → Type 0) (such : Y → Type 0) : Type 0 where
  pub of_flags : (f : Flags)
      → Spelled (FieldsSuch (λ fs. (place : ℕ) → GivesOnly (refusal (entries_under f (entries_of_fields place fs))) (λ y. given y (entries_under f (entries_of_fields place fs))) such)) (script f.human_readable)

-- no field
pub fields_end_back : {Y : Type 0} → FieldsBack {Y = Y} end_script no_field (λ y. NoField) (λ y. ⊤)
fields_end_back = record { of_flags = λ f. fields_end_such (λ place. record { free = refl; only = λ y h. tt }) }

-- a name is itself
pub named_itself : (name : List ℕ) (c : Cause) → unless_named name name c ≡ None
named_itself name c = rw ((bytes_eq-Decides name name).1 refl) refl

-- a field, and then the others
pub field_back : {A Y : Type 0} {exists : A → Type 0} {script : ScriptOf A} {refusal : Refusal} {gives : Gives A} {eq : A → A → Bool} {rest : Bool → Script} {others : MapLeft → Option Cause}
    {given : Y → MapLeft → Type 0} {such : Y → Type 0} (name : List ℕ) → ComesBack exists script refusal gives eq → (x : A) → exists x → (see : Y → A)
    → FieldsBack rest others given such
    → FieldsBack (field_first name (script x) rest) (field_then name refusal others) (λ y. FieldThen gives (see y) (given y)) (λ y. (eq x (see y) ≡ true) × such y)
field_back name back x real see more = record {
  of_flags = λ f.
      fields_more_such
      (λ t fs one last place. record {
        free = both_free (both_free one.free (named_itself name _)) (last (suc place)).free;
        only = λ y h. (one.only (see y) h.0, (last (suc place)).only y h.1);
      })
      (back.of_value x real f) (more.of_flags f);
}

-- a struct of these fields
pub struct_back : {Y : Type 0} {script : Bool → Script} {refusal : MapLeft → Option Cause} {given : Y → MapLeft → Type 0} {such passes : Y → Type 0} {name : List ℕ} {len : ℕ}
    → FieldsBack script refusal given such → (f : Flags) → ((y : Y) → such y → passes y)
    → SpellsSuch (λ t. GivesOnly (struct_refusal name refusal (tree_under f t)) (λ y. StructGives name (given y) (tree_under f t)) passes) (struct_script name len script f.human_readable)
struct_back fields f pass =
    such_spelled (spelled_call (λ calls rest e. (_, spells_record e.1, record { free = (e.2 0).free; only = λ y h. pass y ((e.2 0).only y h) })) (fields.of_flags f))

-- a struct around one value
pub newtype_struct_back : {A Y : Type 0} {exists : A → Type 0} {script : ScriptOf A} {refusal : Refusal} {gives : Gives A} {eq : A → A → Bool} {passes : Y → Type 0} {name : List ℕ}
    → ComesBack exists script refusal gives eq → (x : A) → exists x → (see : Y → A) (f : Flags) → ((y : Y) → eq x (see y) ≡ true → passes y)
    → SpellsSuch (λ t. GivesOnly (newtype_struct_refusal name refusal (tree_under f t)) (λ y. NewtypeStructGives name gives (see y) (tree_under f t)) passes) (newtype_struct_script name (script x) f.human_readable)
newtype_struct_back {name} back x real see f pass =
    wrapped_such (token.in_head (of_struct name)) refl (λ t one. record { free = one.free; only = λ y h. pass y (one.only (see y) h) }) (back.of_value x real f)

-- what entries may give as fields without coercion they may give with it
pub record FieldsKeep {Y : Type 0} (refusal : MapLeft → Option Cause) (given : Y → MapLeft → Type 0) : Type 0 where
  pub of_entries : (es : List (Origin × Tree)) (h : Bool) (y : Y)
      → MayGive (refusal (entries_under (flags h false) es)) (λ z. given z (entries_under (flags h false) es)) y
      → MayGive (refusal (entries_under (flags h true) es)) (λ z. given z (entries_under (flags h true) es)) y

-- no field
pub fields_end_keeps : {Y : Type 0} → FieldsKeep {Y = Y} no_field (λ y. NoField)
fields_end_keeps = record { of_entries = λ es h y p. record { free = refl; given = tt } }

-- the value of a field, whatever its key
named_kept : {A : Type 0} (refusal : Refusal) (gives : Gives A) (name : List ℕ) (c : Cause) → CoercionKeeps refusal gives → (key : Outcome Text) (t : Tree) (h : Bool) (x : A)
    → refusal_then key (λ k. first_of (refusal (tree_under (flags h false) t)) (unless_named name k.content c)) ≡ None → gives (tree_under (flags h false) t) x
    → MayGive (refusal_then key (λ k. first_of (refusal (tree_under (flags h true) t)) (unless_named name k.content c))) (gives (tree_under (flags h true) t)) x
named_kept refusal gives name c keeps (taken k) t h x free given =
    let one = keeps.of_origin (of_tree t) h x (record { free = first_free _ _ free; given = given }) in
    record { free = both_free one.free (second_free (refusal (tree_under (flags h false) t)) _ free); given = one.given }
named_kept refusal gives name c keeps (refused d) t h x free given = absurd (cc free)

-- one field, and then the others
field_kept : {A Y : Type 0} {refusal : Refusal} {gives : Gives A} {others : MapLeft → Option Cause} {given : Y → MapLeft → Type 0} (name : List ℕ) (see : Y → A)
    → CoercionKeeps refusal gives → FieldsKeep others given → (es : List (Origin × Tree)) (h : Bool) (y : Y)
    → MayGive (field_then name refusal others (entries_under (flags h false) es)) (λ z. FieldThen gives (see z) (given z) (entries_under (flags h false) es)) y
    → MayGive (field_then name refusal others (entries_under (flags h true) es)) (λ z. FieldThen gives (see z) (given z) (entries_under (flags h true) es)) y
field_kept name see keeps more [] h y p = absurd p.given.0
field_kept {refusal} {gives} name see keeps more ((of_tree u, t) ∷ es) h y p =
    let one = named_kept refusal gives name (custom (codes "unexpected field")) keeps (text_from (of_tree u)) t h (see y) (first_free _ _ p.free) p.given.0 in
    let last = more.of_entries es h y (record { free = second_free _ _ p.free; given = p.given.1 }) in
    record { free = both_free one.free last.free; given = (one.given, last.given) }
field_kept {refusal} {gives} name see keeps more ((of_identifier n i, t) ∷ es) h y p =
    let one = named_kept refusal gives name (custom (codes "unexpected field")) keeps (text_from (of_identifier n i)) t h (see y) (first_free _ _ p.free) p.given.0 in
    let last = more.of_entries es h y (record { free = second_free _ _ p.free; given = p.given.1 }) in
    record { free = both_free one.free last.free; given = (one.given, last.given) }

-- the same
pub field_keeps : {A Y : Type 0} {refusal : Refusal} {gives : Gives A} {others : MapLeft → Option Cause} {given : Y → MapLeft → Type 0} (name : List ℕ) (see : Y → A)
    → CoercionKeeps refusal gives → FieldsKeep others given → FieldsKeep (field_then name refusal others) (λ y. FieldThen gives (see y) (given y))
field_keeps name see keeps more = record { of_entries = λ es h y p. field_kept name see keeps more es h y p }

-- entries that a request comes to
pub entries_kept : {Y : Type 0} {refusal : MapLeft → Option Cause} {given : Y → MapLeft → Type 0} → FieldsKeep refusal given → (entries : Outcome (List (Origin × Tree))) (h : Bool) (y : Y)
    → MayGive (refusal_then (outcome_map (entries_under (flags h false)) entries) refusal) (λ z. IsTaken (outcome_map (entries_under (flags h false)) entries) (given z)) y
    → MayGive (refusal_then (outcome_map (entries_under (flags h true)) entries) refusal) (λ z. IsTaken (outcome_map (entries_under (flags h true)) entries) (given z)) y
entries_kept fields (taken es) h y p = let there = fields.of_entries es h y (record { free = p.free; given = p.given }) in record { free = there.free; given = there.given }
entries_kept fields (refused c) h y p = absurd p.given

-- a struct of such fields
pub struct_keeps : {Y : Type 0} {refusal : MapLeft → Option Cause} {given : Y → MapLeft → Type 0} (name : List ℕ) → FieldsKeep refusal given
    → CoercionKeeps (struct_refusal name refusal) (λ s y. StructGives name (given y) s)
struct_keeps name fields = record { of_origin = λ o h y p. let there = entries_kept fields (struct_from name o) h y (record { free = p.free; given = p.given }) in record { free = there.free; given = there.given } }

-- what a newtype struct holds, or the tree itself
newtype_kept : {A : Type 0} {refusal : Refusal} {gives : Gives A} → CoercionKeeps refusal gives → (t : Tree) (u : Option Tree) (h : Bool) (x : A)
    → MayGive (refusal_then (elim u [ Some v ↦ taken (tree_under (flags h false) v) | None ↦ taken (tree_under (flags h false) t) ]) refusal)
    (λ y. IsTaken (elim u [ Some v ↦ taken (tree_under (flags h false) v) | None ↦ taken (tree_under (flags h false) t) ]) (λ held. gives held y)) x
    → MayGive (refusal_then (elim u [ Some v ↦ taken (tree_under (flags h true) v) | None ↦ taken (tree_under (flags h true) t) ]) refusal)
    (λ y. IsTaken (elim u [ Some v ↦ taken (tree_under (flags h true) v) | None ↦ taken (tree_under (flags h true) t) ]) (λ held. gives held y)) x
newtype_kept keeps t None h x p = let there = keeps.of_origin (of_tree t) h x (record { free = p.free; given = p.given }) in record { free = there.free; given = there.given }
newtype_kept keeps t (Some u) h x p = let there = keeps.of_origin (of_tree u) h x (record { free = p.free; given = p.given }) in record { free = there.free; given = there.given }

-- the same, whatever is read
newtype_struct_kept : {A : Type 0} {refusal : Refusal} {gives : Gives A} (name : List ℕ) → CoercionKeeps refusal gives → (o : Origin) (h : Bool) (x : A)
    → MayGive (newtype_struct_refusal name refusal (under (flags h false) o)) (λ y. NewtypeStructGives name gives y (under (flags h false) o)) x
    → MayGive (newtype_struct_refusal name refusal (under (flags h true) o)) (λ y. NewtypeStructGives name gives y (under (flags h true) o)) x
newtype_struct_kept name keeps (of_tree t) h x p = let there = newtype_kept keeps t (newtype_in t) h x (record { free = p.free; given = p.given }) in record { free = there.free; given = there.given }
newtype_struct_kept name keeps (of_identifier n i) h x p = absurd p.given

-- a struct around one value
pub newtype_struct_keeps : {A : Type 0} {refusal : Refusal} {gives : Gives A} (name : List ℕ) → CoercionKeeps refusal gives
    → CoercionKeeps (newtype_struct_refusal name refusal) (λ s x. NewtypeStructGives name gives x s)
newtype_struct_keeps name keeps = record { of_origin = λ o h x p. newtype_struct_kept name keeps o h x p }
