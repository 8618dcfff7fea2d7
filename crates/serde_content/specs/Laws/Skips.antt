-- Structs that leave out fields when they are sent come back where each field does, and what is read in place of a missing one equals what is left out.
use Rattle.std.specs.Prelude.{◌≡◌, ℕ, Bool, true, false, List, [], ◌∷◌, Option, None, Some, refl, ⊤}
use Rattle.std.specs.Map.{lookup, remove_entry}
use Rattle.std.specs.Str.{bytes_eq}
use Rattle.std.specs.Option.{is_none, option_eq}
use Rattle.std.specs.List.{AllByRecursion}
use Rattle.std.specs.Cmp.Lexicographic.{pointwise}
use Rattle.std.proofs.Common.{ap}
use Rattle.std.proofs.lemmas.Slice.Eq.{bytes_eq-Decides}
use Rattle.content_tree.specs.Values.Text.{static_name}
use Rattle.content_tree.specs.Values.Tree as tree
use Rattle.content_tree.specs.Values.Tree.{Tree, Fields}
use Rattle.content_tree.specs.Values.Lookups.{is_text}
use Rattle.content_tree.specs.Errors.Cause.{Cause}
use Rattle.content_ser.specs.Calls.Event as event
use Rattle.content_ser.specs.Grammar.Spells.{spells_leaf}
use Rattle.content_ser.specs.Scripts.Script.{Script, stop_with, IsLawful}
use Rattle.content_ser.specs.Scripts.Standard.{ScriptOf}
use Rattle.content_ser.specs.Scripts.Own.{end_script, field_first}
use Rattle.content_ser.specs.Laws.Fits.{AFields, Fits}
use Rattle.content_ser.specs.Laws.OwnScripts.{field_fits}
use Rattle.content_de.specs.Sources.Origin.{Flags}
use Rattle.content_de.specs.Accesses.ByName.{FieldsLeft}
use Rattle.content_de.specs.Reads.Read.{Refusal, Gives}
use Rattle.content_de.specs.Reads.ByName.{missing_field}
use Rattle.content_de.specs.Reads.ByName.{no_others, NoOthers}
use Rattle.serde_content.specs.Literals.{row_then, row_or_then, RowThen, RowOrThen, others_left}
use Rattle.serde_content.specs.Skips.{has_none, field_unless}
use Rattle.serde_content.specs.RoundTrip.{GivesOnly, ComesBack}
use Rattle.serde_content.specs.Laws.Spelled.{FieldsSuch, Spelled, fields_end_such, fields_more_such}
use Rattle.serde_content.specs.Laws.ByName.{NamedBack, named_entries, named_under, skipped_free}
use Rattle.serde_content.specs.Laws.ByName.{entry_refusal, EntryGives, entry_first, fields_seen}

-- a field, unless it is left out, and then the others
pub field_unless_fits : (name : List ℕ) (item rest : Bool → Script) (h skipped : Bool) → IsLawful (item h) → Fits AFields (rest h)
    → Fits AFields (field_unless skipped name item rest h)
field_unless_fits name item rest h true p q = q
field_unless_fits name item rest h false p q = field_fits p q

-- what isn't sent is a lawful script: a whole tree could follow
pub unsent_lawful : (message : List ℕ) → IsLawful (stop_with message)
unsent_lawful message = record { whole = λ e. absurd (cc e); viable = (event.unit ∷ [], (tree.unit, spells_leaf)) }

-- the name is none of these
abbrev pub Apart : List ℕ → List (List ℕ) → Type 0
Apart name names = AllByRecursion (λ other. bytes_eq other name ≡ false) names

-- no entry has the name
pub record Misses (name : List ℕ) (entries : List (Tree × Tree)) : Type 0 where
  pub unfound : lookup (is_text name) entries ≡ None
  pub whole : remove_entry (is_text name) entries ≡ entries

-- fields are sent so that none has a name apart from these, and, taken by name, they aren't refused and give only such values
pub record KeyedBack {Y : Type 0} (names : List (List ℕ)) (script : Bool → Script) (refusal : FieldsLeft → Option Cause) (given : Y → FieldsLeft → Type 0) (such : Y → Type 0) : Type 0 where
  pub of_flags : (f : Flags)
      → Spelled (FieldsSuch (λ fs. ((name : List ℕ) → Apart name names → Misses name (named_entries fs))
      × GivesOnly (refusal (named_under f (named_entries fs))) (λ y. given y (named_under f (named_entries fs))) such)) (script f.human_readable)

-- no field, where others are skipped
pub keyed_skipped_back : {Y : Type 0} (known : List (List ℕ)) → KeyedBack {Y = Y} [] end_script (others_left known) (λ y. NoOthers) (λ y. ⊤)
keyed_skipped_back known = unfold others_left in record {
  of_flags = λ f. fields_end_such ((λ name apart. record { unfound = refl; whole = refl }), record { free = skipped_free known f; only = λ y h. tt });
}

-- no field, where there are no others
pub keyed_closed_back : {Y : Type 0} (known : List (List ℕ)) → KeyedBack {Y = Y} [] end_script (no_others known) (λ y. NoOthers) (λ y. ⊤)
keyed_closed_back known = record {
  of_flags = λ f. fields_end_such ((λ name apart. record { unfound = refl; whole = refl }), record { free = refl; only = λ y h. tt });
}

-- an entry of another name
misses_more : (name other : List ℕ) (t : Tree) (es : List (Tree × Tree)) → bytes_eq other name ≡ false → Misses name es → Misses name ((tree.text (static_name other), t) ∷ es)
misses_more name other t es differs misses = record {
  unfound = rw differs misses.unfound;
  whole = rw differs (ap (λ rest. (tree.text (static_name other), t) ∷ rest) misses.whole);
}

-- a field, whatever a missing one comes to, and then the others
keyed_entry_back : {A Y : Type 0} {exists : A → Type 0} {script : ScriptOf A} {refusal : Refusal} {gives : Gives A} {eq : A → A → Bool} {rest : Bool → Script} {others : FieldsLeft → Option Cause}
    {given : Y → FieldsLeft → Type 0} {such : Y → Type 0} {names : List (List ℕ)} (name : List ℕ) (absent : Option Cause) (missing : A → Type 0) → ComesBack exists script refusal gives eq → (x : A) → exists x
    → (see : Y → A) → KeyedBack names rest others given such
    → KeyedBack (name ∷ names) (field_first name (script x) rest) (entry_refusal name absent refusal others) (λ y. EntryGives name missing gives (see y) (given y)) (λ y. (eq x (see y) ≡ true) × such y)
keyed_entry_back {refusal} {gives} {others} {given} name absent missing back x real see more = record {
  of_flags = λ f.
      fields_more_such
      (λ t fs one last. (
        (λ other apart. misses_more other name t (named_entries fs) apart.0 (last.0 other apart.1)),
        entry_first refusal gives others given name absent missing see f (tree.text (static_name name)) t (named_entries fs) ((bytes_eq-Decides name name).1 refl) one last.1,
      ))
      (back.of_value x real f) (more.of_flags f);
}

-- a field, and then the others
pub keyed_back : {A Y : Type 0} {exists : A → Type 0} {script : ScriptOf A} {refusal : Refusal} {gives : Gives A} {eq : A → A → Bool} {rest : Bool → Script} {others : FieldsLeft → Option Cause}
    {given : Y → FieldsLeft → Type 0} {such : Y → Type 0} {names : List (List ℕ)} (name : List ℕ) → ComesBack exists script refusal gives eq → (x : A) → exists x → (see : Y → A)
    → KeyedBack names rest others given such
    → KeyedBack (name ∷ names) (field_first name (script x) rest) (row_then name refusal others) (λ y. RowThen name gives (see y) (given y)) (λ y. (eq x (see y) ≡ true) × such y)
keyed_back name back x real see more = unfold row_then RowThen in keyed_entry_back name (Some (missing_field name)) (λ b. ⊥) back x real see more

-- a field that may be missing, and then the others
pub keyed_or_back : {A Y : Type 0} {exists : A → Type 0} {script : ScriptOf A} {refusal : Refusal} {gives : Gives A} {eq : A → A → Bool} {rest : Bool → Script} {others : FieldsLeft → Option Cause}
    {given : Y → FieldsLeft → Type 0} {such : Y → Type 0} {names : List (List ℕ)} (name : List ℕ) (missing : A → Type 0) → ComesBack exists script refusal gives eq → (x : A) → exists x → (see : Y → A)
    → KeyedBack names rest others given such
    → KeyedBack (name ∷ names) (field_first name (script x) rest) (row_or_then name refusal others) (λ y. RowOrThen name missing gives (see y) (given y)) (λ y. (eq x (see y) ≡ true) × such y)
keyed_or_back name missing back x real see more = unfold row_or_then RowOrThen in keyed_entry_back name None missing back x real see more

-- no entry has the name: what is read in its place passes
pub entry_missing : {A Y : Type 0} {passes : A → Type 0} {such : Y → Type 0} (refusal : Refusal) (gives : Gives A) (others : FieldsLeft → Option Cause) (given : Y → FieldsLeft → Type 0)
    (name : List ℕ) (missing : A → Type 0) (see : Y → A) (f : Flags) (es : List (Tree × Tree)) → Misses name es → ((a : A) → missing a → passes a)
    → GivesOnly (others (named_under f es)) (λ y. given y (named_under f es)) such
    → GivesOnly (entry_refusal name None refusal others (named_under f es)) (λ y. EntryGives name missing gives (see y) (given y) (named_under f es)) (λ y. passes (see y) × such y)
entry_missing refusal gives others given name missing see f es misses pass last = rw misses.unfound (rw misses.whole (record {
  free = last.free;
  only = λ y h. (pass (see y) h.0, last.only y h.1);
}))

-- a field that may be missing, unless it is left out, and then the others
pub keyed_unless_back : {A Y : Type 0} {exists : A → Type 0} {script : ScriptOf A} {refusal : Refusal} {gives : Gives A} {eq : A → A → Bool} {rest : Bool → Script} {others : FieldsLeft → Option Cause}
    {given : Y → FieldsLeft → Type 0} {such : Y → Type 0} {names : List (List ℕ)} (name : List ℕ) (missing : A → Type 0) (skipped : Bool) → ComesBack exists script refusal gives eq → (x : A) → exists x
    → (skipped ≡ true → (a : A) → missing a → eq x a ≡ true) → Apart name names → (see : Y → A)
    → KeyedBack names rest others given such
    → KeyedBack (name ∷ names) (field_unless skipped name (script x) rest) (row_or_then name refusal others) (λ y. RowOrThen name missing gives (see y) (given y)) (λ y. (eq x (see y) ≡ true) × such y)
keyed_unless_back {refusal} {gives} {others} {given} name missing true back x real alike apart see more = unfold row_or_then RowOrThen in record {
  of_flags = λ f. fields_seen
      (λ fs there. (
        (λ other differs. there.0 other differs.1),
        entry_missing refusal gives others given name missing see f (named_entries fs) (there.0 name apart) (alike refl) there.1,
      ))
      (more.of_flags f);
}
keyed_unless_back name missing false back x real alike apart see more = keyed_or_back name missing back x real see more

-- such fields come back
pub keyed_named : {Y : Type 0} {names : List (List ℕ)} {script : Bool → Script} {refusal : FieldsLeft → Option Cause} {given : Y → FieldsLeft → Type 0} {such : Y → Type 0}
    → KeyedBack names script refusal given such → NamedBack script refusal given such
keyed_named fields = record { of_flags = λ f. fields_seen (λ fs there. there.1) (fields.of_flags f) }

-- what is read in place of an option that is left out equals it
pub none_alike : {A : Type 0} (eq : A → A → Bool) (x : Option A) → is_none x ≡ true → (y : Option A) → y ≡ None → option_eq eq x y ≡ true
none_alike eq None empty y absent = rw absent refl
none_alike eq (Some a) empty y absent = absurd (cc empty)

-- what is read in place of items that are left out equals them
pub no_items_alike : {A : Type 0} (eq : A → A → Bool) (xs : List A) → has_none xs ≡ true → (ys : List A) → ys ≡ [] → pointwise eq xs ys ≡ true
no_items_alike eq [] empty ys absent = rw absent refl
no_items_alike eq (x ∷ xs) empty ys absent = absurd (cc empty)
