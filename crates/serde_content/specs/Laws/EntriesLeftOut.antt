-- Structs with flattened fields that leave out fields when they are sent come back where each field does, and what is read in place of a missing one equals what is left out.
use Rattle.std.specs.Prelude.{◌≡◌, ℕ, Bool, true, false, List, [], ◌∷◌, map, Option, None, Some, refl, ⊤}
use Rattle.std.specs.Str.{bytes_eq}
use Rattle.std.proofs.Common.{ap}
use Rattle.std.proofs.lemmas.Slice.Eq.{bytes_eq-Decides}
use Rattle.content_tree.specs.Values.Text.{owned_text}
use Rattle.content_tree.specs.Values.Tree as tree
use Rattle.content_tree.specs.Values.Tree.{Tree, Pairs}
use Rattle.content_tree.specs.Errors.Cause.{Cause}
use Rattle.content_ser.specs.Grammar.Spells.{items_end, pairs}
use Rattle.content_ser.specs.Scripts.Script.{Script}
use Rattle.content_ser.specs.Scripts.Standard.{ScriptOf}
use Rattle.content_ser.specs.Scripts.Own.{end_script}
use Rattle.content_de.specs.Sources.Origin.{Flags, tree_under}
use Rattle.content_de.specs.Requests.Compounds.{entries_of_pairs}
use Rattle.content_de.specs.Accesses.Map.{entries_under}
use Rattle.content_de.specs.Accesses.ByName.{FieldsLeft, key_tree, by_name}
use Rattle.content_de.specs.Reads.Read.{Refusal, Gives}
use Rattle.content_de.specs.Reads.ByName.{missing_field, NoOthers}
use Rattle.serde_content.specs.Literals.{row_then, row_or_then, RowThen, RowOrThen, others_left}
use Rattle.serde_content.specs.Entries.{flattened_unless}
use Rattle.serde_content.specs.RoundTrip.{GivesOnly, ComesBack}
use Rattle.serde_content.specs.Laws.Spelled.{Spelled, spelled_only}
use Rattle.serde_content.specs.Laws.Maps.{EntriesSuch}
use Rattle.serde_content.specs.Laws.ByName.{named_under, skipped_free, entry_refusal, EntryGives, entry_first}
use Rattle.serde_content.specs.Laws.Skips.{Apart, Misses, entry_missing}
use Rattle.serde_content.specs.Laws.Flattened.{flattened_first, FlattenedBack, entry_more}

-- entries of a map, each key as a field's is taken
abbrev pub text_entries : Pairs → List (Tree × Tree)
text_entries ps = map (λ e. (key_tree e.0, e.1)) (entries_of_pairs ps)

-- entries that have no name apart from these, and, taken by name, aren't refused and give only such values
abbrev pub ComeBack : {Y : Type 0} → List (List ℕ) → (FieldsLeft → Option Cause) → (Y → FieldsLeft → Type 0) → (Y → Type 0) → Flags → Pairs → Type 0
ComeBack names refusal given such f ps = ((name : List ℕ) → Apart name names → Misses name (text_entries ps))
    × GivesOnly (refusal (named_under f (text_entries ps))) (λ y. given y (named_under f (text_entries ps))) such

-- such entries are sent
pub record EntriesBack {Y : Type 0} (names : List (List ℕ)) (script : Bool → Script) (refusal : FieldsLeft → Option Cause) (given : Y → FieldsLeft → Type 0) (such : Y → Type 0) : Type 0 where
  pub of_flags : (f : Flags) → Spelled (EntriesSuch (ComeBack names refusal given such f)) (script f.human_readable)

-- no entry
pub entries_end_back : {Y : Type 0} (known : List (List ℕ)) → EntriesBack {Y = Y} [] end_script (others_left known) (λ y. NoOthers) (λ y. ⊤)
entries_end_back known = unfold others_left in record {
  of_flags = λ f. spelled_only (λ rest. (
    [],
    items_end,
    λ t. refl,
    ((λ name apart. record { unfound = refl; whole = refl }), record { free = skipped_free known f; only = λ y h. tt }),
  ));
}

-- an entry of another name
misses_entry : (name other : List ℕ) (t : Tree) (es : List (Tree × Tree)) → bytes_eq other name ≡ false → Misses name es → Misses name ((tree.text (owned_text other), t) ∷ es)
misses_entry name other t es differs misses = record {
  unfound = rw differs misses.unfound;
  whole = rw differs (ap (λ rest. (tree.text (owned_text other), t) ∷ rest) misses.whole);
}

-- such entries, seen from another place
entries_seen : (p q : Pairs → Type 0) {sc : Script} → ((ps : Pairs) → p ps → q ps) → Spelled (EntriesSuch p) sc → Spelled (EntriesSuch q) sc
entries_seen p q see s = record { free = s.free; reads = λ rest. let there = s.reads rest in (there.0, there.1, there.2, see (pairs there.0) there.3) }

-- a field, whatever a missing one comes to, and then the others
entry_kept_back : {A Y : Type 0} {exists : A → Type 0} {script : ScriptOf A} {refusal : Refusal} {gives : Gives A} {eq : A → A → Bool} {rest : Bool → Script} {others : FieldsLeft → Option Cause}
    {given : Y → FieldsLeft → Type 0} {such : Y → Type 0} {names : List (List ℕ)} (name : List ℕ) (absent : Option Cause) (missing : A → Type 0) → ComesBack exists script refusal gives eq → (x : A) → exists x
    → (see : Y → A) → EntriesBack names rest others given such
    → EntriesBack (name ∷ names) (flattened_first name (script x) rest) (entry_refusal name absent refusal others) (λ y. EntryGives name missing gives (see y) (given y)) (λ y. (eq x (see y) ≡ true) × such y)
entry_kept_back {refusal} {gives} {eq} {others} {given} {such} {names} name absent missing back x real see more = record {
  of_flags = λ f.
      entry_more name
      (λ t. GivesOnly (refusal (tree_under f t)) (gives (tree_under f t)) (λ y. eq x y ≡ true))
      (ComeBack names others given such f)
      (ComeBack (name ∷ names) (entry_refusal name absent refusal others) (λ y. EntryGives name missing gives (see y) (given y)) (λ y. (eq x (see y) ≡ true) × such y) f)
      (λ t ps one last. (
        (λ other apart. misses_entry other name t (text_entries ps) apart.0 (last.0 other apart.1)),
        entry_first refusal gives others given name absent missing see f (tree.text (owned_text name)) t (text_entries ps) ((bytes_eq-Decides name name).1 refl) one last.1,
      ))
      (back.of_value x real f) (more.of_flags f);
}

-- a field, and then the others
pub entry_named_back : {A Y : Type 0} {exists : A → Type 0} {script : ScriptOf A} {refusal : Refusal} {gives : Gives A} {eq : A → A → Bool} {rest : Bool → Script} {others : FieldsLeft → Option Cause}
    {given : Y → FieldsLeft → Type 0} {such : Y → Type 0} {names : List (List ℕ)} (name : List ℕ) → ComesBack exists script refusal gives eq → (x : A) → exists x → (see : Y → A)
    → EntriesBack names rest others given such
    → EntriesBack (name ∷ names) (flattened_first name (script x) rest) (row_then name refusal others) (λ y. RowThen name gives (see y) (given y)) (λ y. (eq x (see y) ≡ true) × such y)
entry_named_back name back x real see more = unfold row_then RowThen in entry_kept_back name (Some (missing_field name)) (λ b. ⊥) back x real see more

-- a field that may be missing, and then the others
pub entry_named_or_back : {A Y : Type 0} {exists : A → Type 0} {script : ScriptOf A} {refusal : Refusal} {gives : Gives A} {eq : A → A → Bool} {rest : Bool → Script} {others : FieldsLeft → Option Cause}
    {given : Y → FieldsLeft → Type 0} {such : Y → Type 0} {names : List (List ℕ)} (name : List ℕ) (missing : A → Type 0) → ComesBack exists script refusal gives eq → (x : A) → exists x → (see : Y → A)
    → EntriesBack names rest others given such
    → EntriesBack (name ∷ names) (flattened_first name (script x) rest) (row_or_then name refusal others) (λ y. RowOrThen name missing gives (see y) (given y)) (λ y. (eq x (see y) ≡ true) × such y)
entry_named_or_back name missing back x real see more = unfold row_or_then RowOrThen in entry_kept_back name None missing back x real see more

-- a field that may be missing, unless it is left out, and then the others
pub entry_unless_back : {A Y : Type 0} {exists : A → Type 0} {script : ScriptOf A} {refusal : Refusal} {gives : Gives A} {eq : A → A → Bool} {rest : Bool → Script} {others : FieldsLeft → Option Cause}
    {given : Y → FieldsLeft → Type 0} {such : Y → Type 0} {names : List (List ℕ)} (name : List ℕ) (missing : A → Type 0) (skipped : Bool) → ComesBack exists script refusal gives eq → (x : A) → exists x
    → (skipped ≡ true → (a : A) → missing a → eq x a ≡ true) → Apart name names → (see : Y → A)
    → EntriesBack names rest others given such
    → EntriesBack (name ∷ names) (flattened_unless skipped name (script x) rest) (row_or_then name refusal others) (λ y. RowOrThen name missing gives (see y) (given y)) (λ y. (eq x (see y) ≡ true) × such y)
entry_unless_back {refusal} {gives} {eq} {others} {given} {such} {names} name missing true back x real alike apart see more = unfold row_or_then RowOrThen in record {
  of_flags = λ f. entries_seen (ComeBack names others given such f)
      (ComeBack (name ∷ names) (entry_refusal name None refusal others) (λ y. EntryGives name missing gives (see y) (given y)) (λ y. (eq x (see y) ≡ true) × such y) f)
      (λ ps there. (
        (λ other differs. there.0 other differs.1),
        entry_missing refusal gives others given name missing see f (text_entries ps) (there.0 name apart) (alike refl) there.1,
      ))
      (more.of_flags f);
}
entry_unless_back name missing false back x real alike apart see more = entry_named_or_back name missing back x real see more

-- such entries come back
pub entries_named : {Y : Type 0} {names : List (List ℕ)} {script : Bool → Script} {refusal : FieldsLeft → Option Cause} {given : Y → FieldsLeft → Type 0} {such : Y → Type 0}
    → EntriesBack names script refusal given such → FlattenedBack script refusal given such
entries_named {names} {refusal} {given} {such} entries = record {
  of_flags = λ f. entries_seen (ComeBack names refusal given such f)
      (λ ps. GivesOnly (refusal (by_name (entries_under f (entries_of_pairs ps)))) (λ y. given y (by_name (entries_under f (entries_of_pairs ps)))) such)
      (λ ps there. there.1) (entries.of_flags f);
}
