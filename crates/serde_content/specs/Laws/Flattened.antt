-- Types with flattened fields: they are sent as a map whose keys are texts, and come back where each field does.
use Rattle.std.specs.Prelude.{◌≡◌, ℕ, Bool, true, List, [], ◌∷◌, map, Option, None, Some, refl, ⊤}
use Rattle.std.proofs.Common.{subst, sym}
use Rattle.std.proofs.lemmas.Slice.Eq.{bytes_eq-Decides}
use Rattle.content_tree.specs.Values.Text.{owned_text}
use Rattle.content_tree.specs.Values.Tree as tree
use Rattle.content_tree.specs.Values.Tree.{Tree, Pairs}
use Rattle.content_tree.specs.Errors.Cause.{Cause}
use Rattle.content_ser.specs.Calls.Event as event
use Rattle.content_ser.specs.Grammar.Token as token
use Rattle.content_ser.specs.Grammar.Token.{Token, leaf}
use Rattle.content_ser.specs.Grammar.Spells.{spells_leaf, spells_map, MapItem, key, value, pairs}
use Rattle.content_ser.specs.Grammar.Spells.{SpellsMapItems, value_among}
use Rattle.content_ser.specs.Grammar.Spells.{items_end, items_key, items_value}
use Rattle.content_ser.specs.Scripts.Script.{Script, done, call_then, and_then, IsLawful}
use Rattle.content_ser.specs.Scripts.Standard.{ScriptOf, only, call_first, item_first}
use Rattle.content_ser.specs.Scripts.Own.{end_script}
use Rattle.content_ser.specs.Laws.Fits.{AMap, Fits, fits_only, fits_call, fits_then}
use Rattle.content_ser.specs.Laws.Fits.{lawful_from_fits, fits_from_lawful}
use Rattle.content_de.specs.Sources.Origin.{Flags, Subject, tree_under}
use Rattle.content_de.specs.Outcomes.{refusal_then, IsTaken}
use Rattle.content_de.specs.Requests.Compounds.{entries_from, entries_of_pairs}
use Rattle.content_de.specs.Accesses.Map.{MapLeft, entries_under, map_at}
use Rattle.content_de.specs.Accesses.ByName.{FieldsLeft, key_tree, by_name}
use Rattle.content_de.specs.Reads.Read.{Refusal, Gives}
use Rattle.content_de.specs.Reads.ByName.{missing_field}
use Rattle.content_de.specs.Reads.ByName.{NoOthers, read_by_name}
use Rattle.content_de.specs.Reads.ByName.{ReadByName}
use Rattle.serde_content.specs.Literals.{row_then, row_or_then, RowThen, RowOrThen, others_left}
use Rattle.serde_content.specs.RoundTrip.{SpellsSuch, GivesOnly, ComesBack, CoercionKeeps}
use Rattle.serde_content.specs.Laws.Spelled.{TreeSuch, Spelled, spelled_only, spelled_call}
use Rattle.serde_content.specs.Laws.Spelled.{spelled_then, spelled_such, such_spelled}
use Rattle.serde_content.specs.Laws.Records.{FieldsKeep, entries_kept}
use Rattle.serde_content.specs.Laws.Maps.{EntriesSuch}
use Rattle.serde_content.specs.Laws.ByName.{entry_refusal, EntryGives, entry_first, skipped_free}

-- a map, its length untold
abbrev pub flattened_script : (Bool → Script) → Bool → Script
flattened_script = call_first (event.map None)

-- an entry whose key is this text, and then the others
abbrev pub flattened_first : List ℕ → (Bool → Script) → (Bool → Script) → Bool → Script
flattened_first name item rest = item_first event.key (only (event.text name)) (item_first event.value item rest)

-- the entries of a map are read so
abbrev pub flattened_refusal : (MapLeft → Option Cause) → Refusal
flattened_refusal fields s = refusal_then (map_at s) fields

-- what they give
abbrev pub FlattenedGives : (MapLeft → Type 0) → Subject → Type 0
FlattenedGives fields s = IsTaken (map_at s) fields

-- the end of entries
pub flattened_end_fits : Fits AMap (call_then event.end done)
flattened_end_fits = fits_only (λ rest. ([], items_end))

-- a value, and then entries
value_fits : {a b : Script} → IsLawful a → Fits AMap b → Fits AMap (call_then event.value (and_then a b))
value_fits p q = fits_call {Q = λ calls rest. AMap (token.value ∷ calls) rest} (λ calls rest s. s)
    (fits_then (λ calls mid rest v e. (_, items_value v.1 e.1)) (fits_from_lawful p) q)

-- an entry whose key is a text, and then the others
pub flattened_fits : {k : List ℕ} {a b : Script} → IsLawful a → Fits AMap b
    → Fits AMap (call_then event.key (call_then (event.text k) (call_then event.value (and_then a b))))
flattened_fits p q = fits_call {Q = λ calls rest. AMap (token.key ∷ calls) rest} (λ calls rest s. s)
    (fits_call {Q = AMap} (λ calls rest e. (_, items_key spells_leaf e.1)) (value_fits p q))

-- a map of these entries
pub flattened_lawful : {b : Script} → Fits AMap b → IsLawful (call_then (event.map None) b)
flattened_lawful p = lawful_from_fits (fits_call {Q = AMap} (λ calls rest e. (_, spells_map e.1)) p)

-- entries are sent so that, taken by name, they aren't refused and give only such values
pub record FlattenedBack {Y : Type 0} (script : Bool → Script) (refusal : FieldsLeft → Option Cause) (given : Y → FieldsLeft → Type 0) (such : Y → Type 0) : Type 0 where
  pub of_flags : (f : Flags)
      → Spelled (EntriesSuch (λ ps. GivesOnly (refusal (by_name (entries_under f (entries_of_pairs ps)))) (λ y. given y (by_name (entries_under f (entries_of_pairs ps)))) such)) (script f.human_readable)

-- no entry
pub flattened_end_back : {Y : Type 0} (known : List (List ℕ)) → FlattenedBack {Y = Y} end_script (others_left known) (λ y. NoOthers) (λ y. ⊤)
flattened_end_back known = unfold others_left in record {
  of_flags = λ f. spelled_only (λ rest. ([], items_end, λ t. refl, record { free = skipped_free known f; only = λ y h. tt }));
}

-- the value of an entry, and then such entries, before the rest; nothing takes the place of that value
abbrev ValueSuch : (Tree → Type 0) → (Pairs → Type 0) → List Token → List Token → Type 0
ValueSuch q s calls rest = (t : Tree) × (items : List MapItem) × SpellsMapItems calls (value t ∷ items) rest × ((u : Tree) → value_among u items ≡ u) × q t × s (pairs items)

-- a text as the key of an entry before its value and the others
key_before : (name : List ℕ) (q : Tree → Type 0) (s r : Pairs → Type 0) → ((t : Tree) (ps : Pairs) → q t → s ps → r (tree.pair_then (tree.text (owned_text name)) t ps)) → (calls rest : List Token)
    → ValueSuch q s calls rest → EntriesSuch r (token.key ∷ leaf (tree.text (owned_text name)) ∷ calls) rest
key_before name q s r such calls rest e = (
  key (tree.text (owned_text name)) ∷ value e.0 ∷ e.1,
  items_key spells_leaf e.2,
  λ u. refl,
  subst (λ t. r (tree.pair_then (tree.text (owned_text name)) t (pairs e.1))) (sym (e.3 e.0)) (such e.0 (pairs e.1) e.4 e.5),
)

-- an entry whose key is a text, and then the others
pub entry_more : (name : List ℕ) (q : Tree → Type 0) (s r : Pairs → Type 0) {a b : Script} → ((t : Tree) (ps : Pairs) → q t → s ps → r (tree.pair_then (tree.text (owned_text name)) t ps))
    → SpellsSuch q a → Spelled (EntriesSuch s) b → Spelled (EntriesSuch r) (call_then event.key (call_then (event.text name) (call_then event.value (and_then a b))))
entry_more name q s r such a b =
    spelled_call {Q = λ calls rest. EntriesSuch r (token.key ∷ calls) rest} (λ calls rest e. e)
    (spelled_call {Q = ValueSuch q s} (λ calls rest e. key_before name q s r such calls rest e)
    (spelled_call {Q = λ calls rest. ValueSuch q s (token.value ∷ calls) rest} (λ calls rest e. e)
    (spelled_then {P = TreeSuch q} {Q = EntriesSuch s} (λ calls mid rest one e. (one.0, e.0, items_value one.1 e.1, e.2, one.2, e.3)) (spelled_such a) b)))

-- a field, whatever a missing one comes to, and then the others
entry_back : {A Y : Type 0} {exists : A → Type 0} {script : ScriptOf A} {refusal : Refusal} {gives : Gives A} {eq : A → A → Bool} {rest : Bool → Script} {others : FieldsLeft → Option Cause}
    {given : Y → FieldsLeft → Type 0} {such : Y → Type 0} (name : List ℕ) (absent : Option Cause) (missing : A → Type 0) → ComesBack exists script refusal gives eq → (x : A) → exists x → (see : Y → A)
    → FlattenedBack rest others given such
    → FlattenedBack (flattened_first name (script x) rest) (entry_refusal name absent refusal others) (λ y. EntryGives name missing gives (see y) (given y)) (λ y. (eq x (see y) ≡ true) × such y)
entry_back {refusal} {gives} {eq} {others} {given} {such} name absent missing back x real see more = record {
  of_flags = λ f.
      entry_more name
      (λ t. GivesOnly (refusal (tree_under f t)) (gives (tree_under f t)) (λ y. eq x y ≡ true))
      (λ ps. GivesOnly (others (by_name (entries_under f (entries_of_pairs ps)))) (λ y. given y (by_name (entries_under f (entries_of_pairs ps)))) such)
      (λ ps. GivesOnly (entry_refusal name absent refusal others (by_name (entries_under f (entries_of_pairs ps))))
      (λ y. EntryGives name missing gives (see y) (given y) (by_name (entries_under f (entries_of_pairs ps)))) (λ y. (eq x (see y) ≡ true) × such y))
      (λ t ps one last. entry_first refusal gives others given name absent missing see f (tree.text (owned_text name)) t (map (λ e. (key_tree e.0, e.1)) (entries_of_pairs ps)) ((bytes_eq-Decides name name).1 refl) one last)
      (back.of_value x real f) (more.of_flags f);
}

-- a field, and then the others
pub flattened_named_back : {A Y : Type 0} {exists : A → Type 0} {script : ScriptOf A} {refusal : Refusal} {gives : Gives A} {eq : A → A → Bool} {rest : Bool → Script} {others : FieldsLeft → Option Cause}
    {given : Y → FieldsLeft → Type 0} {such : Y → Type 0} (name : List ℕ) → ComesBack exists script refusal gives eq → (x : A) → exists x → (see : Y → A)
    → FlattenedBack rest others given such
    → FlattenedBack (flattened_first name (script x) rest) (row_then name refusal others) (λ y. RowThen name gives (see y) (given y)) (λ y. (eq x (see y) ≡ true) × such y)
flattened_named_back name back x real see more = unfold row_then RowThen in entry_back name (Some (missing_field name)) (λ b. ⊥) back x real see more

-- a field that may be missing, and then the others
pub flattened_named_or_back : {A Y : Type 0} {exists : A → Type 0} {script : ScriptOf A} {refusal : Refusal} {gives : Gives A} {eq : A → A → Bool} {rest : Bool → Script} {others : FieldsLeft → Option Cause}
    {given : Y → FieldsLeft → Type 0} {such : Y → Type 0} (name : List ℕ) (missing : A → Type 0) → ComesBack exists script refusal gives eq → (x : A) → exists x → (see : Y → A)
    → FlattenedBack rest others given such
    → FlattenedBack (flattened_first name (script x) rest) (row_or_then name refusal others) (λ y. RowOrThen name missing gives (see y) (given y)) (λ y. (eq x (see y) ≡ true) × such y)
flattened_named_or_back name missing back x real see more = unfold row_or_then RowOrThen in entry_back name None missing back x real see more

-- a map of such entries
pub flattened_back : {Y : Type 0} {script : Bool → Script} {refusal : FieldsLeft → Option Cause} {given : Y → FieldsLeft → Type 0} {such passes : Y → Type 0}
    → FlattenedBack script refusal given such → (f : Flags) → ((y : Y) → such y → passes y)
    → SpellsSuch (λ t. GivesOnly (flattened_refusal (read_by_name refusal) (tree_under f t)) (λ y. FlattenedGives (ReadByName (given y)) (tree_under f t)) passes) (flattened_script script f.human_readable)
flattened_back fields f pass =
    such_spelled (spelled_call (λ calls rest e. (tree.map (pairs e.0), spells_map e.1, record { free = e.3.free; only = λ y h. pass y (e.3.only y h) })) (fields.of_flags f))

-- what a map may give as fields without coercion it may give with it
pub flattened_keeps : {Y : Type 0} {refusal : MapLeft → Option Cause} {given : Y → MapLeft → Type 0} → FieldsKeep refusal given → CoercionKeeps (flattened_refusal refusal) (λ s y. FlattenedGives (given y) s)
flattened_keeps fields = record { of_origin = λ o h y p. let there = entries_kept fields (entries_from o) h y (record { free = p.free; given = p.given }) in record { free = there.free; given = there.given } }
