-- Values by place come back where each part does.
use Rattle.std.specs.Prelude.{◌≡◌, ℕ, Bool, true, false, ◌&&◌, List, Option, None, if◌then◌else◌, refl, ⊤}
use Rattle.content_tree.specs.Values.Tree as tree
use Rattle.content_tree.specs.Values.Tree.{Trees}
use Rattle.content_tree.specs.Errors.Cause.{Cause}
use Rattle.content_ser.specs.Calls.Event as event
use Rattle.content_ser.specs.Calls.Event.{Event}
use Rattle.content_ser.specs.Grammar.Token as token
use Rattle.content_ser.specs.Grammar.Token.{ItemCall}
use Rattle.content_ser.specs.Grammar.Spells.{spells_series}
use Rattle.content_ser.specs.Scripts.Script.{Script}
use Rattle.content_ser.specs.Scripts.Standard.{ScriptOf, only, item_first, tuple_script}
use Rattle.content_ser.specs.Scripts.Own.{tuple_struct_script}
use Rattle.content_de.specs.Sources.Origin.{of_tree, Flags}
use Rattle.content_de.specs.Sources.Origin.{tree_under}
use Rattle.content_de.specs.Outcomes.{Outcome, taken, refused, outcome_map, refusal_then, IsTaken}
use Rattle.content_de.specs.Requests.Compounds.{tuple_from, tuple_struct_from}
use Rattle.content_de.specs.Accesses.Seq.{SeqLeft, tuple_at, items_under}
use Rattle.content_de.specs.Reads.Read.{Refusal, Gives}
use Rattle.content_de.specs.Reads.Own.{tuple_struct_refusal, TupleStructGives}
use Rattle.content_de.specs.Reads.Tuples.{part_then, end_of_parts, PartThen, NoPart}
use Rattle.serde_content.specs.RoundTrip.{SpellsSuch, GivesOnly, ComesBack, MayGive, CoercionKeeps}
use Rattle.serde_content.specs.RoundTrip.{flags}
use Rattle.serde_content.specs.Laws.Spelled.{RowSuch, Spelled, spelled_call, such_spelled}
use Rattle.serde_content.specs.Laws.Spelled.{row_end, row_more}
use Rattle.serde_content.specs.Laws.Holders.{both_free, first_free, second_free}

-- two tests that hold
pub both_hold : {a b : Bool} → a ≡ true → b ≡ true → a && b ≡ true
both_hold e d = rw (e, d) refl

-- parts are sent as items that aren't refused and give only such values
pub record PartsBack {Y : Type 0} (m : ItemCall) (script : Bool → Script) (refusal : SeqLeft → Option Cause) (given : Y → SeqLeft → Type 0) (such : Y → Type 0) : Type 0 where
  pub of_flags : (f : Flags) → Spelled (RowSuch m (λ ts. GivesOnly (refusal (items_under f ts)) (λ y. given y (items_under f ts)) such)) (script f.human_readable)

-- the same in both cases
either_way : {A : Type 0} (b : Bool) (x : A) → (if b then x else x) ≡ x
either_way true x = refl
either_way false x = refl

-- where nothing is left over, nothing is refused, in a buffer or out of it
pub nothing_left : (n : ℕ) (f : Flags) → end_of_parts n (items_under f tree.no_trees) ≡ None
nothing_left n f = either_way f.buffered None

-- no part
pub parts_end : {Y : Type 0} {m : ItemCall} (n : ℕ) → PartsBack {Y = Y} m (only event.end) (end_of_parts n) (λ y. NoPart) (λ y. ⊤)
parts_end n = record { of_flags = λ f. row_end (record { free = nothing_left n f; only = λ y h. tt }) }

-- a part after its call, and then the others
part_after : {A Y : Type 0} {exists : A → Type 0} {script : ScriptOf A} {refusal : Refusal} {gives : Gives A} {eq : A → A → Bool} {m : ItemCall} {rest : Bool → Script} {others : SeqLeft → Option Cause}
    {given : Y → SeqLeft → Type 0} {such : Y → Type 0} (c : Event) → token.token_of c ≡ token.item m → ComesBack exists script refusal gives eq → (x : A) → exists x → (see : Y → A) (expected found : ℕ)
    → PartsBack m rest others given such
    → PartsBack m (item_first c (script x) rest) (part_then expected found refusal others) (λ y. PartThen gives (see y) (given y)) (λ y. (eq x (see y) ≡ true) × such y)
part_after c is back x real see expected found more =
    record { of_flags = λ f. row_more is (λ t ts one last. record { free = both_free one.free last.free; only = λ y h. (one.only (see y) h.0, last.only y h.1) }) (back.of_value x real f) (more.of_flags f) }

-- an element, and then the others
pub element_back : {A Y : Type 0} {exists : A → Type 0} {script : ScriptOf A} {refusal : Refusal} {gives : Gives A} {eq : A → A → Bool} {rest : Bool → Script} {others : SeqLeft → Option Cause}
    {given : Y → SeqLeft → Type 0} {such : Y → Type 0} → ComesBack exists script refusal gives eq → (x : A) → exists x → (see : Y → A) (expected found : ℕ)
    → PartsBack token.element rest others given such
    → PartsBack token.element (item_first event.element (script x) rest) (part_then expected found refusal others) (λ y. PartThen gives (see y) (given y)) (λ y. (eq x (see y) ≡ true) × such y)
element_back back x real see expected found more = part_after event.element refl back x real see expected found more

-- a value by place, and then the others
pub tuple_field_back : {A Y : Type 0} {exists : A → Type 0} {script : ScriptOf A} {refusal : Refusal} {gives : Gives A} {eq : A → A → Bool} {rest : Bool → Script} {others : SeqLeft → Option Cause}
    {given : Y → SeqLeft → Type 0} {such : Y → Type 0} → ComesBack exists script refusal gives eq → (x : A) → exists x → (see : Y → A) (expected found : ℕ)
    → PartsBack token.tuple_field rest others given such
    → PartsBack token.tuple_field (item_first event.tuple_field (script x) rest) (part_then expected found refusal others) (λ y. PartThen gives (see y) (given y)) (λ y. (eq x (see y) ≡ true) × such y)
tuple_field_back back x real see expected found more = part_after event.tuple_field refl back x real see expected found more

-- a tuple of these parts
pub tuple_back : {Y : Type 0} {script : Bool → Script} {refusal : SeqLeft → Option Cause} {given : Y → SeqLeft → Type 0} {such passes : Y → Type 0} {n : ℕ}
    → PartsBack token.element script refusal given such → (f : Flags) → ((y : Y) → such y → passes y)
    → SpellsSuch (λ t. GivesOnly (refusal_then (tuple_at n (tree_under f t)) refusal) (λ y. IsTaken (tuple_at n (tree_under f t)) (given y)) passes) (tuple_script n script f.human_readable)
tuple_back parts f pass =
    such_spelled (spelled_call (λ calls rest e. (tree.tuple e.0, spells_series e.1, record { free = e.2.free; only = λ y h. pass y (e.2.only y h) })) (parts.of_flags f))

-- what items may give as parts without coercion they may give with it
pub record PartsKeep {Y : Type 0} (refusal : SeqLeft → Option Cause) (given : Y → SeqLeft → Type 0) : Type 0 where
  pub of_items : (ts : Trees) (h : Bool) (y : Y)
      → MayGive (refusal (items_under (flags h false) ts)) (λ z. given z (items_under (flags h false) ts)) y
      → MayGive (refusal (items_under (flags h true) ts)) (λ z. given z (items_under (flags h true) ts)) y

-- no part
pub parts_end_keeps : {Y : Type 0} (n : ℕ) → PartsKeep {Y = Y} (end_of_parts n) (λ y. NoPart)
parts_end_keeps n = record { of_items = λ ts h y p. record { free = refl; given = tt } }

-- one part, and then the others
part_kept : {A Y : Type 0} {refusal : Refusal} {gives : Gives A} {others : SeqLeft → Option Cause} {given : Y → SeqLeft → Type 0} (see : Y → A) (expected found : ℕ)
    → CoercionKeeps refusal gives → PartsKeep others given → (ts : Trees) (h : Bool) (y : Y)
    → MayGive (part_then expected found refusal others (items_under (flags h false) ts)) (λ z. PartThen gives (see z) (given z) (items_under (flags h false) ts)) y
    → MayGive (part_then expected found refusal others (items_under (flags h true) ts)) (λ z. PartThen gives (see z) (given z) (items_under (flags h true) ts)) y
part_kept see expected found keeps more tree.no_trees h y p = absurd p.given.0
part_kept see expected found keeps more (tree.tree_then t ts) h y p =
    let one = keeps.of_origin (of_tree t) h (see y) (record { free = first_free _ _ p.free; given = p.given.0 }) in
    let others = more.of_items ts h y (record { free = second_free _ _ p.free; given = p.given.1 }) in
    record { free = both_free one.free others.free; given = (one.given, others.given) }

-- one part, and then the others
pub part_keeps : {A Y : Type 0} {refusal : Refusal} {gives : Gives A} {others : SeqLeft → Option Cause} {given : Y → SeqLeft → Type 0} (see : Y → A) (expected found : ℕ)
    → CoercionKeeps refusal gives → PartsKeep others given → PartsKeep (part_then expected found refusal others) (λ y. PartThen gives (see y) (given y))
part_keeps see expected found keeps more = record { of_items = λ ts h y p. part_kept see expected found keeps more ts h y p }

-- items that a request comes to
items_kept : {Y : Type 0} {refusal : SeqLeft → Option Cause} {given : Y → SeqLeft → Type 0} → PartsKeep refusal given → (items : Outcome Trees) (h : Bool) (y : Y)
    → MayGive (refusal_then (outcome_map (items_under (flags h false)) items) refusal) (λ z. IsTaken (outcome_map (items_under (flags h false)) items) (given z)) y
    → MayGive (refusal_then (outcome_map (items_under (flags h true)) items) refusal) (λ z. IsTaken (outcome_map (items_under (flags h true)) items) (given z)) y
items_kept parts (taken ts) h y p = let there = parts.of_items ts h y (record { free = p.free; given = p.given }) in record { free = there.free; given = there.given }
items_kept parts (refused c) h y p = absurd p.given

-- a tuple of such parts
pub tuple_keeps : {Y : Type 0} {refusal : SeqLeft → Option Cause} {given : Y → SeqLeft → Type 0} (n : ℕ) → PartsKeep refusal given
    → CoercionKeeps (λ s. refusal_then (tuple_at n s) refusal) (λ s y. IsTaken (tuple_at n s) (given y))
tuple_keeps n parts = record { of_origin = λ o h y p. let there = items_kept parts (tuple_from n o) h y (record { free = p.free; given = p.given }) in record { free = there.free; given = there.given } }

-- a struct of these values by place
pub tuple_struct_back : {Y : Type 0} {script : Bool → Script} {refusal : SeqLeft → Option Cause} {given : Y → SeqLeft → Type 0} {such passes : Y → Type 0} {name : List ℕ} {len : ℕ}
    → PartsBack token.tuple_field script refusal given such → (f : Flags) → ((y : Y) → such y → passes y)
    → SpellsSuch (λ t. GivesOnly (tuple_struct_refusal name refusal (tree_under f t)) (λ y. TupleStructGives name (given y) (tree_under f t)) passes) (tuple_struct_script name len script f.human_readable)
tuple_struct_back parts f pass =
    such_spelled (spelled_call (λ calls rest e. (_, spells_series e.1, record { free = e.2.free; only = λ y h. pass y (e.2.only y h) })) (parts.of_flags f))

-- a struct of such values by place
pub tuple_struct_keeps : {Y : Type 0} {refusal : SeqLeft → Option Cause} {given : Y → SeqLeft → Type 0} (name : List ℕ) → PartsKeep refusal given
    → CoercionKeeps (tuple_struct_refusal name refusal) (λ s y. TupleStructGives name (given y) s)
tuple_struct_keeps name parts = record { of_origin = λ o h y p. let there = items_kept parts (tuple_struct_from name o) h y (record { free = p.free; given = p.given }) in record { free = there.free; given = there.given } }
