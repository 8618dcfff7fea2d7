-- The variants of an enum come back where what they hold does.
use Rattle.std.specs.Prelude.{◌≡◌, ℕ, Bool, true, false, List, Option, None, Some, option_map, refl}
use Rattle.std.specs.Prelude.{⊤}
use Rattle.std.proofs.Common.{sym, subst, ◌∙◌}
use Rattle.std.specs.Str.{bytes_eq}
use Rattle.std.proofs.lemmas.Slice.Eq.{bytes_eq-Decides}
use Rattle.content_tree.specs.Values.Text.{Text, static_name}
use Rattle.content_tree.specs.Values.Tree as tree
use Rattle.content_tree.specs.Values.Tree.{Tree, TreeData, Trees}
use Rattle.content_tree.specs.Errors.Cause.{Cause}
use Rattle.content_ser.specs.Calls.Head.{of_variant}
use Rattle.content_ser.specs.Grammar.Token as token
use Rattle.content_ser.specs.Grammar.Spells.{spells_series, spells_record}
use Rattle.content_ser.specs.Scripts.Script.{Script}
use Rattle.content_ser.specs.Scripts.Standard.{ScriptOf}
use Rattle.content_ser.specs.Scripts.Own.{unit_variant_script, newtype_variant_script}
use Rattle.content_ser.specs.Scripts.Own.{tuple_variant_script, struct_variant_script}
use Rattle.content_de.specs.Sources.Origin.{Origin, of_tree, of_identifier, Flags, tree_under, under}
use Rattle.content_de.specs.Outcomes.{Outcome, taken, refused, refusal_then, IsTaken}
use Rattle.content_de.specs.Requests.Data.{or_else}
use Rattle.content_de.specs.Requests.Leaves.{text_from}
use Rattle.content_de.specs.Accesses.Seq.{SeqLeft, items_under}
use Rattle.content_de.specs.Accesses.Map.{MapLeft, entries_under}
use Rattle.content_de.specs.Accesses.Enum.{VariantLeft, Held, a_node, nothing, a_value, wrong_sort}
use Rattle.content_de.specs.Accesses.Enum.{one_held, many_held, entries_held}
use Rattle.content_de.specs.Reads.Read.{Refusal, Gives}
use Rattle.content_de.specs.Reads.Own.{enum_refusal, EnumGives, unit_variant_refusal}
use Rattle.content_de.specs.Reads.Own.{UnitVariantGives}
use Rattle.content_de.specs.Reads.Own.{newtype_variant_refusal, NewtypeVariantGives}
use Rattle.content_de.specs.Reads.Own.{tuple_variant_refusal, TupleVariantGives}
use Rattle.content_de.specs.Reads.Own.{struct_variant_refusal, StructVariantGives}
use Rattle.content_tree.specs.declared.expected.DataType.TheVariants as kind
use Rattle.serde_content.specs.RoundTrip.{SpellsSuch, GivesOnly, ComesBack, MayGive, CoercionKeeps}
use Rattle.serde_content.specs.RoundTrip.{flags}
use Rattle.serde_content.specs.Laws.Spelled.{spelled_call, such_spelled, leaf_such, wrapped_such}
use Rattle.serde_content.specs.Laws.Series.{PartsBack, PartsKeep}
use Rattle.serde_content.specs.Laws.Records.{FieldsBack, FieldsKeep}

-- a variant whose tag was read
abbrev pub left : List ℕ → Held → Flags → VariantLeft
left name held f = record { requested = name; held = held; flags = f }

-- the node of a variant
abbrev pub variant_node : List ℕ → ℕ → List ℕ → TreeData → Tree
variant_node name index variant d = tree.enumeration (static_name name) index (static_name variant) d

-- the same with its tag read
abbrev pub node_left : List ℕ → ℕ → List ℕ → TreeData → Flags → VariantLeft
node_left name index variant d f = left name (a_node (variant_node name index variant d)) f

-- the tree is the node of this variant, with such data
abbrev pub IsNode : List ℕ → ℕ → List ℕ → (TreeData → Type 0) → Tree → Type 0
IsNode name index variant such t = (d : TreeData) × (t ≡ variant_node name index variant d) × such d

-- a variant is sent as a node that isn't refused as one and holds only such
pub record VariantBack {P : Type 0} (name : List ℕ) (index : ℕ) (variant : List ℕ) (script : Bool → Script) (refusal : VariantLeft → Option Cause)
    (given : P → VariantLeft → Type 0) (such : P → Type 0) : Type 0 where
  pub of_flags : (f : Flags)
      → SpellsSuch (IsNode name index variant (λ d. GivesOnly (refusal (node_left name index variant d f)) (λ z. given z (node_left name index variant d f)) such)) (script f.human_readable)

-- a variant that holds nothing
pub unit_variant_back : {name : List ℕ} {index : ℕ} {variant : List ℕ}
    → VariantBack name index variant (unit_variant_script name index variant) unit_variant_refusal (λ (u : Unit {0}). UnitVariantGives) (λ u. ⊤)
unit_variant_back {name} {index} {variant} = record {
  of_flags = λ f. leaf_such (variant_node name index variant tree.no_data) refl (tree.no_data, refl, record { free = refl; only = λ z h. tt });
}

-- a variant around one value
pub newtype_variant_back : {A : Type 0} {exists : A → Type 0} {script : ScriptOf A} {refusal : Refusal} {gives : Gives A} {eq : A → A → Bool} {name : List ℕ} {index : ℕ} {variant : List ℕ}
    → ComesBack exists script refusal gives eq → (x : A) → exists x
    → VariantBack name index variant (newtype_variant_script name index variant (script x)) (newtype_variant_refusal refusal) (NewtypeVariantGives gives) (λ y. eq x y ≡ true)
newtype_variant_back {name} {index} {variant} back x real = record {
  of_flags = λ f. wrapped_such (token.in_head (of_variant name index variant)) refl (λ t one. (tree.one t, refl, record { free = one.free; only = one.only })) (back.of_value x real f);
}

-- a variant of values by place
pub tuple_variant_back : {P : Type 0} {script : Bool → Script} {refusal : SeqLeft → Option Cause} {given : P → SeqLeft → Type 0} {such : P → Type 0} {name : List ℕ} {index : ℕ} {variant : List ℕ} {len : ℕ}
    → PartsBack token.tuple_field script refusal given such
    → VariantBack name index variant (tuple_variant_script name index variant len script) (tuple_variant_refusal refusal) (λ z. TupleVariantGives (given z)) such
tuple_variant_back parts = record {
  of_flags = λ f. such_spelled (spelled_call (λ calls rest e. (_, spells_series e.1, (tree.many e.0, refl, record { free = e.2.free; only = e.2.only }))) (parts.of_flags f));
}

-- a variant of values by key
pub struct_variant_back : {P : Type 0} {script : Bool → Script} {refusal : MapLeft → Option Cause} {given : P → MapLeft → Type 0} {such : P → Type 0} {name : List ℕ} {index : ℕ} {variant : List ℕ} {len : ℕ}
    → FieldsBack script refusal given such
    → VariantBack name index variant (struct_variant_script name index variant len script) (struct_variant_refusal refusal) (λ z. StructVariantGives (given z)) such
struct_variant_back fields = record {
  of_flags = λ f. such_spelled (spelled_call (λ calls rest e. (_, spells_record e.1, (tree.named e.0, refl, record { free = (e.2 0).free; only = (e.2 0).only }))) (fields.of_flags f));
}

-- a value of this variant comes back, where its node is refused as the variant is, and gives what the variant holds
pub variant_back : {P Y : Type 0} {name : List ℕ} {index : ℕ} {variant : List ℕ} {script : Bool → Script} {own : VariantLeft → Option Cause} {given : P → VariantLeft → Type 0} {such : P → Type 0}
    (refusal : Refusal) (gives : Gives Y) {passes : Y → Type 0} → VariantBack name index variant script own given such → (f : Flags)
    → ((d : TreeData) → refusal (tree_under f (variant_node name index variant d)) ≡ own (node_left name index variant d f))
    → ((d : TreeData) → ((z : P) → given z (node_left name index variant d f) → such z) → (y : Y) → gives (tree_under f (variant_node name index variant d)) y → passes y)
    → SpellsSuch (λ t. GivesOnly (refusal (tree_under f t)) (gives (tree_under f t)) passes) (script f.human_readable)
variant_back {name} {index} {variant} {own} {given} {such} refusal gives {passes} back f refused_so given_so =
    let there = back.of_flags f in
    record {
      free = there.free;
      whole = there.whole;
      spelled = there.spelled;
      such = subst (λ t. GivesOnly (refusal (tree_under f t)) (gives (tree_under f t)) passes) (sym there.such.1)
          (record { free = refused_so there.such.0 ∙ there.such.2.free; only = given_so there.such.0 there.such.2.only });
    }

-- what a variant may hold without coercion it may hold with it
pub record VariantKeeps {P : Type 0} (refusal : VariantLeft → Option Cause) (given : P → VariantLeft → Type 0) : Type 0 where
  pub of_held : (name : List ℕ) (held : Held) (h : Bool) (z : P)
      → MayGive (refusal (left name held (flags h false))) (λ w. given w (left name held (flags h false))) z
      → MayGive (refusal (left name held (flags h true))) (λ w. given w (left name held (flags h true))) z

-- a variant that holds nothing
pub unit_variant_keeps : VariantKeeps unit_variant_refusal (λ (u : Unit {0}). UnitVariantGives)
unit_variant_keeps = record { of_held = λ name held h z p. record { free = p.free; given = p.given } }

-- one value, where one is held
newtype_kept : {A : Type 0} {refusal : Refusal} {gives : Gives A} → CoercionKeeps refusal gives → (o : Option Tree) (c : Cause) (h : Bool) (z : A)
    → MayGive (refusal_then (or_else (option_map (tree_under (flags h false)) o) (refused c)) refusal) (λ w. IsTaken (or_else (option_map (tree_under (flags h false)) o) (refused c)) (λ s. gives s w)) z
    → MayGive (refusal_then (or_else (option_map (tree_under (flags h true)) o) (refused c)) refusal) (λ w. IsTaken (or_else (option_map (tree_under (flags h true)) o) (refused c)) (λ s. gives s w)) z
newtype_kept keeps None c h z p = absurd p.given
newtype_kept keeps (Some t) c h z p = let there = keeps.of_origin (of_tree t) h z (record { free = p.free; given = p.given }) in record { free = there.free; given = there.given }

-- a variant around one value
pub newtype_variant_keeps : {A : Type 0} {refusal : Refusal} {gives : Gives A} → CoercionKeeps refusal gives → VariantKeeps (newtype_variant_refusal refusal) (NewtypeVariantGives gives)
newtype_variant_keeps keeps = record {
  of_held = λ name held h z p.
      let there = newtype_kept keeps (one_held held) (wrong_sort (left name held (flags h true)) kind.NewType) h z (record { free = p.free; given = p.given }) in
      record { free = there.free; given = there.given };
}

-- values by place, where such are held
tuple_kept : {P : Type 0} {refusal : SeqLeft → Option Cause} {given : P → SeqLeft → Type 0} → PartsKeep refusal given → (o : Option Trees) (c : Cause) (h : Bool) (z : P)
    → MayGive (refusal_then (or_else (option_map (items_under (flags h false)) o) (refused c)) refusal) (λ w. IsTaken (or_else (option_map (items_under (flags h false)) o) (refused c)) (given w)) z
    → MayGive (refusal_then (or_else (option_map (items_under (flags h true)) o) (refused c)) refusal) (λ w. IsTaken (or_else (option_map (items_under (flags h true)) o) (refused c)) (given w)) z
tuple_kept parts None c h z p = absurd p.given
tuple_kept parts (Some ts) c h z p = let there = parts.of_items ts h z (record { free = p.free; given = p.given }) in record { free = there.free; given = there.given }

-- a variant of values by place
pub tuple_variant_keeps : {P : Type 0} {refusal : SeqLeft → Option Cause} {given : P → SeqLeft → Type 0} → PartsKeep refusal given
    → VariantKeeps (tuple_variant_refusal refusal) (λ z. TupleVariantGives (given z))
tuple_variant_keeps parts = record {
  of_held = λ name held h z p.
      let there = tuple_kept parts (many_held held) (wrong_sort (left name held (flags h true)) kind.Tuple) h z (record { free = p.free; given = p.given }) in
      record { free = there.free; given = there.given };
}

-- values by key, where such are held
struct_kept : {P : Type 0} {refusal : MapLeft → Option Cause} {given : P → MapLeft → Type 0} → FieldsKeep refusal given → (o : Option (List (Origin × Tree))) (c : Cause) (h : Bool) (z : P)
    → MayGive (refusal_then (or_else (option_map (entries_under (flags h false)) o) (refused c)) refusal) (λ w. IsTaken (or_else (option_map (entries_under (flags h false)) o) (refused c)) (given w)) z
    → MayGive (refusal_then (or_else (option_map (entries_under (flags h true)) o) (refused c)) refusal) (λ w. IsTaken (or_else (option_map (entries_under (flags h true)) o) (refused c)) (given w)) z
struct_kept fields None c h z p = absurd p.given
struct_kept fields (Some es) c h z p = let there = fields.of_entries es h z (record { free = p.free; given = p.given }) in record { free = there.free; given = there.given }

-- a variant of values by key
pub struct_variant_keeps : {P : Type 0} {refusal : MapLeft → Option Cause} {given : P → MapLeft → Type 0} → FieldsKeep refusal given
    → VariantKeeps (struct_variant_refusal refusal) (λ z. StructVariantGives (given z))
struct_variant_keeps fields = record {
  of_held = λ name held h z p.
      let there = struct_kept fields (entries_held held) (wrong_sort (left name held (flags h true)) kind.Struct) h z (record { free = p.free; given = p.given }) in
      record { free = there.free; given = there.given };
}

-- a tag that is read as the variant's name, and what comes after it
tagged_kept : {P : Type 0} {own : VariantLeft → Option Cause} {given : P → VariantLeft → Type 0} (variant : List ℕ) (variants : List ℕ → VariantLeft → Option Cause)
    → ((v : VariantLeft) → variants variant v ≡ own v) → VariantKeeps own given → (name : List ℕ) (held : Held) (tag : Outcome Text) (h : Bool) (z : P)
    → refusal_then tag (λ t. variants t.content (left name held (flags h false))) ≡ None
    → IsTaken tag (λ t. t.content ≡ variant) × given z (left name held (flags h false))
    → (refusal_then tag (λ t. variants t.content (left name held (flags h true))) ≡ None) × (IsTaken tag (λ t. t.content ≡ variant) × given z (left name held (flags h true)))
tagged_kept {own} variant variants so keeps name held (taken t) h z free is =
    let before = left name held (flags h false) in
    let after = left name held (flags h true) in
    let there = keeps.of_held name held h z (record { free = sym (so before) ∙ subst (λ n. variants n before ≡ None) is.0 free; given = is.1 }) in
    (subst (λ n. variants n after ≡ None) (sym is.0) (so after ∙ there.free), (is.0, there.given))
tagged_kept variant variants so keeps name held (refused c) h z free is = absurd (cc free)

-- what an enum may give as this variant without coercion it may give with it
pub variant_kept : {P : Type 0} {own : VariantLeft → Option Cause} {given : P → VariantLeft → Type 0} (name variant : List ℕ) (variants : List ℕ → VariantLeft → Option Cause)
    → ((v : VariantLeft) → variants variant v ≡ own v) → VariantKeeps own given → (o : Origin) (h : Bool) (z : P)
    → enum_refusal name variants (under (flags h false) o) ≡ None → EnumGives name variant (given z) (under (flags h false) o)
    → (enum_refusal name variants (under (flags h true) o) ≡ None) × EnumGives name variant (given z) (under (flags h true) o)
variant_kept name variant variants so keeps (of_tree (tree.enumeration n i v d)) h z free is = tagged_kept variant variants so keeps name (a_node (tree.enumeration n i v d)) (text_from (of_identifier v i)) h z free is
variant_kept name variant variants so keeps (of_tree (tree.text t)) h z free is = tagged_kept variant variants so keeps name nothing (text_from (of_tree (tree.text t))) h z free is
variant_kept name variant variants so keeps (of_tree (tree.map (tree.pair_then k t tree.no_pairs))) h z free is = tagged_kept variant variants so keeps name (a_value t) (text_from (of_tree k)) h z free is
variant_kept name variant variants so keeps o h z free is = absurd is

-- what isn't this variant
pub other_variant : {a b : List ℕ} {Q : Type 0} → a ≡ b → bytes_eq a b ≡ false → Q
other_variant {a} {b} same other = let clash : true ≡ false = sym ((bytes_eq-Decides a b).1 same) ∙ other in absurd (cc clash)
