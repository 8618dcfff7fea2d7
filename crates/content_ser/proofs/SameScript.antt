-- A tree of static names is its own loose form; which trees are sent by the same calls.
use Rattle.std.proofs.Common.{◌≡◌, ℕ, true, ◌&&◌, refl, sym, ap, subst, ◌∙◌, cond}
use Rattle.content_tree.specs.Values.Text.{Text, to_owned}
use Rattle.content_tree.specs.Values.Tree as tree
use Rattle.content_tree.specs.Values.Tree.{Tree, TreeData, Trees, Pairs, Fields, owned, owned_data, count}
use Rattle.content_tree.specs.Values.Tree.{unmarked, at_texts, at_texts_each, at_texts_pairs}
use Rattle.content_tree.specs.Values.Tree.{at_texts_fields, at_texts_data}
use Rattle.content_ser.specs.Calls.Event as event
use Rattle.content_ser.specs.Calls.Event.{Event}
use Rattle.content_ser.specs.Calls.Head.{Head, of_struct, of_variant}
use Rattle.content_ser.specs.Sending.Canonical.{as_built, to_static, IsCanonical, CanonicalOnce}
use Rattle.content_ser.specs.Sending.Canonical.{StaticIsCanonical}
use Rattle.content_ser.specs.Sending.Loose.{loose, loose_variant, loose_data}
use Rattle.content_ser.specs.Sending.Loose.{loose_each, loose_pairs, loose_fields}
use Rattle.content_ser.specs.Sending.StaticNames.{IsStatic, IsAny, EachDataName, EachItemName}
use Rattle.content_ser.specs.Sending.StaticNames.{EachPairName, EachFieldName, HasStaticNames}
use Rattle.content_ser.specs.Sending.StaticNames.{HasStaticKeys}
use Rattle.content_ser.specs.Sending.TreeScript.{script_of, script_of_data, script_of_each}
use Rattle.content_ser.specs.Sending.TreeScript.{script_of_pairs, script_of_fields}
use Rattle.content_ser.specs.Sending.TreeScript.{count_pairs, count_fields}
use Rattle.content_ser.proofs.Naming.{loose_names, built_owned}
use Rattle.content_ser.proofs.Twice.{twice}

struct_same : (n : Text) (p : TreeData) → IsStatic n → loose_data p ≡ p → loose (tree.structure n p) ≡ tree.structure n p
struct_same n p e h = rw (e, h)

enum_same : (n : Text) (i : ℕ) (v : Text) (p : TreeData) → IsStatic n → IsStatic v → loose_data p ≡ p
    → loose (tree.enumeration n i v p) ≡ tree.enumeration n i v p
enum_same n i v p e k h =
    let static : (n.borrowed && v.borrowed) ≡ true = rw (e, k) in
    ap (λ b. cond b (tree.enumeration n i v (loose_data p)) (loose_variant v p)) static ∙ ap (tree.enumeration n i v) h

mutual
  -- a tree of static names is its own loose form
  pub static_loose : (t : Tree) → HasStaticNames t → loose t ≡ t
  static_loose tree.unit h = refl
  static_loose (tree.boolean b) h = refl
  static_loose (tree.number n) h = refl
  static_loose (tree.character c) h = refl
  static_loose (tree.text t) h = refl
  static_loose (tree.octets t) h = refl
  static_loose (tree.seq ts) h = ap tree.seq (static_each ts h)
  static_loose (tree.map ps) h = ap tree.map (static_pairs ps h)
  static_loose tree.absent h = refl
  static_loose (tree.present t) h = ap tree.present (static_loose t h)
  static_loose (tree.structure n p) h = struct_same n p h.0 (static_data p h.1)
  static_loose (tree.enumeration n i v p) h = enum_same n i v p h.0 h.1 (static_data p h.2)
  static_loose (tree.tuple ts) h = ap tree.tuple (static_each ts h)

  static_data : (p : TreeData) → EachDataName IsStatic IsAny p → loose_data p ≡ p
  static_data tree.no_data h = refl
  static_data (tree.one t) h = ap tree.one (static_loose t h)
  static_data (tree.many ts) h = ap tree.many (static_each ts h)
  static_data (tree.named fs) h = ap tree.named (static_fields fs h)

  static_each : (ts : Trees) → EachItemName IsStatic IsAny ts → loose_each ts ≡ ts
  static_each tree.no_trees h = refl
  static_each (tree.tree_then t ts) h = rw (static_loose t h.0, static_each ts h.1)

  static_pairs : (ps : Pairs) → EachPairName IsStatic IsAny ps → loose_pairs ps ≡ ps
  static_pairs tree.no_pairs h = refl
  static_pairs (tree.pair_then k t ps) h = rw (static_loose k h.0, static_loose t h.1, static_pairs ps h.2)

  static_fields : (fs : Fields) → EachFieldName IsStatic IsAny fs → loose_fields fs ≡ fs
  static_fields tree.no_fields h = refl
  static_fields (tree.field_then k t fs) h = rw (static_loose t h.1, static_fields fs h.2)

pub static_is_canonical : StaticIsCanonical
static_is_canonical t names keys = (sym (static_loose t names), keys)

pub canonical_once : CanonicalOnce
canonical_once t c d (is, keys) =
    let same : loose c ≡ c = ap loose is ∙ (twice t ∙ sym is) in
    ((λ h. h.0 ∙ same), (λ e. (e ∙ sym same, subst HasStaticKeys (sym e) keys)))

owned_count : (ts : Trees) → count (at_texts_each to_owned (λ n. n) ts) ≡ count ts
owned_count tree.no_trees = refl
owned_count (tree.tree_then t ts) = rw (owned_count ts)

owned_count_pairs : (ps : Pairs) → count_pairs (at_texts_pairs to_owned (λ n. n) ps) ≡ count_pairs ps
owned_count_pairs tree.no_pairs = refl
owned_count_pairs (tree.pair_then k t ps) = rw (owned_count_pairs ps)

owned_count_fields : (fs : Fields) → count_fields (at_texts_fields to_owned (λ n. n) fs) ≡ count_fields fs
owned_count_fields tree.no_fields = refl
owned_count_fields (tree.field_then k t fs) = rw (owned_count_fields fs)

mutual
  -- whether texts are owned is not seen in the calls
  pub owned_script : (t : Tree) → script_of (owned t) ≡ script_of t
  owned_script tree.unit = refl
  owned_script (tree.boolean b) = refl
  owned_script (tree.number n) = refl
  owned_script (tree.character c) = refl
  owned_script (tree.text t) = refl
  owned_script (tree.octets t) = refl
  owned_script (tree.seq ts) = rw (owned_count ts, owned_each event.element ts)
  owned_script (tree.map ps) = rw (owned_count_pairs ps, owned_pairs ps)
  owned_script tree.absent = refl
  owned_script (tree.present t) = rw (owned_script t)
  owned_script (tree.structure n p) = owned_data_script (of_struct n.content) p
  owned_script (tree.enumeration n i v p) = owned_data_script (of_variant n.content i v.content) p
  owned_script (tree.tuple ts) = rw (owned_count ts, owned_each event.element ts)

  owned_data_script : (head : Head) (p : TreeData) → script_of_data head (owned_data p) ≡ script_of_data head p
  owned_data_script head tree.no_data = refl
  owned_data_script head (tree.one t) = rw (owned_script t)
  owned_data_script head (tree.many ts) = rw (owned_count ts, owned_each event.tuple_field ts)
  owned_data_script head (tree.named fs) = rw (owned_count_fields fs, owned_fields fs)

  owned_each : (c : Event) (ts : Trees) → script_of_each c (at_texts_each to_owned (λ n. n) ts) ≡ script_of_each c ts
  owned_each c tree.no_trees = refl
  owned_each c (tree.tree_then t ts) = rw (owned_script t, owned_each c ts)

  owned_pairs : (ps : Pairs) → script_of_pairs (at_texts_pairs to_owned (λ n. n) ps) ≡ script_of_pairs ps
  owned_pairs tree.no_pairs = refl
  owned_pairs (tree.pair_then k t ps) = rw (owned_script k, owned_script t, owned_pairs ps)

  owned_fields : (fs : Fields) → script_of_fields (at_texts_fields to_owned (λ n. n) fs) ≡ script_of_fields fs
  owned_fields tree.no_fields = refl
  owned_fields (tree.field_then k t fs) = rw (owned_script t, owned_fields fs)

mutual
  -- two passes over texts and names are one
  pub fused : (f g h k : Text → Text) (t : Tree) → at_texts f g (at_texts h k t) ≡ at_texts (λ x. f (h x)) (λ x. g (k x)) t
  fused f g h k tree.unit = refl
  fused f g h k (tree.boolean b) = refl
  fused f g h k (tree.number n) = refl
  fused f g h k (tree.character c) = refl
  fused f g h k (tree.text t) = refl
  fused f g h k (tree.octets t) = refl
  fused f g h k (tree.seq ts) = ap tree.seq (fused_each f g h k ts)
  fused f g h k (tree.map ps) = ap tree.map (fused_pairs f g h k ps)
  fused f g h k tree.absent = refl
  fused f g h k (tree.present t) = ap tree.present (fused f g h k t)
  fused f g h k (tree.structure n p) = ap (tree.structure (g (k n))) (fused_data f g h k p)
  fused f g h k (tree.enumeration n i v p) = ap (tree.enumeration (g (k n)) i (g (k v))) (fused_data f g h k p)
  fused f g h k (tree.tuple ts) = ap tree.tuple (fused_each f g h k ts)

  fused_data : (f g h k : Text → Text) (p : TreeData) → at_texts_data f g (at_texts_data h k p) ≡ at_texts_data (λ x. f (h x)) (λ x. g (k x)) p
  fused_data f g h k tree.no_data = refl
  fused_data f g h k (tree.one t) = ap tree.one (fused f g h k t)
  fused_data f g h k (tree.many ts) = ap tree.many (fused_each f g h k ts)
  fused_data f g h k (tree.named fs) = ap tree.named (fused_fields f g h k fs)

  fused_each : (f g h k : Text → Text) (ts : Trees) → at_texts_each f g (at_texts_each h k ts) ≡ at_texts_each (λ x. f (h x)) (λ x. g (k x)) ts
  fused_each f g h k tree.no_trees = refl
  fused_each f g h k (tree.tree_then t ts) = rw (fused f g h k t, fused_each f g h k ts)

  fused_pairs : (f g h k : Text → Text) (ps : Pairs) → at_texts_pairs f g (at_texts_pairs h k ps) ≡ at_texts_pairs (λ x. f (h x)) (λ x. g (k x)) ps
  fused_pairs f g h k tree.no_pairs = refl
  fused_pairs f g h k (tree.pair_then l t ps) = rw (fused f g h k l, fused f g h k t, fused_pairs f g h k ps)

  fused_fields : (f g h k : Text → Text) (fs : Fields) → at_texts_fields f g (at_texts_fields h k fs) ≡ at_texts_fields (λ x. f (h x)) (λ x. g (k x)) fs
  fused_fields f g h k tree.no_fields = refl
  fused_fields f g h k (tree.field_then l t fs) = rw (fused f g h k t, fused_fields f g h k fs)

-- what calls build of a tree rests on no mark in it
pub built_unmarked : (t : Tree) → as_built (unmarked t) ≡ as_built t
built_unmarked = fused to_owned to_static to_owned to_owned

-- nor does it matter for marks taken off whether texts were made owned before
pub unmarked_owned : (t : Tree) → unmarked (owned t) ≡ unmarked t
unmarked_owned = fused to_owned to_owned to_owned (λ n. n)

-- canonical forms that are equal but for marks are sent by the same calls
pub same_script : (t u c d : Tree) → IsCanonical t c → IsCanonical u d → unmarked c ≡ unmarked d
    → script_of (loose t) ≡ script_of (loose u)
same_script t u c d (is, keys) (is', keys') e =
    let built : as_built c ≡ as_built d = sym (built_unmarked c) ∙ (ap as_built e ∙ built_unmarked d) in
    let left : as_built c ≡ owned c = built_owned c (subst HasStaticNames (sym is) (loose_names t)) keys in
    let right : as_built d ≡ owned d = built_owned d (subst HasStaticNames (sym is') (loose_names u)) keys' in
    let owns : owned c ≡ owned d = sym left ∙ (built ∙ right) in
    let scripts : script_of c ≡ script_of d = sym (owned_script c) ∙ (ap script_of owns ∙ owned_script d) in
    ap script_of (sym is) ∙ (scripts ∙ ap script_of is')

-- texts owned or not: the marks taken off are the same
pub same_unmarked : (c d : Tree) → owned c ≡ owned d → unmarked c ≡ unmarked d
same_unmarked c d e = sym (unmarked_owned c) ∙ (ap unmarked e ∙ unmarked_owned d)
