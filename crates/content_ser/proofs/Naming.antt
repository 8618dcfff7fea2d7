-- The names of a loose form are static, and so are its keys where its script has no stop.
use Rattle.std.proofs.Common.{◌≡◌, ℕ, Bool, true, false, ◌&&◌, List, [], ◌∷◌, None, refl, sym, ap}
use Rattle.std.proofs.Common.{subst, ◌∙◌, if◌then◌else◌}
use Rattle.content_tree.specs.Values.Text.{Text, to_owned}
use Rattle.content_tree.specs.Values.Tree as tree
use Rattle.content_tree.specs.Values.Tree.{Tree, TreeData, Trees, Pairs, Fields, owned, owned_data}
use Rattle.content_tree.specs.Values.Tree.{at_texts_data, at_texts_each, at_texts_pairs}
use Rattle.content_tree.specs.Values.Tree.{at_texts_fields}
use Rattle.content_ser.specs.Sending.Canonical.{as_built, to_static}
use Rattle.content_ser.specs.Calls.Event as event
use Rattle.content_ser.specs.Calls.Event.{Event}
use Rattle.content_ser.specs.Scripts.Script.{Script, done, stop_with, call_then, stop_of, and_then}
use Rattle.content_ser.specs.Sending.Loose.{KeyedTree, sorted, text_pairs, loose, loose_struct}
use Rattle.content_ser.specs.Sending.Loose.{loose_variant, loose_data, loose_each, loose_pairs}
use Rattle.content_ser.specs.Sending.Loose.{loose_field_pairs, loose_fields, keyed}
use Rattle.content_ser.specs.Laws.ScriptsInTurn.{no_stop_first, no_stop_second, stop_of_both}
use Rattle.content_ser.specs.Sending.StaticNames.{IsStatic, IsAny, EachDataName, EachItemName}
use Rattle.content_ser.specs.Sending.StaticNames.{EachPairName, EachFieldName, HasStaticNames}
use Rattle.content_ser.specs.Sending.StaticNames.{HasStaticKeys}
use Rattle.content_ser.specs.Calls.Head.{Head, of_struct, of_variant}
use Rattle.content_ser.specs.Sending.TreeScript.{key_script, script_of, script_of_data}
use Rattle.content_ser.specs.Sending.TreeScript.{script_of_each, script_of_pairs, script_of_fields}
use Rattle.content_ser.specs.Sending.TreeScript.{owned_key_text}
use Rattle.content_ser.proofs.Sorting.{EachHeld, sorted_held}

both : (a b : Bool) → (a && b) ≡ true → (a ≡ true) × (b ≡ true)
both true b e = (refl, e)
both false b e = absurd (cc e)

struct_names : (b : Bool) (n : Text) (p : TreeData) → n.borrowed ≡ b → EachDataName IsStatic IsAny (loose_data p) → HasStaticNames (loose_struct p) → HasStaticNames (loose (tree.structure n p))
struct_names true n p e h k = subst (λ b. HasStaticNames (if b then tree.structure n (loose_data p) else loose_struct p)) (sym e) (e, h)
struct_names false n p e h k = subst (λ b. HasStaticNames (if b then tree.structure n (loose_data p) else loose_struct p)) (sym e) k

enum_names : (b : Bool) (n : Text) (i : ℕ) (v : Text) (p : TreeData) → (n.borrowed && v.borrowed) ≡ b → EachDataName IsStatic IsAny (loose_data p) → HasStaticNames (loose_variant v p)
    → HasStaticNames (loose (tree.enumeration n i v p))
enum_names true n i v p e h k =
    let names = both n.borrowed v.borrowed e in
    subst (λ b. HasStaticNames (if b then tree.enumeration n i v (loose_data p) else loose_variant v p)) (sym e) (names.0, names.1, h)
enum_names false n i v p e h k = subst (λ b. HasStaticNames (if b then tree.enumeration n i v (loose_data p) else loose_variant v p)) (sym e) k

text_pairs-names : (es : List KeyedTree) → EachHeld HasStaticNames es → EachPairName IsStatic IsAny (text_pairs es)
text_pairs-names [] h = tt
text_pairs-names (e ∷ es) h = (tt, h.0, text_pairs-names es h.1)

mutual
  -- the names of a loose form are static
  pub loose_names : (t : Tree) → HasStaticNames (loose t)
  loose_names tree.unit = tt
  loose_names (tree.boolean b) = tt
  loose_names (tree.number n) = tt
  loose_names (tree.character c) = tt
  loose_names (tree.text t) = tt
  loose_names (tree.octets t) = tt
  loose_names (tree.seq ts) = item_names ts
  loose_names (tree.map ps) = pair_names ps
  loose_names tree.absent = tt
  loose_names (tree.present t) = loose_names t
  loose_names (tree.structure n p) = struct_names n.borrowed n p refl (data_names p) (in_struct p)
  loose_names (tree.enumeration n i v p) = enum_names (n.borrowed && v.borrowed) n i v p refl (data_names p) (in_variant v p)
  loose_names (tree.tuple ts) = item_names ts

  in_struct : (p : TreeData) → HasStaticNames (loose_struct p)
  in_struct tree.no_data = tt
  in_struct (tree.one t) = loose_names t
  in_struct (tree.many ts) = item_names ts
  in_struct (tree.named fs) = entry_names fs

  in_variant : (v : Text) (p : TreeData) → HasStaticNames (loose_variant v p)
  in_variant v tree.no_data = tt
  in_variant v (tree.one t) = (tt, loose_names t, tt)
  in_variant v (tree.many ts) = (tt, item_names ts, tt)
  in_variant v (tree.named fs) = (tt, text_pairs-names (sorted (keyed fs)) (sorted_held HasStaticNames (keyed fs) (keyed_names fs)), tt)

  data_names : (p : TreeData) → EachDataName IsStatic IsAny (loose_data p)
  data_names tree.no_data = tt
  data_names (tree.one t) = loose_names t
  data_names (tree.many ts) = item_names ts
  data_names (tree.named fs) = field_names fs

  item_names : (ts : Trees) → EachItemName IsStatic IsAny (loose_each ts)
  item_names tree.no_trees = tt
  item_names (tree.tree_then t ts) = (loose_names t, item_names ts)

  pair_names : (ps : Pairs) → EachPairName IsStatic IsAny (loose_pairs ps)
  pair_names tree.no_pairs = tt
  pair_names (tree.pair_then k t ps) = (loose_names k, loose_names t, pair_names ps)

  entry_names : (fs : Fields) → EachPairName IsStatic IsAny (loose_field_pairs fs)
  entry_names tree.no_fields = tt
  entry_names (tree.field_then k t fs) = (tt, loose_names t, entry_names fs)

  field_names : (fs : Fields) → EachFieldName IsStatic IsAny (loose_fields fs)
  field_names tree.no_fields = tt
  field_names (tree.field_then k t fs) = (tt, loose_names t, field_names fs)

  keyed_names : (fs : Fields) → EachHeld HasStaticNames (keyed fs)
  keyed_names tree.no_fields = tt
  keyed_names (tree.field_then k t fs) = (loose_names t, keyed_names fs)

static_key : (borrowed : Bool) (k : List ℕ) → stop_of (if borrowed then call_then (event.field k) done else stop_with (owned_key_text k)) ≡ None → borrowed ≡ true
static_key true k e = refl
static_key false k e = absurd (cc e)

mutual
  -- where the script of a tree has no stop, its keys are static
  pub keys_static : (t : Tree) → stop_of (script_of t) ≡ None → HasStaticKeys t
  keys_static tree.unit e = tt
  keys_static (tree.boolean b) e = tt
  keys_static (tree.number n) e = tt
  keys_static (tree.character c) e = tt
  keys_static (tree.text t) e = tt
  keys_static (tree.octets t) e = tt
  keys_static (tree.seq ts) e = item_keys event.element ts e
  keys_static (tree.map ps) e = pair_keys ps e
  keys_static tree.absent e = tt
  keys_static (tree.present t) e = keys_static t e
  keys_static (tree.structure n p) e = (tt, data_keys (of_struct n.content) p e)
  keys_static (tree.enumeration n i v p) e = (tt, tt, data_keys (of_variant n.content i v.content) p e)
  keys_static (tree.tuple ts) e = item_keys event.element ts e

  data_keys : (head : Head) (p : TreeData) → stop_of (script_of_data head p) ≡ None → EachDataName IsAny IsStatic p
  data_keys head tree.no_data e = tt
  data_keys head (tree.one t) e = keys_static t e
  data_keys head (tree.many ts) e = item_keys event.tuple_field ts e
  data_keys head (tree.named fs) e = field_keys fs e

  item_keys : (item_call : Event) (ts : Trees) → stop_of (script_of_each item_call ts) ≡ None → EachItemName IsAny IsStatic ts
  item_keys item_call tree.no_trees e = tt
  item_keys item_call (tree.tree_then t ts) e =
      (keys_static t (no_stop_first (script_of t) (script_of_each item_call ts) e), item_keys item_call ts (no_stop_second (script_of t) (script_of_each item_call ts) e))

  pair_keys : (ps : Pairs) → stop_of (script_of_pairs ps) ≡ None → EachPairName IsAny IsStatic ps
  pair_keys tree.no_pairs e = tt
  pair_keys (tree.pair_then k t ps) e =
      let rest = no_stop_second (script_of k) (and_then (script_of t) (script_of_pairs ps)) e in (
        keys_static k (no_stop_first (script_of k) (and_then (script_of t) (script_of_pairs ps)) e),
        keys_static t (no_stop_first (script_of t) (script_of_pairs ps) rest),
        pair_keys ps (no_stop_second (script_of t) (script_of_pairs ps) rest),
      )

  field_keys : (fs : Fields) → stop_of (script_of_fields fs) ≡ None → EachFieldName IsAny IsStatic fs
  field_keys tree.no_fields e = tt
  field_keys (tree.field_then k t fs) e =
      let rest = no_stop_second (key_script k) (and_then (script_of t) (script_of_fields fs)) e in (
        static_key k.borrowed k.content (no_stop_first (key_script k) (and_then (script_of t) (script_of_fields fs)) e),
        keys_static t (no_stop_first (script_of t) (script_of_fields fs) rest),
        field_keys fs (no_stop_second (script_of t) (script_of_fields fs) rest),
      )

-- neither of two scripts has a stop
free_both : (a b : Script) → stop_of a ≡ None → stop_of b ≡ None → stop_of (and_then a b) ≡ None
free_both a b e f = stop_of_both a b e ∙ f

free_key : (k : Text) → IsStatic k → stop_of (key_script k) ≡ None
free_key k e = ap (λ b. stop_of (if b then call_then (event.field k.content) done else stop_with (owned_key_text k.content))) e

mutual
  -- where the keys of a tree are static, its script has no stop
  pub stop_free : (t : Tree) → HasStaticKeys t → stop_of (script_of t) ≡ None
  stop_free tree.unit h = refl
  stop_free (tree.boolean b) h = refl
  stop_free (tree.number n) h = refl
  stop_free (tree.character c) h = refl
  stop_free (tree.text t) h = refl
  stop_free (tree.octets t) h = refl
  stop_free (tree.seq ts) h = items_free event.element ts h
  stop_free (tree.map ps) h = pairs_free ps h
  stop_free tree.absent h = refl
  stop_free (tree.present t) h = stop_free t h
  stop_free (tree.structure n p) h = data_free (of_struct n.content) p h.1
  stop_free (tree.enumeration n i v p) h = data_free (of_variant n.content i v.content) p h.2
  stop_free (tree.tuple ts) h = items_free event.element ts h

  data_free : (head : Head) (p : TreeData) → EachDataName IsAny IsStatic p → stop_of (script_of_data head p) ≡ None
  data_free head tree.no_data h = refl
  data_free head (tree.one t) h = stop_free t h
  data_free head (tree.many ts) h = items_free event.tuple_field ts h
  data_free head (tree.named fs) h = fields_free fs h

  items_free : (item_call : Event) (ts : Trees) → EachItemName IsAny IsStatic ts → stop_of (script_of_each item_call ts) ≡ None
  items_free item_call tree.no_trees h = refl
  items_free item_call (tree.tree_then t ts) h = free_both (script_of t) (script_of_each item_call ts) (stop_free t h.0) (items_free item_call ts h.1)

  pairs_free : (ps : Pairs) → EachPairName IsAny IsStatic ps → stop_of (script_of_pairs ps) ≡ None
  pairs_free tree.no_pairs h = refl
  pairs_free (tree.pair_then k t ps) h =
      free_both (script_of k) (and_then (script_of t) (script_of_pairs ps)) (stop_free k h.0) (free_both (script_of t) (script_of_pairs ps) (stop_free t h.1) (pairs_free ps h.2))

  fields_free : (fs : Fields) → EachFieldName IsAny IsStatic fs → stop_of (script_of_fields fs) ≡ None
  fields_free tree.no_fields h = refl
  fields_free (tree.field_then k t fs) h =
      free_both (key_script k) (and_then (script_of t) (script_of_fields fs)) (free_key k h.0) (free_both (script_of t) (script_of_fields fs) (stop_free t h.1) (fields_free fs h.2))

-- a static name is as it would be built
same_name : (n : Text) → IsStatic n → to_static n ≡ n
same_name n e = sym (ap (λ b. record { content = n.content; borrowed = b }) e)

mutual
  -- calls build a tree of static names and keys, its texts and byte values owned
  pub built_owned : (t : Tree) → HasStaticNames t → HasStaticKeys t → as_built t ≡ owned t
  built_owned tree.unit h g = refl
  built_owned (tree.boolean b) h g = refl
  built_owned (tree.number n) h g = refl
  built_owned (tree.character c) h g = refl
  built_owned (tree.text t) h g = refl
  built_owned (tree.octets t) h g = refl
  built_owned (tree.seq ts) h g = ap tree.seq (built_items ts h g)
  built_owned (tree.map ps) h g = ap tree.map (built_pairs ps h g)
  built_owned tree.absent h g = refl
  built_owned (tree.present t) h g = ap tree.present (built_owned t h g)
  built_owned (tree.structure n p) h g = rw (same_name n h.0, built_data p h.1 g.1)
  built_owned (tree.enumeration n i v p) h g = rw (same_name n h.0, same_name v h.1, built_data p h.2 g.2)
  built_owned (tree.tuple ts) h g = ap tree.tuple (built_items ts h g)

  built_data : (p : TreeData) → EachDataName IsStatic IsAny p → EachDataName IsAny IsStatic p → at_texts_data to_owned to_static p ≡ owned_data p
  built_data tree.no_data h g = refl
  built_data (tree.one t) h g = ap tree.one (built_owned t h g)
  built_data (tree.many ts) h g = ap tree.many (built_items ts h g)
  built_data (tree.named fs) h g = ap tree.named (built_fields fs h g)

  built_items : (ts : Trees) → EachItemName IsStatic IsAny ts → EachItemName IsAny IsStatic ts → at_texts_each to_owned to_static ts ≡ at_texts_each to_owned (λ n. n) ts
  built_items tree.no_trees h g = refl
  built_items (tree.tree_then t ts) h g = rw (built_owned t h.0 g.0, built_items ts h.1 g.1)

  built_pairs : (ps : Pairs) → EachPairName IsStatic IsAny ps → EachPairName IsAny IsStatic ps → at_texts_pairs to_owned to_static ps ≡ at_texts_pairs to_owned (λ n. n) ps
  built_pairs tree.no_pairs h g = refl
  built_pairs (tree.pair_then k t ps) h g = rw (built_owned k h.0 g.0, built_owned t h.1 g.1, built_pairs ps h.2 g.2)

  built_fields : (fs : Fields) → EachFieldName IsStatic IsAny fs → EachFieldName IsAny IsStatic fs → at_texts_fields to_owned to_static fs ≡ at_texts_fields to_owned (λ n. n) fs
  built_fields tree.no_fields h g = refl
  built_fields (tree.field_then k t fs) h g = rw (same_name k g.0, built_owned t h.1 g.1, built_fields fs h.2 g.2)
