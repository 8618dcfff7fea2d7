-- The script of any tree is lawful.
use Rattle.std.specs.Prelude.{◌≡◌, ℕ, Bool, true, false, List, [], ◌∷◌, refl, if◌then◌else◌}
use Rattle.std.proofs.Common.{sym, subst}
use Rattle.content_tree.specs.Values.Tree as tree
use Rattle.content_tree.specs.Values.Tree.{Tree, TreeData, Trees, Pairs, Fields}
use Rattle.content_ser.specs.Calls.Event as event
use Rattle.content_ser.specs.Calls.Event.{Event}
use Rattle.content_ser.specs.Grammar.Token as token
use Rattle.content_ser.specs.Grammar.Token.{ItemCall, leaf}
use Rattle.content_ser.specs.Grammar.Spells.{spells_wrap, spells_series, spells_map, spells_record}
use Rattle.content_ser.specs.Grammar.Spells.{elements_end, elements_more, items_end, fields_end}
use Rattle.content_ser.specs.Grammar.Spells.{fields_more}
use Rattle.content_ser.specs.Scripts.Script.{Script, done, stop_with, call_then, and_then, IsLawful}
use Rattle.content_ser.specs.Laws.Fits.{ATree, ASeries, AMap, AFields, Fits, fits_only, fits_call}
use Rattle.content_ser.specs.Laws.Fits.{fits_then, lawful_from_fits, fits_from_lawful}
use Rattle.content_ser.specs.Laws.StandardScripts.{leaf_lawful, entry_fits}
use Rattle.content_ser.specs.Calls.Head.{Head, of_struct, of_variant}
use Rattle.content_ser.specs.Sending.TreeScript.{owned_key_text, script_of, script_of_data}
use Rattle.content_ser.specs.Sending.TreeScript.{script_of_each, script_of_pairs, script_of_fields}

-- one call that is a whole tree
leaf_fits : {c : Event} {t : Tree} → token.token_of c ≡ leaf t → Fits ATree (call_then c done)
leaf_fits is = fits_from_lawful (leaf_lawful is)

-- an item after its call, and then the others
item_fits : {m : ItemCall} {c : Event} {a b : Script} → token.token_of c ≡ token.item m → Fits ATree a → Fits (ASeries m) b → Fits (ASeries m) (call_then c (and_then a b))
item_fits {m} is p q = fits_call {Q = λ calls rest. ASeries m (token.item m ∷ calls) rest} (λ calls rest s. subst (λ k. ASeries m (k ∷ calls) rest) (sym is) s)
    (fits_then (λ calls mid rest s e. (tree.tree_then s.0 e.0, elements_more s.1 e.1)) p q)

-- a field, and then the others; or a stop before it
field_fits : (borrowed : Bool) (k : List ℕ) {a b : Script} → Fits ATree a → Fits AFields b
    → Fits AFields (and_then (if borrowed then call_then (event.field k) done else stop_with (owned_key_text k)) (and_then a b))
field_fits true k p q = fits_call {Q = λ calls rest. AFields (token.field k ∷ calls) rest} (λ calls rest s. s)
    (fits_then (λ calls mid rest s e. (_, fields_more s.1 e.1)) p q)
field_fits false k p q = record { whole = λ e. absurd (cc e); viable = (event.end ∷ [], λ rest. (tree.no_fields, fields_end)) }

mutual
  -- a tree
  pub tree_fits : (t : Tree) → Fits ATree (script_of t)
  tree_fits tree.unit = leaf_fits refl
  tree_fits (tree.boolean b) = leaf_fits refl
  tree_fits (tree.number n) = leaf_fits refl
  tree_fits (tree.character c) = leaf_fits refl
  tree_fits (tree.text t) = leaf_fits refl
  tree_fits (tree.octets t) = leaf_fits refl
  tree_fits (tree.seq ts) = fits_call {Q = ASeries token.element} (λ calls rest e. (_, spells_series e.1)) (each_fits event.element refl ts)
  tree_fits (tree.map ps) = fits_call {Q = AMap} (λ calls rest e. (_, spells_map e.1)) (pairs_fit ps)
  tree_fits tree.absent = leaf_fits refl
  tree_fits (tree.present t) = fits_call {Q = ATree} (λ calls rest s. (_, spells_wrap s.1)) (tree_fits t)
  tree_fits (tree.structure n p) = data_fits (of_struct n.content) p
  tree_fits (tree.enumeration n i v p) = data_fits (of_variant n.content i v.content) p
  tree_fits (tree.tuple ts) = fits_call {Q = ASeries token.element} (λ calls rest e. (_, spells_series e.1)) (each_fits event.element refl ts)

  -- what a struct or a variant holds, under its names
  data_fits : (head : Head) (p : TreeData) → Fits ATree (script_of_data head p)
  data_fits (of_struct n) tree.no_data = leaf_fits refl
  data_fits (of_variant n i v) tree.no_data = leaf_fits refl
  data_fits (of_struct n) (tree.one t) = fits_call {Q = ATree} (λ calls rest s. (_, spells_wrap s.1)) (tree_fits t)
  data_fits (of_variant n i v) (tree.one t) = fits_call {Q = ATree} (λ calls rest s. (_, spells_wrap s.1)) (tree_fits t)
  data_fits (of_struct n) (tree.many ts) = fits_call {Q = ASeries token.tuple_field} (λ calls rest e. (_, spells_series e.1)) (each_fits event.tuple_field refl ts)
  data_fits (of_variant n i v) (tree.many ts) = fits_call {Q = ASeries token.tuple_field} (λ calls rest e. (_, spells_series e.1)) (each_fits event.tuple_field refl ts)
  data_fits (of_struct n) (tree.named fs) = fits_call {Q = AFields} (λ calls rest e. (_, spells_record e.1)) (fields_fit fs)
  data_fits (of_variant n i v) (tree.named fs) = fits_call {Q = AFields} (λ calls rest e. (_, spells_record e.1)) (fields_fit fs)

  -- the items of a series, and the end
  each_fits : {m : ItemCall} (c : Event) → token.token_of c ≡ token.item m → (ts : Trees) → Fits (ASeries m) (script_of_each c ts)
  each_fits c is tree.no_trees = fits_only (λ rest. (tree.no_trees, elements_end))
  each_fits c is (tree.tree_then t ts) = item_fits is (tree_fits t) (each_fits c is ts)

  -- the pairs of a map, and the end
  pairs_fit : (ps : Pairs) → Fits AMap (script_of_pairs ps)
  pairs_fit tree.no_pairs = fits_only (λ rest. ([], items_end))
  pairs_fit (tree.pair_then k t ps) = entry_fits (lawful_from_fits (tree_fits k)) (lawful_from_fits (tree_fits t)) (pairs_fit ps)

  -- the fields of a record, and the end
  fields_fit : (fs : Fields) → Fits AFields (script_of_fields fs)
  fields_fit tree.no_fields = fits_only (λ rest. (tree.no_fields, fields_end))
  fields_fit (tree.field_then k t fs) = field_fits k.borrowed k.content (tree_fits t) (fields_fit fs)

-- the script of any tree
pub tree_lawful : (t : Tree) → IsLawful (script_of t)
tree_lawful t = lawful_from_fits (tree_fits t)
