-- Forms are their own, and have the items of their trees.
use Rattle.std.proofs.Common.{◌≡◌, ℕ, suc, List, ◌++◌, refl, sym, ap, ◌∙◌, append_assoc, append-nil}
use Rattle.content_tree.specs.Values.Tree as tree
use Rattle.content_tree.specs.Values.Tree.{Tree, TreeData, Trees, Pairs, Fields, count}
use Rattle.content_tree.specs.Values.Ranges.{number_value}
use Rattle.content_ser.specs.Sending.TreeScript.{count_pairs, count_fields}
use Rattle.content_cbor.specs.Codes.{number_of}
use Rattle.content_cbor.specs.Form.{form, each_form, pair_forms, field_forms, data_form, variant_form, text_form, entry_form}
use Rattle.content_cbor.specs.Heads.{head}
use Rattle.content_cbor.specs.Item.{item, each_item, pair_items, field_items, data_item, variant_item, text_item, number_item}
use Rattle.content_cbor.specs.declared.heads.Major.TheVariants as major
use Rattle.content_cbor.specs.Typed.Leaves.{value_kept}

mutual
  pub form_own : (t : Tree) → form (form t) ≡ form t
  form_own tree.unit = refl
  form_own (tree.boolean b) = refl
  form_own (tree.number n) = ap (λ z. tree.number (number_of z)) (value_kept (number_value n))
  form_own (tree.character c) = refl
  form_own (tree.text t) = refl
  form_own (tree.octets t) = refl
  form_own (tree.seq ts) = ap tree.seq (each_own ts)
  form_own (tree.map ps) = ap tree.map (pairs_own ps)
  form_own tree.absent = refl
  form_own (tree.present t) = form_own t
  form_own (tree.structure n d) = data_own d
  form_own (tree.enumeration n i v d) = variant_own v.content d
  form_own (tree.tuple ts) = ap tree.seq (each_own ts)

  data_own : (d : TreeData) → form (data_form d) ≡ data_form d
  data_own tree.no_data = refl
  data_own (tree.one t) = form_own t
  data_own (tree.many ts) = ap tree.seq (each_own ts)
  data_own (tree.named fs) = ap tree.map (fields_own fs)

  variant_own : (v : List ℕ) (d : TreeData) → form (variant_form v d) ≡ variant_form v d
  variant_own v tree.no_data = refl
  variant_own v (tree.one t) = ap (entry_form v) (form_own t)
  variant_own v (tree.many ts) = ap (λ us. entry_form v (tree.seq us)) (each_own ts)
  variant_own v (tree.named fs) = ap (λ ps. entry_form v (tree.map ps)) (fields_own fs)

  each_own : (ts : Trees) → each_form (each_form ts) ≡ each_form ts
  each_own tree.no_trees = refl
  each_own (tree.tree_then t ts) = ap (λ u. tree.tree_then u (each_form (each_form ts))) (form_own t) ∙ ap (tree.tree_then (form t)) (each_own ts)

  pairs_own : (ps : Pairs) → pair_forms (pair_forms ps) ≡ pair_forms ps
  pairs_own tree.no_pairs = refl
  pairs_own (tree.pair_then k t ps) =
      ap (λ u. tree.pair_then u (form (form t)) (pair_forms (pair_forms ps))) (form_own k)
      ∙ ap (λ u. tree.pair_then (form k) u (pair_forms (pair_forms ps))) (form_own t) ∙ ap (tree.pair_then (form k) (form t)) (pairs_own ps)

  fields_own : (fs : Fields) → pair_forms (field_forms fs) ≡ field_forms fs
  fields_own tree.no_fields = refl
  fields_own (tree.field_then k t fs) =
      ap (λ u. tree.pair_then (text_form k.content) u (pair_forms (field_forms fs))) (form_own t) ∙ ap (tree.pair_then (text_form k.content) (form t)) (fields_own fs)

-- ---- counts

count_same : (ts : Trees) → count (each_form ts) ≡ count ts
count_same tree.no_trees = refl
count_same (tree.tree_then t ts) = ap suc (count_same ts)

pairs_same : (ps : Pairs) → count_pairs (pair_forms ps) ≡ count_pairs ps
pairs_same tree.no_pairs = refl
pairs_same (tree.pair_then k t ps) = ap suc (pairs_same ps)

fields_same : (fs : Fields) → count_pairs (field_forms fs) ≡ count_fields fs
fields_same tree.no_fields = refl
fields_same (tree.field_then k t fs) = ap suc (fields_same fs)

-- ---- items

entry_item : (v : List ℕ) (t : Tree) (bs : List ℕ) → item t ≡ bs → item (entry_form v t) ≡ (head major.Map 1 ++ text_item v) ++ bs
entry_item v t bs is =
    ap (λ x. head major.Map 1 ++ x) (append-nil (text_item v ++ item t) ∙ ap (λ x. text_item v ++ x) is) ∙ sym (append_assoc (head major.Map 1) (text_item v) bs)

list_item : (ts : Trees) → each_item (each_form ts) ≡ each_item ts → item (tree.seq (each_form ts)) ≡ head major.Array (count ts) ++ each_item ts
list_item ts same = ap (λ n. head major.Array n ++ each_item (each_form ts)) (count_same ts) ∙ ap (λ x. head major.Array (count ts) ++ x) same

map_item : (fs : Fields) → pair_items (field_forms fs) ≡ field_items fs → item (tree.map (field_forms fs)) ≡ head major.Map (count_fields fs) ++ field_items fs
map_item fs same = ap (λ n. head major.Map n ++ pair_items (field_forms fs)) (fields_same fs) ∙ ap (λ x. head major.Map (count_fields fs) ++ x) same

mutual
  pub form_item : (t : Tree) → item (form t) ≡ item t
  form_item tree.unit = refl
  form_item (tree.boolean b) = refl
  form_item (tree.number n) = ap number_item (value_kept (number_value n))
  form_item (tree.character c) = refl
  form_item (tree.text t) = refl
  form_item (tree.octets t) = refl
  form_item (tree.seq ts) = list_item ts (each_same ts)
  form_item (tree.map ps) = ap (λ n. head major.Map n ++ pair_items (pair_forms ps)) (pairs_same ps) ∙ ap (λ x. head major.Map (count_pairs ps) ++ x) (pairs_item ps)
  form_item tree.absent = refl
  form_item (tree.present t) = form_item t
  form_item (tree.structure n d) = data_same d
  form_item (tree.enumeration n i v d) = variant_same v.content d
  form_item (tree.tuple ts) = list_item ts (each_same ts)

  data_same : (d : TreeData) → item (data_form d) ≡ data_item d
  data_same tree.no_data = refl
  data_same (tree.one t) = form_item t
  data_same (tree.many ts) = list_item ts (each_same ts)
  data_same (tree.named fs) = map_item fs (fields_item fs)

  variant_same : (v : List ℕ) (d : TreeData) → item (variant_form v d) ≡ variant_item v d
  variant_same v tree.no_data = refl
  variant_same v (tree.one t) = entry_item v (form t) (item t) (form_item t)
  variant_same v (tree.many ts) = entry_item v (tree.seq (each_form ts)) _ (list_item ts (each_same ts))
  variant_same v (tree.named fs) = entry_item v (tree.map (field_forms fs)) _ (map_item fs (fields_item fs))

  each_same : (ts : Trees) → each_item (each_form ts) ≡ each_item ts
  each_same tree.no_trees = refl
  each_same (tree.tree_then t ts) = ap (λ x. x ++ each_item (each_form ts)) (form_item t) ∙ ap (λ x. item t ++ x) (each_same ts)

  pairs_item : (ps : Pairs) → pair_items (pair_forms ps) ≡ pair_items ps
  pairs_item tree.no_pairs = refl
  pairs_item (tree.pair_then k t ps) =
      ap (λ x. (x ++ item (form t)) ++ pair_items (pair_forms ps)) (form_item k) ∙ ap (λ x. (item k ++ x) ++ pair_items (pair_forms ps)) (form_item t)
      ∙ ap (λ x. (item k ++ item t) ++ x) (pairs_item ps)

  fields_item : (fs : Fields) → pair_items (field_forms fs) ≡ field_items fs
  fields_item tree.no_fields = refl
  fields_item (tree.field_then k t fs) =
      ap (λ x. (text_item k.content ++ x) ++ pair_items (field_forms fs)) (form_item t) ∙ ap (λ x. (text_item k.content ++ item t) ++ x) (fields_item fs)
