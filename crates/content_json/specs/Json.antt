-- The JSON text of a tree, as serde_json prints it.
use Rattle.std.specs.Prelude.{ℕ, List, [], ◌∷◌, codes, map, encode_utf8}
use Rattle.std.specs.Fmt.{decimal}
use Rattle.content_tree.specs.Values.Tree as tree
use Rattle.content_tree.specs.Values.Tree.{Tree, TreeData, Trees, Pairs, Fields}
use Rattle.content_json.specs.Keys.{key_text}
use Rattle.content_json.specs.Layout.{array, deeper, member, object}
use Rattle.content_json.specs.Leaves.{boolean_text, number_text}
use Rattle.content_json.specs.Strings.{quoted}
use Rattle.content_json.specs.declared.layout.Layout.{Layout}

-- a variant of this name: its name, or an object of its name with the text of what it holds
abbrev pub variant : Layout → List ℕ → TreeData → List ℕ → List ℕ
variant l v tree.no_data inside = quoted v
variant l v d inside = object l (member l (quoted v) inside ∷ [])

abbrev mutual
  -- the text of a tree: what is in it, without names but those of fields and variants
  pub json : Layout → Tree → List ℕ
  json l tree.unit = codes "null"
  json l (tree.boolean b) = boolean_text b
  json l (tree.number n) = number_text n
  json l (tree.character c) = quoted (encode_utf8 c)
  json l (tree.text t) = quoted t.content
  json l (tree.octets t) = array l (map decimal t.content)
  json l (tree.seq ts) = array l (each_json (deeper l) ts)
  json l (tree.map ps) = object l (pair_members (deeper l) ps)
  json l tree.absent = codes "null"
  json l (tree.present t) = json l t
  json l (tree.structure n d) = data_json l d
  json l (tree.enumeration n i v d) = variant l v.content d (data_json (deeper l) d)
  json l (tree.tuple ts) = array l (each_json (deeper l) ts)

  -- what a struct holds
  pub data_json : Layout → TreeData → List ℕ
  data_json l tree.no_data = codes "null"
  data_json l (tree.one t) = json l t
  data_json l (tree.many ts) = array l (each_json (deeper l) ts)
  data_json l (tree.named fs) = object l (field_members (deeper l) fs)

  -- one by one
  pub each_json : Layout → Trees → List (List ℕ)
  each_json l tree.no_trees = []
  each_json l (tree.tree_then t ts) = json l t ∷ each_json l ts

  -- of each pair, key and value
  pub pair_members : Layout → Pairs → List (List ℕ)
  pair_members l tree.no_pairs = []
  pair_members l (tree.pair_then k t ps) = member l (key_text k) (json l t) ∷ pair_members l ps

  -- of each field, key and value
  pub field_members : Layout → Fields → List (List ℕ)
  field_members l tree.no_fields = []
  field_members l (tree.field_then k t fs) = member l (quoted k.content) (json l t) ∷ field_members l fs
