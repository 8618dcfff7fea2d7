-- The loose form of a tree: what is sent where names aren't static.
use Rattle.std.specs.Prelude.{ℕ, List, [], ◌∷◌, ◌&&◌, if◌then◌else◌}
use Rattle.std.specs.BTreeMap.{insert_entry}
use Rattle.std.specs.Ordering.{nat_cmp}
use Rattle.std.specs.Cmp.Lexicographic.{slice_cmp}
use Rattle.content_tree.specs.Values.Text.{Text, owned_text}
use Rattle.content_tree.specs.Values.Tree as tree
use Rattle.content_tree.specs.Values.Tree.{Tree, TreeData, Trees, Pairs, Fields}

-- a key and its tree
abbrev pub KeyedTree : Type 0
KeyedTree = List ℕ × Tree

-- an entry put in the order of the keys' bytes, in place of one with an equal key
abbrev pub put : List KeyedTree → KeyedTree → List KeyedTree
put es e = insert_entry (slice_cmp nat_cmp) es e.0 e.1

-- each in turn put among these
abbrev pub put_each : List KeyedTree → List KeyedTree → List KeyedTree
put_each all [] = all
put_each all (e ∷ es) = put_each (put all e) es

-- sorted by the bytes of the keys, the last of equal keys kept
abbrev pub sorted : List KeyedTree → List KeyedTree
sorted = put_each []

-- pairs with text keys
abbrev pub text_pairs : List KeyedTree → Pairs
text_pairs [] = tree.no_pairs
text_pairs (e ∷ es) = tree.pair_then (tree.text (owned_text e.0)) e.1 (text_pairs es)

-- a map of one entry
abbrev pub single : Text → Tree → Tree
single k t = tree.map (tree.pair_then (tree.text k) t tree.no_pairs)

abbrev mutual
  -- the tree with the table of sending applied at each struct and variant
  pub loose : Tree → Tree
  loose tree.unit = tree.unit
  loose (tree.boolean b) = tree.boolean b
  loose (tree.number n) = tree.number n
  loose (tree.character c) = tree.character c
  loose (tree.text t) = tree.text t
  loose (tree.octets t) = tree.octets t
  loose (tree.seq ts) = tree.seq (loose_each ts)
  loose (tree.map ps) = tree.map (loose_pairs ps)
  loose tree.absent = tree.absent
  loose (tree.present t) = tree.present (loose t)
  loose (tree.structure n p) =
      if n.borrowed then tree.structure n (loose_data p) else loose_struct p
  loose (tree.enumeration n i v p) =
      if n.borrowed && v.borrowed then tree.enumeration n i v (loose_data p)
      else loose_variant v p
  loose (tree.tuple ts) = tree.tuple (loose_each ts)

  -- a struct with an owned name: what it holds
  pub loose_struct : TreeData → Tree
  loose_struct tree.no_data = tree.unit
  loose_struct (tree.one t) = loose t
  loose_struct (tree.many ts) = tree.seq (loose_each ts)
  loose_struct (tree.named fs) = tree.map (loose_field_pairs fs)

  -- a variant with an owned name: its name, or a map from its name to what it holds
  pub loose_variant : Text → TreeData → Tree
  loose_variant v tree.no_data = tree.text v
  loose_variant v (tree.one t) = single v (loose t)
  loose_variant v (tree.many ts) = single v (tree.seq (loose_each ts))
  loose_variant v (tree.named fs) = single v (tree.map (text_pairs (sorted (keyed fs))))

  -- under static names
  pub loose_data : TreeData → TreeData
  loose_data tree.no_data = tree.no_data
  loose_data (tree.one t) = tree.one (loose t)
  loose_data (tree.many ts) = tree.many (loose_each ts)
  loose_data (tree.named fs) = tree.named (loose_fields fs)

  -- one by one
  pub loose_each : Trees → Trees
  loose_each tree.no_trees = tree.no_trees
  loose_each (tree.tree_then t ts) = tree.tree_then (loose t) (loose_each ts)

  -- of each pair, key and then value
  pub loose_pairs : Pairs → Pairs
  loose_pairs tree.no_pairs = tree.no_pairs
  loose_pairs (tree.pair_then k t ps) = tree.pair_then (loose k) (loose t) (loose_pairs ps)

  -- fields with their keys kept, owned ones too
  pub loose_fields : Fields → Fields
  loose_fields tree.no_fields = tree.no_fields
  loose_fields (tree.field_then k t fs) = tree.field_then k (loose t) (loose_fields fs)

  -- fields as pairs with text keys, order and duplicates kept
  pub loose_field_pairs : Fields → Pairs
  loose_field_pairs tree.no_fields = tree.no_pairs
  loose_field_pairs (tree.field_then k t fs) =
      tree.pair_then (tree.text k) (loose t) (loose_field_pairs fs)

  -- fields by the bytes of their keys
  pub keyed : Fields → List KeyedTree
  keyed tree.no_fields = []
  keyed (tree.field_then k t fs) = (k.content, loose t) ∷ keyed fs
