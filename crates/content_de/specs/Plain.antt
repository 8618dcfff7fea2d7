-- The plain form of what is read: texts are owned, and structs, tuples and variants are told without their types.
use Rattle.std.specs.Prelude.{⊤}
use Rattle.content_tree.specs.Values.Text.{Text, to_owned}
use Rattle.content_tree.specs.Values.Tree as tree
use Rattle.content_tree.specs.Values.Tree.{Tree, TreeData, Trees, Pairs, Fields}
use Rattle.content_de.specs.Sources.Origin.{Origin, of_tree, of_identifier}

-- a name as a text, owned
abbrev pub name_text : Text → Tree
name_text n = tree.text (to_owned n)

-- a map of one entry, under this name
abbrev pub under_name : Text → Tree → Tree
under_name n t = tree.map (tree.pair_then (name_text n) t tree.no_pairs)

-- a variant: its name where it holds nothing, else what it holds, made plain, under its name
abbrev pub variant_form : (name : Text) → TreeData → (held : Tree) → Tree
variant_form n tree.no_data t = name_text n
variant_form n d t = under_name n t

abbrev mutual
  -- a tree: a struct is what it holds, and a tuple is a sequence
  pub plain : Tree → Tree
  plain tree.unit = tree.unit
  plain (tree.boolean b) = tree.boolean b
  plain (tree.number n) = tree.number n
  plain (tree.character c) = tree.character c
  plain (tree.text t) = tree.text (to_owned t)
  plain (tree.octets t) = tree.octets (to_owned t)
  plain (tree.seq ts) = tree.seq (plain_each ts)
  plain (tree.map ps) = tree.map (plain_pairs ps)
  plain tree.absent = tree.absent
  plain (tree.present t) = tree.present (plain t)
  plain (tree.structure n d) = plain_data d
  plain (tree.enumeration n i v d) = variant_form v d (plain_data d)
  plain (tree.tuple ts) = tree.seq (plain_each ts)

  -- what a struct or a variant holds: values by place are a sequence, and by key a map
  pub plain_data : TreeData → Tree
  plain_data tree.no_data = tree.unit
  plain_data (tree.one t) = plain t
  plain_data (tree.many ts) = tree.seq (plain_each ts)
  plain_data (tree.named fs) = tree.map (plain_fields fs)

  -- one by one
  pub plain_each : Trees → Trees
  plain_each tree.no_trees = tree.no_trees
  plain_each (tree.tree_then t ts) = tree.tree_then (plain t) (plain_each ts)

  -- of each pair, key and then value
  pub plain_pairs : Pairs → Pairs
  plain_pairs tree.no_pairs = tree.no_pairs
  plain_pairs (tree.pair_then k t ps) = tree.pair_then (plain k) (plain t) (plain_pairs ps)

  -- a pair of each field, its key as a text
  pub plain_fields : Fields → Pairs
  plain_fields tree.no_fields = tree.no_pairs
  plain_fields (tree.field_then k t fs) = tree.pair_then (name_text k) (plain t) (plain_fields fs)

-- what is read: an identifier is its name
abbrev pub plain_of : Origin → Tree
plain_of (of_tree t) = plain t
plain_of (of_identifier n i) = name_text n

-- the same, save that what is itself a text, bytes or a name keeps its case
abbrev pub plain_kept : Origin → Tree
plain_kept (of_tree (tree.text t)) = tree.text t
plain_kept (of_tree (tree.octets t)) = tree.octets t
plain_kept (of_tree t) = plain t
plain_kept (of_identifier n i) = tree.text n

-- what keeps its case: a text, bytes or a name
abbrev pub KeepsCase : Origin → Type 0
KeepsCase (of_tree (tree.text t)) = ⊤
KeepsCase (of_tree (tree.octets t)) = ⊤
KeepsCase (of_tree t) = ⊥
KeepsCase (of_identifier n i) = ⊤
