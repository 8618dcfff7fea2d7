-- Keys of maps: which values can be one, and what is written.
use Rattle.std.specs.Prelude.{ℕ, List, [], Option, None, Some, encode_utf8}
use Rattle.std.specs.Option.{option_or}
use Rattle.content_tree.specs.Values.Tree as tree
use Rattle.content_tree.specs.Values.Tree.{Tree, TreeData, Trees, Pairs, Fields}
use Rattle.content_json.specs.Leaves.{boolean_text, number_text}
use Rattle.content_json.specs.Strings.{in_quotes, quoted}
use Rattle.content_json.specs.declared.encode_error.BadKey.{BadKey}
use Rattle.content_json.specs.declared.encode_error.BadKey.TheVariants as bad

abbrev mutual
  -- a text, or in quotes a character, a boolean or a number; of Some and a newtype what it holds; a unit variant's name
  pub key_text : Tree → List ℕ
  key_text (tree.boolean b) = in_quotes (boolean_text b)
  key_text (tree.number n) = in_quotes (number_text n)
  key_text (tree.character c) = quoted (encode_utf8 c)
  key_text (tree.text t) = quoted t.content
  key_text (tree.present t) = key_text t
  key_text (tree.structure n d) = struct_key d
  key_text (tree.enumeration n i v d) = quoted v.content
  key_text t = []

  -- of a newtype what it holds
  pub struct_key : TreeData → List ℕ
  struct_key (tree.one t) = key_text t
  struct_key d = []

abbrev mutual
  -- what a value is that can't be a key, or none
  pub bad_key : Tree → Option BadKey
  bad_key tree.unit = Some bad.Unit
  bad_key (tree.octets t) = Some bad.Bytes
  bad_key (tree.seq ts) = Some bad.Seq
  bad_key (tree.map ps) = Some bad.Map
  bad_key tree.absent = Some bad.None
  bad_key (tree.present t) = bad_key t
  bad_key (tree.structure n d) = bad_struct d
  bad_key (tree.enumeration n i v d) = bad_variant d
  bad_key (tree.tuple ts) = Some bad.Tuple
  bad_key t = None

  -- the same of a struct that holds this
  pub bad_struct : TreeData → Option BadKey
  bad_struct (tree.one t) = bad_key t
  bad_struct d = Some bad.Struct

  -- the same of a variant
  pub bad_variant : TreeData → Option BadKey
  bad_variant tree.no_data = None
  bad_variant d = Some bad.Variant

abbrev mutual
  -- the first key in a tree that can't be one, in the order of the text
  pub first_bad : Tree → Option BadKey
  first_bad (tree.seq ts) = first_bad_each ts
  first_bad (tree.map ps) = first_bad_pair ps
  first_bad (tree.present t) = first_bad t
  first_bad (tree.structure n d) = first_bad_data d
  first_bad (tree.enumeration n i v d) = first_bad_data d
  first_bad (tree.tuple ts) = first_bad_each ts
  first_bad t = None

  -- in what a struct or a variant holds
  pub first_bad_data : TreeData → Option BadKey
  first_bad_data tree.no_data = None
  first_bad_data (tree.one t) = first_bad t
  first_bad_data (tree.many ts) = first_bad_each ts
  first_bad_data (tree.named fs) = first_bad_field fs

  -- in trees
  pub first_bad_each : Trees → Option BadKey
  first_bad_each tree.no_trees = None
  first_bad_each (tree.tree_then t ts) = option_or (first_bad t) (first_bad_each ts)

  -- in pairs: a key comes before its value
  pub first_bad_pair : Pairs → Option BadKey
  first_bad_pair tree.no_pairs = None
  first_bad_pair (tree.pair_then k t ps) = option_or (bad_key k) (option_or (first_bad t) (first_bad_pair ps))

  -- in the values of fields
  pub first_bad_field : Fields → Option BadKey
  first_bad_field tree.no_fields = None
  first_bad_field (tree.field_then k t fs) = option_or (first_bad t) (first_bad_field fs)
