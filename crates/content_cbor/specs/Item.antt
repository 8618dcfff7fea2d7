-- The data item of a tree: definite lengths, and each head in as few bytes as can be.
use Rattle.std.specs.Prelude.{ℕ, ◌^◌, ℤ, pos, negsuc, Bool, List, [], ◌∷◌, ◌++◌, length}
use Rattle.std.specs.Prelude.{nat_lt, nat_eq, if◌then◌else◌, encode_utf8}
use Rattle.std.specs.Int.{to_be_bytes, w128}
use Rattle.content_tree.specs.Values.Tree as tree
use Rattle.content_tree.specs.Values.Tree.{Tree, TreeData, Trees, Pairs, Fields, count}
use Rattle.content_tree.specs.Values.Ranges.{number_value}
use Rattle.content_cbor.specs.Heads.{head}
use Rattle.content_ser.specs.Sending.TreeScript.{count_pairs, count_fields}
use Rattle.content_cbor.specs.declared.heads.Major.TheVariants as major

-- a list of bytes
abbrev pub bytes_item : List ℕ → List ℕ
bytes_item bs = head major.Bytes (length bs) ++ bs

-- a text, of these bytes
abbrev pub text_item : List ℕ → List ℕ
text_item bs = head major.Text (length bs) ++ bs

-- false is 20, true 21
abbrev pub boolean_item : Bool → List ℕ
boolean_item b = head major.Simple (if b then 21 else 20)

-- null
abbrev pub null_item : List ℕ
null_item = head major.Simple 22

-- bytes without the zeros at their front
unfoldable pub without_zeros : List ℕ → List ℕ
without_zeros [] = []
without_zeros (b ∷ bs) = if nat_eq b 0 then without_zeros bs else b ∷ bs

-- the bytes of a number of 128 bits, the highest first, as few as can be
unfoldable pub shortest : ℕ → List ℕ
shortest n = without_zeros (to_be_bytes w128 n)

-- a number: n as unsigned, -1 - n as negative n; past 64 bits its bytes under a tag
abbrev pub number_item : ℤ → List ℕ
number_item (pos n) =
    if nat_lt n (2 ^ 64) then head major.Unsigned n else head major.Tag 2 ++ bytes_item (shortest n)
number_item (negsuc n) =
    if nat_lt n (2 ^ 64) then head major.Negative n else head major.Tag 3 ++ bytes_item (shortest n)

abbrev mutual
  -- a tree: what stands in it, without its names but those of fields and variants
  pub item : Tree → List ℕ
  item tree.unit = null_item
  item (tree.boolean b) = boolean_item b
  item (tree.number n) = number_item (number_value n)
  item (tree.character c) = text_item (encode_utf8 c)
  item (tree.text t) = text_item t.content
  item (tree.octets t) = bytes_item t.content
  item (tree.seq ts) = head major.Array (count ts) ++ each_item ts
  item (tree.map ps) = head major.Map (count_pairs ps) ++ pair_items ps
  item tree.absent = null_item
  item (tree.present t) = item t
  item (tree.structure n d) = data_item d
  item (tree.enumeration n i v d) = variant_item v.content d
  item (tree.tuple ts) = head major.Array (count ts) ++ each_item ts

  -- what a struct holds
  pub data_item : TreeData → List ℕ
  data_item tree.no_data = null_item
  data_item (tree.one t) = item t
  data_item (tree.many ts) = head major.Array (count ts) ++ each_item ts
  data_item (tree.named fs) = head major.Map (count_fields fs) ++ field_items fs

  -- a variant of this name: its name, or a map from its name to what it holds
  pub variant_item : List ℕ → TreeData → List ℕ
  variant_item v tree.no_data = text_item v
  variant_item v (tree.one t) = (head major.Map 1 ++ text_item v) ++ item t
  variant_item v (tree.many ts) =
      (head major.Map 1 ++ text_item v) ++ (head major.Array (count ts) ++ each_item ts)
  variant_item v (tree.named fs) =
      (head major.Map 1 ++ text_item v) ++ (head major.Map (count_fields fs) ++ field_items fs)

  -- one by one
  pub each_item : Trees → List ℕ
  each_item tree.no_trees = []
  each_item (tree.tree_then t ts) = item t ++ each_item ts

  -- of each pair, key and then value
  pub pair_items : Pairs → List ℕ
  pair_items tree.no_pairs = []
  pair_items (tree.pair_then k t ps) = (item k ++ item t) ++ pair_items ps

  -- of each field, key and then value
  pub field_items : Fields → List ℕ
  field_items tree.no_fields = []
  field_items (tree.field_then k t fs) = (text_item k.content ++ item t) ++ field_items fs
