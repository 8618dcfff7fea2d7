-- Which names in a tree are static.
use Rattle.std.specs.Prelude.{◌≡◌, true}
use Rattle.content_tree.specs.Values.Text.{Text}
use Rattle.content_tree.specs.Values.Tree as tree
use Rattle.content_tree.specs.Values.Tree.{Tree, TreeData, Trees, Pairs, Fields}

-- a static name, variant or key
abbrev pub IsStatic : Text → Type 0
IsStatic n = n.borrowed ≡ true

-- any name, variant or key
abbrev pub IsAny : Text → Type 0
IsAny n = Unit {0}

abbrev mutual
  -- each name and variant in a tree is a Name, and each field key a Key
  pub EachName : (Name Key : Text → Type 0) → Tree → Type 0
  EachName Name Key tree.unit = Unit {0}
  EachName Name Key (tree.boolean b) = Unit {0}
  EachName Name Key (tree.number n) = Unit {0}
  EachName Name Key (tree.character c) = Unit {0}
  EachName Name Key (tree.text t) = Unit {0}
  EachName Name Key (tree.octets t) = Unit {0}
  EachName Name Key (tree.seq ts) = EachItemName Name Key ts
  EachName Name Key (tree.map ps) = EachPairName Name Key ps
  EachName Name Key tree.absent = Unit {0}
  EachName Name Key (tree.present t) = EachName Name Key t
  EachName Name Key (tree.structure n p) = Name n × EachDataName Name Key p
  EachName Name Key (tree.enumeration n i v p) = Name n × Name v × EachDataName Name Key p
  EachName Name Key (tree.tuple ts) = EachItemName Name Key ts

  -- in what a struct or a variant holds
  pub EachDataName : (Name Key : Text → Type 0) → TreeData → Type 0
  EachDataName Name Key tree.no_data = Unit {0}
  EachDataName Name Key (tree.one t) = EachName Name Key t
  EachDataName Name Key (tree.many ts) = EachItemName Name Key ts
  EachDataName Name Key (tree.named fs) = EachFieldName Name Key fs

  -- in trees
  pub EachItemName : (Name Key : Text → Type 0) → Trees → Type 0
  EachItemName Name Key tree.no_trees = Unit {0}
  EachItemName Name Key (tree.tree_then t ts) = EachName Name Key t × EachItemName Name Key ts

  -- in pairs
  pub EachPairName : (Name Key : Text → Type 0) → Pairs → Type 0
  EachPairName Name Key tree.no_pairs = Unit {0}
  EachPairName Name Key (tree.pair_then k t ps) =
      EachName Name Key k × EachName Name Key t × EachPairName Name Key ps

  -- in fields
  pub EachFieldName : (Name Key : Text → Type 0) → Fields → Type 0
  EachFieldName Name Key tree.no_fields = Unit {0}
  EachFieldName Name Key (tree.field_then k t fs) =
      Key k × EachName Name Key t × EachFieldName Name Key fs

-- each name of a struct, and each name and variant of an enum, is static
abbrev pub HasStaticNames : Tree → Type 0
HasStaticNames = EachName IsStatic IsAny

-- each field key is static
abbrev pub HasStaticKeys : Tree → Type 0
HasStaticKeys = EachName IsAny IsStatic
