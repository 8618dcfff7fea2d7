-- What a struct or a variant holds, by what is asked for.
use Rattle.std.specs.Prelude.{[], Bool, true, false, Option, Some, None}
use Rattle.content_tree.specs.Values.Text.{Text, static_name}
use Rattle.content_tree.specs.Values.Tree as tree
use Rattle.content_tree.specs.Values.Tree.{Tree, TreeData, Trees, Pairs, Fields}
use Rattle.content_de.specs.Outcomes.{Outcome, taken}

-- what the node of a struct or a variant holds
abbrev pub data_in : Tree → TreeData
data_in (tree.structure n d) = d
data_in (tree.enumeration n i v d) = d
data_in t = tree.no_data

-- the name of a variant
abbrev pub variant_in : Tree → Text
variant_in (tree.enumeration n i v d) = v
variant_in t = static_name []

-- it is nothing
abbrev pub is_nothing : TreeData → Bool
is_nothing tree.no_data = true
is_nothing d = false

-- one value
abbrev pub one_in : TreeData → Option Tree
one_in (tree.one t) = Some t
one_in d = None

-- values by place
abbrev pub many_in : TreeData → Option Trees
many_in (tree.many ts) = Some ts
many_in d = None

-- values by key
abbrev pub named_in : TreeData → Option Fields
named_in (tree.named fs) = Some fs
named_in d = None

-- the items of a sequence
abbrev pub seq_in : Tree → Option Trees
seq_in (tree.seq ts) = Some ts
seq_in t = None

-- the pairs of a map
abbrev pub map_in : Tree → Option Pairs
map_in (tree.map ps) = Some ps
map_in t = None

-- what was looked for, where it is there
abbrev pub or_else : {A : Type 0} → Option A → Outcome A → Outcome A
or_else (Some a) o = taken a
or_else None o = o
