-- What a sequence has left.
use Rattle.std.specs.Prelude.{ℕ, List, Option, Some, None}
use Rattle.content_tree.specs.Values.Tree.{Trees, no_trees, tree_then}
use Rattle.content_tree.specs.Values.Value.{trees_view}
use Rattle.content_de.specs.Sources.Origin.{Flags, Subject, tree_under}
use Rattle.content_de.specs.Sources.Deserializer.{flags_of}
use Rattle.content_de.specs.Outcomes.{Outcome, outcome_map}
use Rattle.content_de.specs.Requests.Compounds.{items_from, tuple_from, tuple_struct_from}
use Rattle.content_de.specs.declared.seq.Seq.{Seq}

-- the items that are left, with the flags
pub record SeqLeft : Type 0 where
  pub items : Trees
  pub flags : Flags

-- what contracts see of a `Seq`
abbrev pub seq_view : Seq → SeqLeft
seq_view s = record { items = trees_view s.items.items; flags = flags_of s.flags }

-- items under these flags
abbrev pub items_under : Flags → Trees → SeqLeft
items_under f ts = record { items = ts; flags = f }

-- the first item
abbrev pub first_item : SeqLeft → Option Subject
first_item s = elim s.items [ no_trees ↦ None | tree_then t ts ↦ Some (tree_under s.flags t) ]

-- all but the first
abbrev pub later : Trees → Trees
later no_trees = no_trees
later (tree_then t ts) = ts

-- without the first item
abbrev pub after_item : SeqLeft → SeqLeft
after_item s = items_under s.flags (later s.items)

-- a sequence
abbrev pub seq_at : Subject → Outcome SeqLeft
seq_at s = outcome_map (items_under s.flags) (items_from s.origin)

-- a tuple of this many elements
abbrev pub tuple_at : ℕ → Subject → Outcome SeqLeft
tuple_at len s = outcome_map (items_under s.flags) (tuple_from len s.origin)

-- a tuple struct of this name
abbrev pub tuple_struct_at : (name : List ℕ) → Subject → Outcome SeqLeft
tuple_struct_at name s = outcome_map (items_under s.flags) (tuple_struct_from name s.origin)
