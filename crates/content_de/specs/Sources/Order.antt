-- The order of what is read, and when two are the same.
use Rattle.std.specs.Prelude.{◌≡◌}
use Rattle.std.specs.Ordering.{nat_cmp, bool_cmp, ordering_then}
use Rattle.std.specs.declared.cmp.Ordering.{Ordering}
use Rattle.std.specs.declared.cmp.Ordering.TheVariants.{Less, Greater}
use Rattle.content_tree.specs.Values.Text.{to_owned}
use Rattle.content_tree.specs.Values.Tree.{unmarked}
use Rattle.content_tree.specs.Orders.Trees.{tree_cmp, text_cmp}
use Rattle.content_de.specs.Sources.Origin.{Origin, of_tree, of_identifier, Flags, Subject}

-- trees first; identifiers by name, then index
abbrev pub origin_cmp : Origin → Origin → Ordering
origin_cmp (of_tree a) (of_tree b) = tree_cmp a b
origin_cmp (of_tree a) (of_identifier m j) = Less
origin_cmp (of_identifier n i) (of_tree b) = Greater
origin_cmp (of_identifier n i) (of_identifier m j) = ordering_then (text_cmp n m) (nat_cmp i j)

-- first whether what is read is human readable, then whether numbers are coerced, then whether it is buffered
abbrev pub flags_cmp : Flags → Flags → Ordering
flags_cmp f g = ordering_then (bool_cmp f.human_readable g.human_readable)
    (ordering_then (bool_cmp f.coerces g.coerces) (bool_cmp f.buffered g.buffered))

-- by origin, then by the flags
abbrev pub subject_cmp : Subject → Subject → Ordering
subject_cmp a b = ordering_then (origin_cmp a.origin b.origin) (flags_cmp a.flags b.flags)

-- without the marks of texts and names
abbrev pub unmarked_origin : Origin → Origin
unmarked_origin (of_tree t) = of_tree (unmarked t)
unmarked_origin (of_identifier n i) = of_identifier (to_owned n) i

-- the same but for marks
abbrev pub SameSubject : Subject → Subject → Type 0
SameSubject a b = (unmarked_origin a.origin ≡ unmarked_origin b.origin) × (a.flags ≡ b.flags)
