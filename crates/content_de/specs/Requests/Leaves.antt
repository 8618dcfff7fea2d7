-- Requests for data without parts.
use Rattle.std.specs.Prelude.{ℕ, Bool, Option, Some, None, if◌then◌else◌}
use Rattle.content_tree.specs.Values.Text.{Text}
use Rattle.content_tree.specs.Values.Tree as tree
use Rattle.content_tree.specs.Errors.Cause.{nameless}
use Rattle.content_tree.specs.declared.expected.Expected.TheVariants as want
use Rattle.content_de.specs.Sources.Origin.{Origin, of_tree, of_identifier, Subject, tree_under}
use Rattle.content_de.specs.Outcomes.{Outcome, taken, misfit}

-- a boolean
abbrev pub bool_from : Origin → Outcome Bool
bool_from (of_tree (tree.boolean b)) = taken b
bool_from o = misfit o (nameless want.Bool)

-- a character
abbrev pub char_from : Origin → Outcome ℕ
char_from (of_tree (tree.character c)) = taken c
char_from o = misfit o (nameless want.Char)

-- a text with its case; the name of an identifier is one, borrowed where it is static
abbrev pub text_from : Origin → Outcome Text
text_from (of_tree (tree.text t)) = taken t
text_from (of_identifier n i) = taken n
text_from o = misfit o (nameless want.String)

-- bytes with their case; those of an identifier's name are some
abbrev pub bytes_from : Origin → Outcome Text
bytes_from (of_tree (tree.octets t)) = taken t
bytes_from (of_identifier n i) = taken n
bytes_from o = misfit o (nameless want.Bytes)

-- the name of a field or a variant: a text, the variant of an enum, or the name of an identifier
abbrev pub name_from : Origin → Outcome Text
name_from (of_tree (tree.text t)) = taken t
name_from (of_tree (tree.enumeration n i v d)) = taken v
name_from (of_identifier n i) = taken n
name_from o = misfit o (nameless want.Identifier)

-- the unit; an identifier is one too
abbrev pub unit_from : Origin → Outcome (Unit {0})
unit_from (of_tree tree.unit) = taken tt
unit_from (of_identifier n i) = taken tt
unit_from o = misfit o (nameless want.Unit)

-- what an option holds; anything else is held itself, but the unit, in a buffer, is an option that holds nothing
abbrev pub held_by : Subject → Option Subject
held_by s = elim s.origin [
  | of_tree t ↦ elim t [
    | tree.absent ↦ None
    | tree.present u ↦ Some (tree_under s.flags u)
    | tree.unit ↦ if s.flags.buffered then None else Some s
    | u ↦ Some s
  ]
  | of_identifier n i ↦ Some s
]
