use Rattle.std.proofs.Common.{◌≡◌, ◌++◌, map, length}
use Rattle.content_tree.specs.Values.Value.{pair_tree}
use Rattle.content_de.specs.Accesses.ByName.{field_entry}
use Rattle.content_de.proofs.by_name.fields_behind.Given as goal

-- the pairs so far with the fields that are left are all
abbrev pub invariant-loop-name : goal.invariant-loop-name
invariant-loop-name l = map pair_tree l.pairs.items ++ map field_entry l.fields.items ≡ map pair_tree l.initial.pairs.items ++ map field_entry l.initial.fields.items

abbrev pub decreases-loop-name : goal.decreases-loop-name
decreases-loop-name l = length l.fields.items
