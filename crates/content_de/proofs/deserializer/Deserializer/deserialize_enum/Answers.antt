use Rattle.std.proofs.Common.{rules}
use Rattle.content_tree.proofs.Views.{tree_of-Map}
use Rattle.content_de.proofs.Values.{values}
use Rattle.content_de.proofs.deserializer.Deserializer.deserialize_enum.Goals as goal
use Rattle.content_de.proofs.deserializer.Deserializer.deserialize_enum.Goals.{in_default-via-in-Tree+in-Unit-1}
use Rattle.content_de.proofs.deserializer.Deserializer.deserialize_enum.Goals.{in_default-via-in-Identifier-1}

pub returns-in_default : goal.returns-in_default
returns-in_default c = elim c.in_default-1.branch [ in_default-via-in-Tree+in-Unit-1 w ↦ (search (rules, values)) | in_default-via-in-Identifier-1 w ↦ (search (rules, values)) ]

pub returns-in-Tree-Map : goal.returns-in-Tree-Map
returns-in-Tree-Map c = rw (c.in-Tree-Map.is, c.in-Tree-Map.field-0-is, tree_of-Map c.in-Tree-Map.pairs) (rw c.in-Tree-Map.pairs-is at c.enum_of_pairs.ensures)
