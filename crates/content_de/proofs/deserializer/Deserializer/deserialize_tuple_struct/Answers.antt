use Rattle.std.proofs.Common.{rules}
use Rattle.content_de.proofs.Values.{values}
use Rattle.content_de.proofs.deserializer.Deserializer.deserialize_tuple_struct.Goals as goal
use Rattle.content_de.proofs.deserializer.Deserializer.deserialize_tuple_struct.Goals.{in_default-via-in-Tree+in-Unit-1}
use Rattle.content_de.proofs.deserializer.Deserializer.deserialize_tuple_struct.Goals.{in_default-via-in-Identifier-1}

pub returns : goal.returns
returns c = elim c.in_default-1.branch [ in_default-via-in-Tree+in-Unit-1 w ↦ (search (rules, values)) | in_default-via-in-Identifier-1 w ↦ (search (rules, values)) ]
