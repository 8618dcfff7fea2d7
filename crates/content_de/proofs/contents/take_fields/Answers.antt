use Rattle.std.proofs.Common.{refl}
use Rattle.content_tree.proofs.Views.{tree_data_of-Struct}
use Rattle.content_de.proofs.contents.take_fields.Goals as goal

pub returns-in-Struct : goal.returns-in-Struct
returns-in-Struct c = rw (← c.replace.ensures.value, c.in-Struct.is, tree_data_of-Struct c.in-Struct.fields) refl
