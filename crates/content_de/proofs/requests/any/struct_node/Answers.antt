use Rattle.std.proofs.Common.{refl}
use Rattle.content_tree.proofs.Views.{struct_tree-is, tree_data_of-Struct}
use Rattle.content_de.proofs.requests.any.struct_node.Goals as goal

pub returns : goal.returns
returns c = rw (struct_tree-is c.args.node, c.in-Struct.is, tree_data_of-Struct c.in-Struct.fields, c.fields.ensures) refl
