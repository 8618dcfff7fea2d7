use Rattle.std.proofs.Common.{ap, ◌∙◌}
use Rattle.content_tree.proofs.Views.{struct_tree-is, tree_data_of-Struct}
use Rattle.content_tree.specs.Values.Cases.{struct_name}
use Rattle.serde_content.specs.Names.Words.{text_of}
use Rattle.serde_content.specs.Names.Tree as tree
use Rattle.content_uses.proofs.merging.set_fields.Goals as goal

pub returns : goal.returns
returns c =
    struct_tree-is _ ∙ ap (tree.structure (text_of (struct_name c.args.whole.now)))
    (tree_data_of-Struct c.args.fields)
