use Rattle.std.proofs.Common.{rules}
use Rattle.content_tree.proofs.Views.{tree_data_of-Struct}
use Rattle.content_build.proofs.grow.held.Goals as goal

pub returns-in_ok-fields-in-Fields : goal.returns-in_ok-fields-in-Fields
returns-in_ok-fields-in-Fields c = grind (rules, tree_data_of-Struct)
