use Rattle.std.proofs.Common.{rules}
use Rattle.content_tree.proofs.Views.{tree_data_of-Struct}
use Rattle.content_tree.proofs.copy_value.+copy_value.Goals as goal

pub clone_data-returns-in_ok-clone_fields-in-Struct-clause-value :
    goal.clone_data-returns-in_ok-clone_fields-in-Struct-clause-value
clone_data-returns-in_ok-clone_fields-in-Struct-clause-value t c = grind (rules, tree_data_of-Struct)
