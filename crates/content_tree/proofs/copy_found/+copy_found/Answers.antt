use Rattle.std.proofs.Common.{rules}
use Rattle.content_tree.proofs.FoundViews.{image_data_view-Struct}
use Rattle.content_tree.proofs.copy_found.+copy_found.Goals as goal

pub clone_data-returns-in_ok-clone_fields-in-Struct-clause-value :
    goal.clone_data-returns-in_ok-clone_fields-in-Struct-clause-value
clone_data-returns-in_ok-clone_fields-in-Struct-clause-value t c = grind (rules, image_data_view-Struct)
