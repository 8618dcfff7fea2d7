use Rattle.std.proofs.Common.{ap, ◌∙◌}
use Rattle.content_tree.specs.Values.Value.{trees_view}
use Rattle.content_tree.specs.declared.value.NamedValue as value
use Rattle.content_tree.proofs.Views.{tree_of-Number}
use Rattle.content_build.specs.Partial.{push_tree}
use Rattle.content_build.proofs.Pushes.{trees_view-push}
use Rattle.content_build.proofs.leaves.push_number.Goals as goal

pub returns-clause-items : goal.returns-clause-items
returns-clause-items c =
    ap trees_view c.push_reserved.ensures.items
    ∙ (trees_view-push c.args.items.now.items (value.Number c.args.number) ∙ ap (push_tree (trees_view c.args.items.now.items)) (tree_of-Number c.args.number))
