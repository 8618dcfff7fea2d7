use Rattle.std.proofs.Common.{ap, ◌∙◌}
use Rattle.content_tree.specs.Values.Value.{tree_of, pairs_view}
use Rattle.content_tree.specs.declared.value.NamedValue as value
use Rattle.content_tree.proofs.Views.{tree_of-Number}
use Rattle.content_build.specs.Partial.{push_pair}
use Rattle.content_build.proofs.Pushes.{pairs_view-push}
use Rattle.content_build.proofs.leaves.push_number_pair.Goals as goal

pub returns-clause-pairs : goal.returns-clause-pairs
returns-clause-pairs c =
    ap pairs_view c.push_reserved.ensures.items
    ∙ (pairs_view-push c.args.pairs.now.items (c.args.key, value.Number c.args.number) ∙ ap (push_pair (pairs_view c.args.pairs.now.items) (tree_of c.args.key)) (tree_of-Number c.args.number))
