use Rattle.std.proofs.Common.{◌∙◌}
use Rattle.content_tree.proofs.DerivedOrders.{expected_order}
use Rattle.content_tree.proofs.laws.compare_expected.Goals as goal

pub returns : goal.returns
returns c = c.cmp.ensures ∙ expected_order c.args.expected.now c.args.other_expected.now
