use Rattle.content_tree.proofs.Pointing.{item_got}
use Rattle.content_tree.proofs.lookup.item_of.Goals as goal

pub returns : goal.returns
returns c = item_got c.args.items.now c.args.index c.get.result c.get.ensures.lookup
