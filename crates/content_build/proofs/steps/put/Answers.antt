use Rattle.std.proofs.Common.{refl}
use Rattle.content_build.specs.Inner.Tokens.{leaf_tree}
use Rattle.content_build.proofs.Calling.{took_leaf}
use Rattle.content_build.proofs.steps.put.Goals as goal

pub returns : goal.returns
returns c =
    took_leaf c.args.frames.now.items c.push_one.new.items.items c.args.openings.now.items c.fill_item.new.openings.items _ (leaf_tree c.args.leaf)
    (c.if-not-fill_item.ensures.filled refl) c.in_ok-label.ensures refl c.in_ok-push_one.ensures
