use Rattle.std.proofs.Common.{ap, ◌∙◌, arith}
use Rattle.content_tree.specs.Values.Tree as tree
use Rattle.content_tree.proofs.Views.{tree_of-Seq}
use Rattle.content_build.proofs.FlatNodes.{seq-reads, node-grown}
use Rattle.content_build.proofs.flat.flat_seq.Goals as goal

pub returns : goal.returns
returns c =
    let made = c.in_ok-items.ensures in
    node-grown c.args.frames.now.items c.leaf_items.new.frames.items _ c.args.at _ _ _ _ _ (omega (arith, c.args.frames.now.ok.0)) made.1 c.truncate.ensures.items c.requires.last
    (seq-reads _ _ (c.are_leaves.ensures (cc)) (tree_of-Seq c.in_ok-items.items ∙ ap tree.seq made.0)) (omega (arith, c.args.frames.now.ok.0)) c.in_ok-add.ensures
