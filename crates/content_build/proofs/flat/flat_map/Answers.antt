use Rattle.std.proofs.Common.{ap, ◌∙◌, arith}
use Rattle.content_tree.specs.Values.Tree as tree
use Rattle.content_tree.proofs.Views.{tree_of-Map}
use Rattle.content_build.proofs.FlatNodes.{map-reads, node-grown}
use Rattle.content_build.proofs.flat.flat_map.Goals as goal

pub returns : goal.returns
returns c =
    let made = c.in_ok-pairs.ensures in
    node-grown c.args.frames.now.items c.leaf_pairs.new.frames.items _ c.args.at _ _ _ _ _ (omega (arith, c.args.frames.now.ok.0)) made.1 c.truncate.ensures.items c.requires.last
    (map-reads _ _ (c.are_leaves.ensures (cc)) (tree_of-Map c.in_ok-pairs.pairs ∙ ap tree.map made.0)) (omega (arith, c.args.frames.now.ok.0)) c.in_ok-add.ensures
