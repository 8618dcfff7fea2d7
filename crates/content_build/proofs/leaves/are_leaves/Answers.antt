use Rattle.std.proofs.Common.{arith, ◌-◌, ◌≡◌, subst, drop}
use Rattle.content_build.specs.Inner.Frames.{cells_of}
use Rattle.content_build.specs.Inner.Leaves.{AreLeaves}
use Rattle.content_build.proofs.FlatNodes.{leaf-before}
use Rattle.content_build.proofs.leaves.are_leaves.Goals as goal

pub loop-at-preserved : goal.loop-at-preserved
loop-at-preserved c =
    let es = c.args.frames.now.items in
    record {
      low = omega arith;
      inside = omega arith;
      leaves = leaf-before es (c.loop-at.at - 1) c.loop-at.at c.index.result.now (omega (arith, c.args.frames.now.ok.0)) (omega arith) c.index.ensures (c.is_leaf.ensures (cc)) c.loop-at.invariant.leaves;
    }

pub returns : goal.returns
returns c u =
    let e : c.loop-at.at ≡ c.args.from = omega arith in
    subst (λ n. AreLeaves (drop n (cells_of c.args.frames.now.items))) e c.loop-at.invariant.leaves
