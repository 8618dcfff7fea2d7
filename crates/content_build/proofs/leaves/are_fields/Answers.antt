use Rattle.std.proofs.Common.{arith, ◌+◌, ◌-◌, ◌≡◌, subst, drop, refl}
use Rattle.content_build.specs.Inner.Frames.{cells_of}
use Rattle.content_build.specs.Inner.Leaves.{AreFields}
use Rattle.content_build.proofs.FlatNodes.{field-before}
use Rattle.content_build.proofs.leaves.are_fields.Goals as goal

pub loop-at-preserved : goal.loop-at-preserved
loop-at-preserved c =
    let es = c.args.frames.now.items in
    let at = c.loop-at.at - 2 in
    record {
      low = omega arith;
      inside = omega arith;
      fields = field-before es at (at + 1) c.loop-at.at c.index.result.now c.index-in-loop-at.result.now (omega (arith, c.args.frames.now.ok.0)) refl (omega arith) c.index.ensures c.index-in-loop-at.ensures (c.is_key.ensures (cc)) (c.is_leaf.ensures (cc)) c.loop-at.invariant.fields;
    }

pub returns : goal.returns
returns c u =
    let e : c.loop-at.at ≡ c.args.from = omega arith in
    subst (λ n. AreFields (drop n (cells_of c.args.frames.now.items))) e c.loop-at.invariant.fields
