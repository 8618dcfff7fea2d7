use Rattle.std.proofs.Common.{◌<◌, ◌≤◌, ◌+◌, ◌-◌, length, refl, sym, ap, ◌∙◌, arith}
use Rattle.content_tree.specs.Values.Value.{pairs_view}
use Rattle.content_build.specs.Partial.{push_pair}
use Rattle.content_build.specs.Inner.Frames.{frame_view}
use Rattle.content_build.specs.Inner.Leaves.{tree_at}
use Rattle.content_build.proofs.Forward.{append_pairs}
use Rattle.content_build.proofs.Growing.{append_pairs-nil}
use Rattle.content_build.proofs.FlatNodes.{pair-added, same_at, one_read, no_pair, length-left}
use Rattle.content_build.proofs.leaves.leaf_pairs.Goals as goal

pub loop-at-preserved : goal.loop-at-preserved
loop-at-preserved c =
    let i = c.loop-at.invariant in
    let es = c.args.frames.now.items in
    let now = c.loop-at.frames.items in
    let at = c.loop-at.at in
    let x = c.index_mut.result.now in
    let y = c.index_mut-in-loop-at.result.now in
    let done = pairs_view c.loop-at.pairs.items in
    let inside : at + 1 < length es = omega (arith, c.args.frames.now.ok.0, c.loop-at.frames.ok.0) in
    let once = one_read c.args.from at (at + 1) now es _ c.take_leaf-key.new.frame i.low refl refl i.kept i.rest in
    let twice = one_read c.args.from (at + 1) (at + 2) _ es _ c.push_leaf_pair.new.frame (omega arith) (omega arith) refl once.0 once.1 in
    let added = pair-added es at (at + 1) (at + 2) x y done (pairs_view c.push_leaf_pair.new.pairs.items) inside refl (omega arith) (c.index_mut.ensures.value ∙ same_at at now es x i.rest) (c.index_mut-in-loop-at.ensures.value ∙ same_at (at + 1) _ es y once.1) i.leaves
    (c.push_leaf_pair.ensures.pairs ∙ ap (λ k. push_pair done k (tree_at (frame_view y))) c.take_leaf-key.ensures) in
    record {
      len = i.len;
      low = omega arith;
      high = omega arith;
      filled = omega arith;
      room = omega arith;
      kept = twice.0;
      rest = twice.1;
      leaves = added.0;
      done = added.1 ∙ i.done;
    }

pub returns : goal.returns
returns c =
    let i = c.loop-at.invariant in
    let es = c.args.frames.now.items in
    let over : length es - c.loop-at.at ≤ 1 = omega (arith, c.args.frames.now.ok.0, c.loop-at.frames.ok.0) in
    let done = pairs_view c.loop-at.pairs.items in (
      sym (append_pairs-nil done) ∙ (ap (append_pairs done) (sym (no_pair _ i.leaves (omega (arith, length-left es c.loop-at.at)))) ∙ i.done),
      i.kept,
    )
