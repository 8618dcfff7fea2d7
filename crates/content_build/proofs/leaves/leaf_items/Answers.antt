use Rattle.std.proofs.Common.{◌<◌, ◌≤◌, [], length, refl, sym, ap, ◌∙◌, arith}
use Rattle.content_tree.specs.Values.Value.{trees_view}
use Rattle.content_build.specs.Inner.Decoding.{all_trees}
use Rattle.content_build.specs.Inner.Forest.{read}
use Rattle.content_build.proofs.Forward.{append_trees, append_trees-nil}
use Rattle.content_build.proofs.FlatNodes.{item-added, same_at, one_read, none_left}
use Rattle.content_build.proofs.leaves.leaf_items.Goals as goal

pub loop-at-preserved : goal.loop-at-preserved
loop-at-preserved c =
    let i = c.loop-at.invariant in
    let es = c.args.frames.now.items in
    let now = c.loop-at.frames.items in
    let at = c.loop-at.at in
    let x = c.index_mut.result.now in
    let inside : at < length es = omega (arith, c.args.frames.now.ok.0) in
    let read = one_read c.args.from at _ now es _ c.push_item.new.frame i.low refl refl i.kept i.rest in
    let added = item-added es at _ x (trees_view c.loop-at.items.items) (trees_view c.push_item.new.items.items) inside refl (c.index_mut.ensures.value ∙ same_at at now es x i.rest) i.leaves c.push_item.ensures.items in
    record {
      len = i.len;
      low = omega arith;
      filled = omega arith;
      room = omega arith;
      kept = read.0;
      rest = read.1;
      leaves = added.0;
      done = added.1 ∙ i.done;
    }

pub returns : goal.returns
returns c =
    let i = c.loop-at.invariant in
    let es = c.args.frames.now.items in
    let over : length es ≤ c.loop-at.at = omega (arith, c.args.frames.now.ok.0) in
    let done = trees_view c.loop-at.items.items in (
      sym (append_trees-nil done) ∙ (ap (λ cs. append_trees done (all_trees (read cs []))) (sym (none_left es c.loop-at.at over)) ∙ i.done),
      i.kept,
    )
