use Rattle.std.proofs.Common.{◌<◌, ◌≤◌, ◌+◌, ◌-◌, length, refl, sym, ap, ◌∙◌, arith}
use Rattle.content_tree.specs.Values.Value.{fields_view}
use Rattle.content_build.specs.Partial.{push_field}
use Rattle.content_build.specs.Inner.Frames.{frame_view}
use Rattle.content_build.specs.Inner.Leaves.{tree_at}
use Rattle.content_build.proofs.Forward.{append_fields, append_fields-nil}
use Rattle.content_build.proofs.FlatNodes.{field-added, same_at, same_after, one_read, no_field, length-left}
use Rattle.content_build.proofs.leaves.leaf_fields.Goals as goal

pub loop-at-preserved : goal.loop-at-preserved
loop-at-preserved c =
    let i = c.loop-at.invariant in
    let es = c.args.frames.now.items in
    let now = c.loop-at.frames.items in
    let at = c.loop-at.at in
    let x = c.index.result.now in
    let y = c.index_mut.result.now in
    let done = fields_view c.loop-at.fields.items in
    let later = same_after at (at + 1) now es refl i.rest in
    let inside : at + 1 < length es = omega (arith, c.args.frames.now.ok.0, c.loop-at.frames.ok.0) in
    let read = one_read c.args.from (at + 1) (at + 2) now es _ c.push_leaf_field.new.frame (omega arith) (omega arith) refl i.kept later in
    let added = field-added es at (at + 1) (at + 2) x y done (fields_view c.push_leaf_field.new.fields.items) inside refl (omega arith) (c.index.ensures ∙ same_at at now es x i.rest) (c.index_mut.ensures.value ∙ same_at (at + 1) now es y later) i.leaves
    (c.push_leaf_field.ensures.fields ∙ ap (λ k. push_field done k (tree_at (frame_view y))) c.key-name.ensures) in
    record {
      len = i.len;
      low = omega arith;
      high = omega arith;
      filled = omega arith;
      room = omega arith;
      kept = read.0;
      rest = read.1;
      leaves = added.0;
      done = added.1 ∙ i.done;
    }

pub returns : goal.returns
returns c =
    let i = c.loop-at.invariant in
    let es = c.args.frames.now.items in
    let over : length es - c.loop-at.at ≤ 1 = omega (arith, c.args.frames.now.ok.0, c.loop-at.frames.ok.0) in
    let done = fields_view c.loop-at.fields.items in (
      sym (append_fields-nil done) ∙ (ap (append_fields done) (sym (no_field _ i.leaves (omega (arith, length-left es c.loop-at.at)))) ∙ i.done),
      i.kept,
    )
