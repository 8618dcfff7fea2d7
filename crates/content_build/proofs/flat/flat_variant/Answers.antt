use Rattle.std.proofs.Common.{arith}
use Rattle.content_tree.specs.Values.Value.{tree_data_of}
use Rattle.content_ser.specs.Calls.Head as calls
use Rattle.content_build.specs.Inner.Frames.{sort_view}
use Rattle.content_build.proofs.FlatNodes.{headed-reads, node-grown, at_some}
use Rattle.content_build.proofs.flat.flat_variant.Goals as goal

pub returns-in_ok-add-in-Some : goal.returns-in_ok-add-in-Some
returns-in_ok-add-in-Some c =
    let made = at_some _ _ c.in_ok-flat_data.field-0 c.in-Some.held c.in-Some.is c.in_ok-flat_data.ensures in
    node-grown c.args.frames.now.items c.flat_data.new.frames.items _ c.args.at _ _ _ _ _ (omega (arith, c.args.frames.now.ok.0)) made.0 c.truncate.ensures.items c.requires.last
    (headed-reads (sort_view c.args.sort) (calls.of_variant c.args.name.now c.args.index c.args.variant.now) _ (tree_data_of c.in-Some.held) _ made.1 c.in_ok-value-in-Some.ensures) (omega (arith, c.args.frames.now.ok.0)) c.in_ok-add-in-Some.ensures
