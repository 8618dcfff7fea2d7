use Rattle.std.proofs.Common.{◌+◌, drop, ap, ◌∙◌, arith}
use Rattle.content_build.specs.Inner.Cells.{enclose}
use Rattle.content_build.specs.Inner.Frames.{cells_of, label_view}
use Rattle.content_build.proofs.FlatNodes.{last-node}
use Rattle.content_build.proofs.flat.flat_node.Goals as goal

pub flat_seq-requires-clause-last : goal.flat_seq-requires-clause-last
flat_seq-requires-clause-last c =
    let es = c.args.frames.now.items in
    last-node es c.args.at c.index-frame.result.now (omega (arith, c.args.frames.now.ok.0)) c.index-frame.ensures (omega (arith, c.args.frames.now.ok.0))
    ∙ ap (λ k. enclose (label_view k) (drop (c.args.at + 1) (cells_of es))) c.in-Seq.is

pub flat_tuple-requires-clause-last : goal.flat_tuple-requires-clause-last
flat_tuple-requires-clause-last c =
    let es = c.args.frames.now.items in
    last-node es c.args.at c.index-frame.result.now (omega (arith, c.args.frames.now.ok.0)) c.index-frame.ensures (omega (arith, c.args.frames.now.ok.0))
    ∙ ap (λ k. enclose (label_view k) (drop (c.args.at + 1) (cells_of es))) c.in-Tuple.is

pub flat_map-requires-clause-last : goal.flat_map-requires-clause-last
flat_map-requires-clause-last c =
    let es = c.args.frames.now.items in
    last-node es c.args.at c.index-frame.result.now (omega (arith, c.args.frames.now.ok.0)) c.index-frame.ensures (omega (arith, c.args.frames.now.ok.0))
    ∙ ap (λ k. enclose (label_view k) (drop (c.args.at + 1) (cells_of es))) c.in-Map.is

pub flat_struct-requires-clause-last : goal.flat_struct-requires-clause-last
flat_struct-requires-clause-last c =
    let es = c.args.frames.now.items in
    last-node es c.args.at c.index-frame.result.now (omega (arith, c.args.frames.now.ok.0)) c.index-frame.ensures (omega (arith, c.args.frames.now.ok.0))
    ∙ ap (λ k. enclose (label_view k) (drop (c.args.at + 1) (cells_of es))) c.in-Struct.is

pub flat_variant-requires-clause-last : goal.flat_variant-requires-clause-last
flat_variant-requires-clause-last c =
    let es = c.args.frames.now.items in
    last-node es c.args.at c.index-frame.result.now (omega (arith, c.args.frames.now.ok.0)) c.index-frame.ensures (omega (arith, c.args.frames.now.ok.0))
    ∙ ap (λ k. enclose (label_view k) (drop (c.args.at + 1) (cells_of es))) c.in-Variant.is
