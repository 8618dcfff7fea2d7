use Rattle.std.proofs.Common.{ap, sym, ◌∙◌, ◌-◌, arith}
use Rattle.content_build.specs.Inner.Cells.{with_size}
use Rattle.content_build.specs.Inner.Frames.{cells_of}
use Rattle.content_build.proofs.Memory.{cells-set, length-cells}
use Rattle.content_build.proofs.settle.close.Goals as goal

pub returns : goal.returns
returns c =
    let es = c.args.frames.now.items in
    cells-set es c.args.at (c.len.result - c.args.at) c.index_mut-frame.result.now (omega (arith, c.args.frames.now.ok.0)) c.index_mut-frame.ensures.value
    ∙ ap (λ n. with_size (cells_of es) c.args.at (n - c.args.at)) (c.len.ensures ∙ (c.args.frames.now.ok.0 ∙ sym (length-cells es)))
