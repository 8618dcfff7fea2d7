use Rattle.std.proofs.Common.{List, length, ◌≡◌, ap, sym, ◌∙◌, [], ◌∷◌, arith}
use Rattle.content_tree.specs.Values.Tree.{Tree}
use Rattle.content_build.specs.Inner.Cells.{flat}
use Rattle.content_build.specs.Inner.Frames.{cells_of}
use Rattle.content_build.specs.Inner.Forest as forest
use Rattle.content_build.specs.Inner.Forest.{read, no_key}
use Rattle.content_build.specs.Inner.Values.{grown_trees}
use Rattle.content_build.specs.declared.frame.Frame.{Frame}
use Rattle.content_build.specs.declared.grow.Grown.{Grown}
use Rattle.content_build.proofs.Memory.{nothing}
use Rattle.content_build.proofs.Reading.{read-whole}
use Rattle.content_build.proofs.Growing.{grown-pop}
use Rattle.content_build.proofs.grow.grow.Goals as goal

-- all frames are read
all_read : (es first : List Frame) (gs : List Grown) (t : Tree) → es ≡ [] → read (cells_of es) (grown_trees gs) ≡ read (cells_of first) [] → cells_of first ≡ flat t
    → grown_trees gs ≡ forest.grown no_key t (length (flat t)) ∷ []
all_read es first gs t e i w = ap (λ l. read (cells_of l) (grown_trees gs)) (sym e) ∙ (i ∙ (ap (λ l. read l []) w ∙ read-whole t))

pub returns-in-None : goal.returns-in-None
returns-in-None c t w =
    let empty = nothing c.loop-alloc.frames.items (omega (arith, c.loop-alloc.frames.ok.0)) in
    let none = nothing c.loop-alloc.grown.items (sym c.loop-alloc.grown.ok.0 ∙ c.in-None.ensures.cases.0) in
    let x = ap grown_trees (sym none) ∙ all_read c.loop-alloc.frames.items c.args.frames.items c.loop-alloc.grown.items t empty c.loop-alloc.invariant w in
    cc

pub returns : goal.returns
returns c t w =
    let empty = nothing c.loop-alloc.frames.items (omega (arith, c.loop-alloc.frames.ok.0)) in
    let x = sym (grown-pop c.loop-alloc.grown.items c.pop.new.self.items c.in-Some.field-0 c.in-Some.ensures.items) ∙ all_read c.loop-alloc.frames.items c.args.frames.items c.loop-alloc.grown.items t empty c.loop-alloc.invariant w in
    cc
