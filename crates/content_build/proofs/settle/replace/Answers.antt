use Rattle.std.proofs.Common.{arith}
use Rattle.content_build.proofs.Memory.{replace_some, replace_none, length-cells}
use Rattle.content_build.proofs.Algebra.{at-below}
use Rattle.content_build.specs.Inner.Frames.{cells_of}
use Rattle.content_build.specs.Inner.Cells as cells
use Rattle.content_build.proofs.settle.replace.Goals as goal

pub overflow_add-at : goal.overflow_add-at
overflow_add-at c =
    let (ps, t, os, w) = c.requires in
    let a = at-below ps t (cells_of c.args.frames.now.items) c.args.at c.args.last cells.a_value os w in
    omega (arith, a, length-cells c.args.frames.now.items, c.args.frames.now.ok.0, c.args.frames.now.small)

pub index-requires : goal.index-requires
index-requires c =
    let (ps, t, os, w) = c.requires in
    let a = replace_some c.args.frames.now.items c.args.at c.args.last ps t os (omega arith) w in
    omega (arith, a.0, c.args.frames.now.ok.0)

pub overflow_add-last : goal.overflow_add-last
overflow_add-last c =
    let (ps, t, os, w) = c.requires in
    let a = (replace_some c.args.frames.now.items c.args.at c.args.last ps t os (omega arith) w).1 c.index.result.now c.index.ensures in
    omega (arith, a.0, c.args.frames.now.ok.0)

pub take_out-requires-clause-inside : goal.take_out-requires-clause-inside
take_out-requires-clause-inside c =
    let (ps, t, os, w) = c.requires in
    let a = (replace_some c.args.frames.now.items c.args.at c.args.last ps t os (omega arith) w).1 c.index.result.now c.index.ensures in
    omega (arith, a.0, c.args.frames.now.ok.0)

pub returns-then-last-eq0 : goal.returns-then-last-eq0
returns-then-last-eq0 c ps t os w =
    rw c.truncate.ensures.items (replace_none c.args.frames.now.items c.args.at c.args.last ps t os (omega arith) w)

pub returns-else-last-eq0 : goal.returns-else-last-eq0
returns-else-last-eq0 c ps t os w =
    rw c.take_out.ensures ((replace_some c.args.frames.now.items c.args.at c.args.last ps t os (omega arith) w).1 c.index.result.now c.index.ensures).1
