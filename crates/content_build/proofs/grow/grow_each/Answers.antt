use Rattle.std.proofs.Common.{◌-◌, take, vec_len, ap, sym, ◌∙◌, arith}
use Rattle.std.proofs.lemmas.List.{take-take}
use Rattle.content_build.specs.Inner.Frames.{cells_of, frame_view}
use Rattle.content_build.specs.Inner.Forest.{read}
use Rattle.content_build.specs.Inner.Values.{grown_trees}
use Rattle.content_build.proofs.Memory.{cells-push}
use Rattle.content_build.proofs.Growing.{read-push}
use Rattle.content_build.proofs.grow.grow_each.Goals as goal

pub loop-alloc-preserved : goal.loop-alloc-preserved
loop-alloc-preserved c =
    let i = c.loop-alloc.invariant in
    let now = c.loop-alloc.frames in
    let less = c.pop.new.self.items in
    let f = grown_trees c.loop-alloc.grown.items in
    record {
      same = ap (read (cells_of less)) c.in_ok-grow_one-in-Some.ensures
          ∙ (sym (ap (λ cs. read cs f) (ap cells_of c.in-Some.ensures.items ∙ cells-push less c.in-Some.next) ∙ read-push (cells_of less) (frame_view c.in-Some.next) f) ∙ i.same);
      first = ap (take c.args.to) c.pop.ensures.rest ∙ (take-take c.args.to (vec_len now - 1) now.items (omega arith) ∙ i.first);
    }
