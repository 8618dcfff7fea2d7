use Rattle.std.proofs.Common.{◌≡◌, [], length, ap, arith}
use Rattle.std.proofs.lemmas.List.{nil_from_length}
use Rattle.std.specs.VecDeque.Iter.{deque_iter_rest}
use Rattle.content_ser.specs.Scripts.Direct.{IsMadeBy}
use Rattle.content_ser.proofs.Making.{makes, seq_spelled, zip_next, zip_end}
use Rattle.content_ser.proofs.impls.deque.VecDequeSerialize.direct.Goals as goal

pub loop-item-preserved : goal.loop-item-preserved
loop-item-preserved g c =
    let e = c.in-Some.ensures.steps in
    let count = ap length e in (
      rw c.push_reserved.ensures.items (zip_next (IsMadeBy g.T.Serialize.script c.args.readable c.in_ok-levels.levels) (deque_iter_rest c.next.new.self) c.args.self.now.items c.loop-item.items.items
          (λ more each. c.loop-item.invariant.0 more (rw e each)) (makes c.in_ok-direct.ensures)),
      omega (arith, count, c.push_reserved.ensures.len, c.push_reserved.ensures.capacity, c.loop-item.invariant.1),
    )

pub returns : goal.returns
returns g c =
    let none : deque_iter_rest c.loop-item.item-iterator ≡ [] = nil_from_length _ c.in-None.ensures.steps.0 in
    seq_spelled g.T.Serialize.script c.args.readable c.args.self.now.items c.loop-item.items c.in_ok-levels.ensures
    (zip_end (IsMadeBy g.T.Serialize.script c.args.readable c.in_ok-levels.levels) c.args.self.now.items c.loop-item.items.items (λ more each. c.loop-item.invariant.0 more (rw none each)))
