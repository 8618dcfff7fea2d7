use Rattle.std.proofs.Common.{◌≡◌, [], length, ap, arith}
use Rattle.content_ser.specs.Scripts.Direct.{IsMadeBy}
use Rattle.content_ser.proofs.Making.{makes, seq_spelled, zip_next, zip_end}
use Rattle.content_ser.proofs.impls.hash_set.HashSetSerialize.direct.Goals as goal

pub loop-item-preserved : goal.loop-item-preserved
loop-item-preserved g c =
    let e = c.in-Some.ensures.steps in
    let count = ap length e in (
      rw c.push_reserved.ensures.items (zip_next (IsMadeBy g.T.Serialize.script c.args.readable c.in_ok-levels.levels) c.next.new.self c.args.self.now.keys c.loop-item.items.items
          (λ more each. c.loop-item.invariant.0 more (rw e each)) (makes c.in_ok-direct.ensures)),
      omega (arith, count, c.push_reserved.ensures.len, c.push_reserved.ensures.capacity, c.loop-item.invariant.1),
    )

pub returns : goal.returns
returns g c =
    let none : c.loop-item.item-iterator ≡ [] = c.in-None.ensures.steps.0 in
    seq_spelled g.T.Serialize.script c.args.readable c.args.self.now.keys c.loop-item.items c.in_ok-levels.ensures
    (zip_end (IsMadeBy g.T.Serialize.script c.args.readable c.in_ok-levels.levels) c.args.self.now.keys c.loop-item.items.items (λ more each. c.loop-item.invariant.0 more (rw none each)))
