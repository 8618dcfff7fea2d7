use Rattle.std.proofs.Common.{◌≡◌, [], length, ap, arith}
use Rattle.content_ser.specs.Scripts.Direct.{ArePairMadeBy}
use Rattle.content_ser.proofs.Making.{makes, map_spelled, zip_next, zip_end}
use Rattle.content_ser.proofs.impls.map.BTreeMapSerialize.direct.Goals as goal

pub loop-key-preserved : goal.loop-key-preserved
loop-key-preserved g c =
    let e = c.in-Some.ensures.steps in
    let count = ap length e in (
      rw c.push_reserved.ensures.items (zip_next (ArePairMadeBy g.K.Serialize.script g.V.Serialize.script c.args.readable c.in_ok-levels.levels) c.next.new.self c.args.self.now.entries
          c.loop-key.pairs.items (λ more each. c.loop-key.invariant.0 more (rw e each)) (makes c.in_ok-key.ensures, makes c.in_ok-direct.ensures)),
      omega (arith, count, c.push_reserved.ensures.len, c.push_reserved.ensures.capacity, c.loop-key.invariant.1),
    )

pub returns : goal.returns
returns g c =
    let none : c.loop-key.key-iterator ≡ [] = c.in-None.ensures.steps.0 in
    map_spelled g.K.Serialize.script g.V.Serialize.script c.args.readable c.args.self.now.entries c.loop-key.pairs c.in_ok-levels.ensures
    (zip_end (ArePairMadeBy g.K.Serialize.script g.V.Serialize.script c.args.readable c.in_ok-levels.levels) c.args.self.now.entries c.loop-key.pairs.items
    (λ more each. c.loop-key.invariant.0 more (rw none each)))
