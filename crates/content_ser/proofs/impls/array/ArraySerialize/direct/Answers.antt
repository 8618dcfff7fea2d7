use Rattle.std.proofs.Common.{◌≡◌, ◌+◌, ◌∷◌, ◌<◌, ◌∙◌, [], suc, length, ap, arith, drop, rules}
use Rattle.std.proofs.lemmas.List.{drop_all}
use Rattle.content_ser.specs.Scripts.Direct.{IsMadeBy}
use Rattle.content_ser.proofs.Lists.{drop_here}
use Rattle.content_ser.proofs.Making.{makes, array_spelled, zip_next, zip_end}
use Rattle.content_ser.proofs.impls.array.ArraySerialize.direct.Goals as goal

pub loop-item-preserved : goal.loop-item-preserved
loop-item-preserved g c =
    let xs = c.args.self.now in
    let rest = drop (c.loop-item.item-index + 1) xs in
    let len : length xs ≡ g.row.N = search rules in
    let below : c.loop-item.item-index < length xs = rw len c.loop-item-test.true in
    let e = drop_here xs c.loop-item.item-index c.item-item.result below c.item-item.is ∙ ap (λ y. y ∷ rest) c.item-item.is in
    let count : length (drop c.loop-item.item-index xs) ≡ suc (length rest) = ap length e in (
      rw c.push_reserved.ensures.items (zip_next (IsMadeBy g.T.Serialize.script c.args.readable c.in_ok-levels.levels) rest xs c.loop-item.items.items
          (λ more each. c.loop-item.invariant.0 more (rw e each)) (makes c.in_ok-direct.ensures)),
      omega (arith, count, c.push_reserved.ensures.len, c.push_reserved.ensures.capacity, c.loop-item.invariant.1),
    )

pub returns : goal.returns
returns g c =
    let xs = c.args.self.now in
    let len : length xs ≡ g.row.N = search rules in
    let none : drop c.loop-item.item-index xs ≡ [] = drop_all c.loop-item.item-index xs (omega arith) in
    array_spelled g.T.Serialize.script c.args.readable xs c.loop-item.items c.in_ok-levels.ensures
    (zip_end (IsMadeBy g.T.Serialize.script c.args.readable c.in_ok-levels.levels) xs c.loop-item.items.items (λ more each. c.loop-item.invariant.0 more (rw none each)))
