use Rattle.std.proofs.Common.{◌≡◌, [], drop, arith}
use Rattle.std.proofs.lemmas.List.{drop_all}
use Rattle.content_ser.proofs.Lists.{drop_here}
use Rattle.serde_content.proofs.round.standard.VecRoundTrip.known.Goals as goal

pub loop-item-preserved : goal.loop-item-preserved
loop-item-preserved g c = λ rest.
    let e = drop_here c.deref-item-items.result.now c.loop-item.item-index c.item-item.result c.loop-item-test.true c.item-item.is in
    c.loop-item.invariant (rw e (c.known.ensures, rest))

pub returns : goal.returns
returns g c =
    let xs = c.deref-item-items in
    let none : drop c.loop-item.item-index xs.result.now ≡ [] = drop_all c.loop-item.item-index xs.result.now (omega arith) in
    rw (← xs.ensures.value) (c.loop-item.invariant (rw none tt))
