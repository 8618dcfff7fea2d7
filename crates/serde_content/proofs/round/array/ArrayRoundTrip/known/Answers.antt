use Rattle.std.proofs.Common.{◌≡◌, ◌<◌, [], drop, length, subst, sym, arith, rules}
use Rattle.std.proofs.lemmas.List.{drop_all}
use Rattle.content_ser.proofs.Lists.{drop_here}
use Rattle.serde_content.proofs.round.array.ArrayRoundTrip.known.Goals as goal

pub loop-item-preserved : goal.loop-item-preserved
loop-item-preserved g c = λ rest.
    let len : length c.args.self.now ≡ g.row.N = search rules in
    let below : c.loop-item.item-index < length c.args.self.now = rw len c.loop-item-test.true in
    let e = drop_here c.args.self.now c.loop-item.item-index c.item-item.result below c.item-item.is in
    c.loop-item.invariant (rw e (subst (λ x. g.T.RoundTrip.exists x) (sym c.item-item.is) c.known.ensures, rest))

pub returns : goal.returns
returns g c =
    let len : length c.args.self.now ≡ g.row.N = search rules in
    let none : drop c.loop-item.item-index c.args.self.now ≡ [] = drop_all c.loop-item.item-index c.args.self.now (omega arith) in
    (len, c.loop-item.invariant (rw none tt))
