use Rattle.std.proofs.Common.{◌≡◌, ◌<◌, ◌+◌, ◌∷◌, ◌∙◌, [], ap, drop, length, arith, rules}
use Rattle.std.proofs.lemmas.List.{drop_all}
use Rattle.content_ser.proofs.Sending.{takes_only, takes_then, takes_err, sends_then, sends_err}
use Rattle.content_ser.proofs.Sending.{at_exit_aside}
use Rattle.content_ser.proofs.Lists.{drop_here}
use Rattle.content_ser.proofs.impls.array.ArraySerialize.serialize_aside.Goals as goal

pub returns-in_err-serialize_tuple : goal.returns-in_err-serialize_tuple
returns-in_err-serialize_tuple g c =
    at_exit_aside _ _ c.from_residual.ensures.1 (takes_err c.in_err-serialize_tuple.ensures)

pub returns-in_err-announce : goal.returns-in_err-announce
returns-in_err-announce g c =
    let len : length c.args.self.now ≡ g.row.N = search rules in
    let below : c.loop-item.item-index < length c.args.self.now = rw len c.loop-item-test.true in
    let e = drop_here c.args.self.now c.loop-item.item-index c.item-item.result below c.item-item.is
    ∙ ap (λ y. y ∷ drop (c.loop-item.item-index + 1) c.args.self.now) c.item-item.is in
    at_exit_aside _ _ c.from_residual-in_err-announce.ensures.1 (takes_then c.in_ok-serialize_tuple.ensures
    (c.loop-item.invariant _ _ (rw e (sends_err _ c.in_err-announce.ensures))))

pub loop-item-preserved : goal.loop-item-preserved
loop-item-preserved g c = λ r new rest.
    let len : length c.args.self.now ≡ g.row.N = search rules in
    let below : c.loop-item.item-index < length c.args.self.now = rw len c.loop-item-test.true in
    let e = drop_here c.args.self.now c.loop-item.item-index c.item-item.result below c.item-item.is
    ∙ ap (λ y. y ∷ drop (c.loop-item.item-index + 1) c.args.self.now) c.item-item.is in
    c.loop-item.invariant r new (rw e (sends_then c.in_ok-announce.ensures rest))

pub returns : goal.returns
returns g c =
    let len : length c.args.self.now ≡ g.row.N = search rules in
    let none : drop c.loop-item.item-index c.args.self.now ≡ [] = drop_all c.loop-item.item-index c.args.self.now (omega arith) in
    takes_then c.in_ok-serialize_tuple.ensures (c.loop-item.invariant _ _ (rw none (takes_only c.end.ensures)))
