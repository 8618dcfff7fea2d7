use Rattle.std.proofs.Common.{◌≡◌, [], refl, drop, Some, arith}
use Rattle.std.proofs.lemmas.List.{drop_all}
use Rattle.content_ser.specs.Calls.Event as event
use Rattle.content_ser.proofs.Sending.{takes_only, sends_then, sends_err}
use Rattle.content_ser.proofs.Sending.{at_exit_aside, told_then, told_err}
use Rattle.content_ser.proofs.Lists.{drop_here}
use Rattle.content_ser.proofs.impls.slice.RefSliceSerialize.serialize_aside.Goals as goal

pub returns-in_err-serialize_seq : goal.returns-in_err-serialize_seq
returns-in_err-serialize_seq g c =
    at_exit_aside _ _ c.from_residual.ensures.1 (told_err (λ n. event.seq (Some n)) refl c.in_err-serialize_seq.ensures)

pub returns-in_err-announce : goal.returns-in_err-announce
returns-in_err-announce g c =
    let e = drop_here c.args.self.now.now c.loop-item.item-index c.item-item.result c.loop-item-test.true c.item-item.is in
    at_exit_aside _ _ c.from_residual-in_err-announce.ensures.1 (told_then (λ n. event.seq (Some n)) refl c.in_ok-serialize_seq.ensures
    (c.loop-item.invariant _ _ (rw e (sends_err _ c.in_err-announce.ensures))))

pub loop-item-preserved : goal.loop-item-preserved
loop-item-preserved g c = λ r new rest.
    let e = drop_here c.args.self.now.now c.loop-item.item-index c.item-item.result c.loop-item-test.true c.item-item.is in
    c.loop-item.invariant r new (rw e (sends_then c.in_ok-announce.ensures rest))

pub returns : goal.returns
returns g c =
    let none : drop c.loop-item.item-index c.args.self.now.now ≡ [] = drop_all c.loop-item.item-index c.args.self.now.now (omega arith) in
    told_then (λ n. event.seq (Some n)) refl c.in_ok-serialize_seq.ensures (c.loop-item.invariant _ _ (rw none (takes_only c.end.ensures)))
