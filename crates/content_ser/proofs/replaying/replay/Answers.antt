use Rattle.std.proofs.Common.{◌≡◌, [], drop, arith}
use Rattle.std.proofs.lemmas.List.{drop_all}
use Rattle.content_ser.proofs.Sending.{at_exit}
use Rattle.content_ser.proofs.Listed.{onward, halted, ended}
use Rattle.content_ser.proofs.replaying.replay.Goals as goal

pub returns-in_err-call : goal.returns-in_err-call
returns-in_err-call g c =
    at_exit _ _ c.from_residual.ensures.1 (c.loop-made.invariant _ _
    (halted c.args.calls.now c.loop-made.made-index c.made-item.result c.lend.result c.loop-made-test.true c.made-item.is c.lend.ensures c.in_err-call.ensures))

pub loop-made-preserved : goal.loop-made-preserved
loop-made-preserved g c = λ r new rest.
    c.loop-made.invariant r new
    (onward c.args.calls.now c.loop-made.made-index c.made-item.result c.lend.result c.loop-made-test.true c.made-item.is c.lend.ensures c.in_ok-call.ensures rest)

pub returns : goal.returns
returns g c =
    let none : drop c.loop-made.made-index c.args.calls.now ≡ [] = drop_all c.loop-made.made-index c.args.calls.now (omega arith) in
    c.loop-made.invariant _ _ (rw none ended)
