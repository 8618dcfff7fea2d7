use Rattle.content_ser.proofs.Sending.{takes_then, takes_err, sends_then, sends_err}
use Rattle.content_ser.proofs.Sending.{at_exit_aside}
use Rattle.serde_content.proofs.flattened_sent.hash_map.HashMapSendEntries.send_entries.Goals as goal

pub loop-key-init : goal.loop-key-init
loop-key-init g c = λ r new rest. rw (← c.into_iter-key-iterator.ensures.into_iter_gives.0) rest

pub returns-in_err-call_aside : goal.returns-in_err-call_aside
returns-in_err-call_aside g c =
    at_exit_aside _ _ c.from_residual.ensures.1
    (c.loop-key.invariant _ _ (rw c.in-Some.ensures.steps (takes_err c.in_err-call_aside.ensures)))

pub returns-in_err-serialize_aside : goal.returns-in_err-serialize_aside
returns-in_err-serialize_aside g c =
    at_exit_aside _ _ c.from_residual-in_err-serialize_aside.ensures.1
    (c.loop-key.invariant _ _ (rw c.in-Some.ensures.steps (takes_then c.in_ok-call_aside.ensures (sends_err _ c.in_err-serialize_aside.ensures))))

pub returns-in_err-serialize_aside-2 : goal.returns-in_err-serialize_aside-2
returns-in_err-serialize_aside-2 g c =
    at_exit_aside _ _ c.from_residual-in_err-serialize_aside-2.ensures.1
    (c.loop-key.invariant _ _ (rw c.in-Some.ensures.steps (takes_then c.in_ok-call_aside.ensures (sends_then c.in_ok-serialize_aside.ensures (sends_err _ c.in_err-serialize_aside-2.ensures)))))

pub loop-key-preserved : goal.loop-key-preserved
loop-key-preserved g c = λ r new rest.
    c.loop-key.invariant r new (rw c.in-Some.ensures.steps (takes_then c.in_ok-call_aside.ensures (sends_then c.in_ok-serialize_aside.ensures (sends_then c.in_ok-serialize_aside-2.ensures rest))))

pub returns : goal.returns
returns g c = c.loop-key.invariant _ _ (rw c.in-None.ensures.steps.0 c.send.ensures)
