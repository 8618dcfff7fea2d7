use Rattle.std.proofs.Common.{◌≡◌, [], length, Some, rules}
use Rattle.content_ser.specs.Calls.Event as event
use Rattle.content_ser.proofs.Sending.{takes_only, sends_then, sends_err}
use Rattle.content_ser.proofs.Sending.{at_exit_aside, told_then, told_err}
use Rattle.content_ser.proofs.impls.hash_set.HashSetSerialize.serialize_aside.Goals as goal

pub returns-in_err-serialize_seq : goal.returns-in_err-serialize_seq
returns-in_err-serialize_seq g c =
    let n : c.len.result ≡ length c.args.self.now.keys = search rules in
    at_exit_aside _ _ c.from_residual.ensures.1 (told_err (λ n. event.seq (Some n)) n c.in_err-serialize_seq.ensures)

pub loop-item-init : goal.loop-item-init
loop-item-init g c = λ r new rest. rw (← c.into_iter-item-iterator.ensures.into_iter_gives.0) rest

pub returns-in_err-announce : goal.returns-in_err-announce
returns-in_err-announce g c =
    let n : c.len.result ≡ length c.args.self.now.keys = search rules in
    at_exit_aside _ _ c.from_residual-in_err-announce.ensures.1 (told_then (λ n. event.seq (Some n)) n c.in_ok-serialize_seq.ensures
    (c.loop-item.invariant _ _ (rw c.in-Some.ensures.steps (sends_err _ c.in_err-announce.ensures))))

pub loop-item-preserved : goal.loop-item-preserved
loop-item-preserved g c = λ r new rest.
    c.loop-item.invariant r new (rw c.in-Some.ensures.steps (sends_then c.in_ok-announce.ensures rest))

pub returns : goal.returns
returns g c =
    let n : c.len.result ≡ length c.args.self.now.keys = search rules in
    let none : c.loop-item.item-iterator ≡ [] = c.in-None.ensures.steps.0 in
    told_then (λ n. event.seq (Some n)) n c.in_ok-serialize_seq.ensures (c.loop-item.invariant _ _ (rw none (takes_only c.end.ensures)))
