use Rattle.std.proofs.Common.{◌≡◌, [], length, Some, rules}
use Rattle.content_ser.specs.Calls.Event as event
use Rattle.content_ser.proofs.Sending.{takes_only, sends_then, sends_err}
use Rattle.content_ser.proofs.Sending.{at_exit_aside, told_then, told_err}
use Rattle.content_ser.proofs.impls.hash_map.HashMapSerialize.serialize_aside.Goals as goal

pub returns-in_err-serialize_map : goal.returns-in_err-serialize_map
returns-in_err-serialize_map g c =
    let n : c.len.result ≡ length c.args.self.now.entries = search rules in
    at_exit_aside _ _ c.from_residual.ensures.1 (told_err (λ n. event.map (Some n)) n c.in_err-serialize_map.ensures)

pub loop-key-init : goal.loop-key-init
loop-key-init g c = λ r new rest. rw (← c.into_iter-key-iterator.ensures.into_iter_gives.0) rest

pub returns-in_err-announce : goal.returns-in_err-announce
returns-in_err-announce g c =
    let n : c.len.result ≡ length c.args.self.now.entries = search rules in
    at_exit_aside _ _ c.from_residual-in_err-announce.ensures.1 (told_then (λ n. event.map (Some n)) n c.in_ok-serialize_map.ensures
    (c.loop-key.invariant _ _ (rw c.in-Some.ensures.steps (sends_err _ c.in_err-announce.ensures))))

pub returns-in_err-serialize_aside : goal.returns-in_err-serialize_aside
returns-in_err-serialize_aside g c =
    let n : c.len.result ≡ length c.args.self.now.entries = search rules in
    at_exit_aside _ _ c.from_residual-in_err-serialize_aside.ensures.1 (told_then (λ n. event.map (Some n)) n c.in_ok-serialize_map.ensures
    (c.loop-key.invariant _ _ (rw c.in-Some.ensures.steps (sends_then c.in_ok-announce.ensures (sends_err _ c.in_err-serialize_aside.ensures)))))

pub loop-key-preserved : goal.loop-key-preserved
loop-key-preserved g c = λ r new rest.
    c.loop-key.invariant r new (rw c.in-Some.ensures.steps (sends_then c.in_ok-announce.ensures (sends_then c.in_ok-serialize_aside.ensures rest)))

pub returns : goal.returns
returns g c =
    let n : c.len.result ≡ length c.args.self.now.entries = search rules in
    let none : c.loop-key.key-iterator ≡ [] = c.in-None.ensures.steps.0 in
    told_then (λ n. event.map (Some n)) n c.in_ok-serialize_map.ensures (c.loop-key.invariant _ _ (rw none (takes_only c.end.ensures)))
