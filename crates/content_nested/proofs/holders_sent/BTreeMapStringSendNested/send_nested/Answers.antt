use Rattle.std.proofs.Common.{◌≡◌, ◌∙◌, sym, [], length, Some, rules}
use Rattle.std.proofs.lemmas.List.{length-map}
use Rattle.content_ser.specs.Calls.Event as event
use Rattle.content_ser.proofs.Sending.{takes_only, takes_then, takes_err, sends_then, sends_err}
use Rattle.content_ser.proofs.Sending.{at_exit_aside, told_then, told_err}
use Rattle.content_nested.proofs.holders_sent.BTreeMapStringSendNested.send_nested.Goals as goal

pub returns-in_err-open_map : goal.returns-in_err-open_map
returns-in_err-open_map g c =
    let n : c.len.result ≡ length c.args.self.now.entries = search rules in
    let m = n ∙ sym (length-map c.args.self.now.entries (λ e. (e.0, g.T.Nests.layer e.1))) in
    at_exit_aside _ _ c.from_residual.ensures.1 (told_err (λ n. event.map (Some n)) m c.in_err-open_map.ensures)

pub loop-key-init : goal.loop-key-init
loop-key-init g c = λ r new rest. rw (← c.into_iter-key-iterator.ensures.into_iter_gives.0) rest

pub returns-in_err-announce_pair : goal.returns-in_err-announce_pair
returns-in_err-announce_pair g c =
    let n : c.len.result ≡ length c.args.self.now.entries = search rules in
    let m = n ∙ sym (length-map c.args.self.now.entries (λ e. (e.0, g.T.Nests.layer e.1))) in
    at_exit_aside _ _ c.from_residual-in_err-announce_pair.ensures.1 (told_then (λ n. event.map (Some n)) m c.in_ok-open_map.ensures
    (c.loop-key.invariant _ _ (rw c.in-Some.ensures.steps (takes_err c.in_err-announce_pair.ensures))))

pub returns-in_err-serialize_aside : goal.returns-in_err-serialize_aside
returns-in_err-serialize_aside g c =
    let n : c.len.result ≡ length c.args.self.now.entries = search rules in
    let m = n ∙ sym (length-map c.args.self.now.entries (λ e. (e.0, g.T.Nests.layer e.1))) in
    at_exit_aside _ _ c.from_residual-in_err-serialize_aside.ensures.1 (told_then (λ n. event.map (Some n)) m c.in_ok-open_map.ensures
    (c.loop-key.invariant _ _ (rw c.in-Some.ensures.steps (takes_then c.in_ok-announce_pair.ensures (sends_err _ c.in_err-serialize_aside.ensures)))))

pub returns-in_err-send_nested : goal.returns-in_err-send_nested
returns-in_err-send_nested g c =
    let n : c.len.result ≡ length c.args.self.now.entries = search rules in
    let m = n ∙ sym (length-map c.args.self.now.entries (λ e. (e.0, g.T.Nests.layer e.1))) in
    at_exit_aside _ _ c.from_residual-in_err-send_nested.ensures.1 (told_then (λ n. event.map (Some n)) m c.in_ok-open_map.ensures
    (c.loop-key.invariant _ _ (rw c.in-Some.ensures.steps (takes_then c.in_ok-announce_pair.ensures (sends_then c.in_ok-serialize_aside.ensures (sends_err _ c.in_err-send_nested.ensures))))))

pub loop-key-preserved : goal.loop-key-preserved
loop-key-preserved g c = λ r new rest.
    c.loop-key.invariant r new (rw c.in-Some.ensures.steps (takes_then c.in_ok-announce_pair.ensures (sends_then c.in_ok-serialize_aside.ensures (sends_then c.in_ok-send_nested.ensures rest))))

pub returns : goal.returns
returns g c =
    let n : c.len.result ≡ length c.args.self.now.entries = search rules in
    let m = n ∙ sym (length-map c.args.self.now.entries (λ e. (e.0, g.T.Nests.layer e.1))) in
    let none : c.loop-key.key-iterator ≡ [] = c.in-None.ensures.steps.0 in
    told_then (λ n. event.map (Some n)) m c.in_ok-open_map.ensures (c.loop-key.invariant _ _ (rw none (takes_only c.close.ensures)))
