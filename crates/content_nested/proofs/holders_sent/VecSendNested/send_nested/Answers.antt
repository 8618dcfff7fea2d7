use Rattle.std.proofs.Common.{◌≡◌, ◌∙◌, sym, [], length, drop, Some, arith, rules}
use Rattle.std.proofs.lemmas.List.{drop_all, length-map}
use Rattle.content_ser.specs.Calls.Event as event
use Rattle.content_ser.proofs.Sending.{takes_only, takes_then, takes_err, sends_then, sends_err}
use Rattle.content_ser.proofs.Sending.{at_exit_aside, told_then, told_err}
use Rattle.content_ser.proofs.Lists.{drop_here}
use Rattle.content_nested.proofs.holders_sent.VecSendNested.send_nested.Goals as goal

pub returns-in_err-open_seq : goal.returns-in_err-open_seq
returns-in_err-open_seq g c =
    let n : c.len.result ≡ length c.args.self.now.items = search rules in
    let m = n ∙ sym (length-map c.args.self.now.items g.T.Nests.layer) in
    at_exit_aside _ _ c.from_residual.ensures.1 (told_err (λ n. event.seq (Some n)) m c.in_err-open_seq.ensures)

pub returns-in_err-announce_item : goal.returns-in_err-announce_item
returns-in_err-announce_item g c =
    let xs = c.deref-item-items in
    let n : c.len.result ≡ length xs.result.now = search rules in
    let m = n ∙ sym (length-map xs.result.now g.T.Nests.layer) in
    let e = drop_here xs.result.now c.loop-item.item-index c.item-item.result c.loop-item-test.true c.item-item.is in
    at_exit_aside _ _ c.from_residual-in_err-announce_item.ensures.1 (rw (← xs.ensures.value) (told_then (λ n. event.seq (Some n)) m c.in_ok-open_seq.ensures
    (c.loop-item.invariant _ _ (rw e (takes_err c.in_err-announce_item.ensures)))))

pub returns-in_err-send_nested : goal.returns-in_err-send_nested
returns-in_err-send_nested g c =
    let xs = c.deref-item-items in
    let n : c.len.result ≡ length xs.result.now = search rules in
    let m = n ∙ sym (length-map xs.result.now g.T.Nests.layer) in
    let e = drop_here xs.result.now c.loop-item.item-index c.item-item.result c.loop-item-test.true c.item-item.is in
    at_exit_aside _ _ c.from_residual-in_err-send_nested.ensures.1 (rw (← xs.ensures.value) (told_then (λ n. event.seq (Some n)) m c.in_ok-open_seq.ensures
    (c.loop-item.invariant _ _ (rw e (takes_then c.in_ok-announce_item.ensures (sends_err _ c.in_err-send_nested.ensures))))))

pub loop-item-preserved : goal.loop-item-preserved
loop-item-preserved g c = λ r new rest.
    let e = drop_here c.deref-item-items.result.now c.loop-item.item-index c.item-item.result c.loop-item-test.true c.item-item.is in
    c.loop-item.invariant r new (rw e (takes_then c.in_ok-announce_item.ensures (sends_then c.in_ok-send_nested.ensures rest)))

pub returns : goal.returns
returns g c =
    let xs = c.deref-item-items in
    let n : c.len.result ≡ length xs.result.now = search rules in
    let m = n ∙ sym (length-map xs.result.now g.T.Nests.layer) in
    let none : drop c.loop-item.item-index xs.result.now ≡ [] = drop_all c.loop-item.item-index xs.result.now (omega arith) in
    rw (← xs.ensures.value) (told_then (λ n. event.seq (Some n)) m c.in_ok-open_seq.ensures (c.loop-item.invariant _ _ (rw none (takes_only c.close.ensures))))
