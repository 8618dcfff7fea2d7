use Rattle.std.proofs.Common.{◌≤◌, ◌-◌, sym, ◌∙◌, arith, inl, inr}
use Rattle.content_cbor.proofs.Read.Bytewise.{text_due, text_ended, text_none, text_off, text_same}
use Rattle.content_cbor.proofs.utf8.stop_in_text.Goals.{in_default-after_byte-via-in-Some+else-from-due, in_default-after_byte-via-in_default-after_byte}
use Rattle.content_cbor.proofs.utf8.stop_in_text.Goals as goal

pub overflow_sub-due : goal.overflow_sub-due
overflow_sub-due c = let l = c.loop-rest in text_due l.lack l.due l.rest.now l.invariant.none

pub returns-in_default-after_byte : goal.returns-in_default-after_byte
returns-in_default-after_byte c =
    let l = c.loop-rest in
    rw c.stop_at.ensures (l.invariant.same _ (text_off l.lack l.due l.rest.now (text_due l.lack l.due l.rest.now l.invariant.none) c.in-len1-up.len_at_least
    (elim c.in_default-after_byte.branch [
      | in_default-after_byte-via-in-Some+else-from-due w ↦ inr (w.in-Some.next, sym c.after_byte.ensures ∙ w.in-Some.is, omega (arith, w.if-from-due.false, w.from.ensures))
      | in_default-after_byte-via-in_default-after_byte w ↦ inl (sym c.after_byte.ensures ∙ w.in_default-after_byte.is)
    ])))

pub loop-rest-preserved : goal.loop-rest-preserved
loop-rest-preserved c =
    let l = c.loop-rest in
    let due = text_due l.lack l.due l.rest.now l.invariant.none in
    let enough : c.in-Some.next.count ≤ l.due - 1 = omega (arith, c.if-from-due.true, c.from.ensures) in
    record {
      none = text_none l.lack c.in-Some.next l.due l.rest.now due c.in-len1-up.len_at_least (sym c.after_byte.ensures ∙ c.in-Some.is) enough l.invariant.none;
      same = λ e is. l.invariant.same e (text_same l.lack c.in-Some.next l.due l.rest.now due c.in-len1-up.len_at_least (sym c.after_byte.ensures ∙ c.in-Some.is) enough e is);
    }

pub returns : goal.returns
returns c =
    let l = c.loop-rest in
    rw c.stop_at-2.ensures (l.invariant.same _ (text_ended l.lack l.due l.rest.now l.invariant.none c.in_default.len_below))
