use Rattle.std.proofs.Common.{◌≡◌, ◌<◌, rules, tests, length, Some, sym, ap, subst, ◌∙◌}
use Rattle.std.specs.String.{string_bytes}
use Rattle.serde_content.specs.Names.Words.{events_of}
use Rattle.content_lines.specs.Lines.{each_line}
use Rattle.cbor_cli.specs.Answers.{AddsAll, AnswersCalls}
use Rattle.cbor_cli.proofs.Answering.{none_answered, call_waits, line_answered, all_answered}
use Rattle.cbor_cli.proofs.lines.answer_lines.Goals as goal

pub lines-init : goal.lines-init
lines-init c = none_answered c.args.form (each_line c.args.input.now) c.new-calls.result.items (string_bytes c.new-out.result) c.new-calls.ensures.items c.new-out.ensures.bytes

pub lines-preserved-in_ok-push-in-Some : goal.lines-preserved-in_ok-push-in-Some
lines-preserved-in_ok-push-in-Some c =
    let some : 0 < length c.lines.text.now = search (rules, tests) in
    call_waits c.args.form (each_line c.args.input.now) (each_line c.lines.text.now) (each_line c.cut_line.result.1.now) c.cut_line.result.0.now c.lines.calls.items c.push.new.self.items c.in_ok-into_call-in-Some.field-0
    (string_bytes c.lines.out) c.lines.invariant (c.cut_line.ensures.lines some) (c.in-Some.ensures ∙ ap Some (sym c.in_ok-into_call-in-Some.ensures.value)) c.in_ok-push-in-Some.ensures.items

pub lines-preserved : goal.lines-preserved
lines-preserved c =
    let some : 0 < length c.lines.text.now = search (rules, tests) in
    let out = string_bytes c.lines.out in
    let mid = string_bytes c.write_trees.new.out in
    line_answered c.args.form (each_line c.args.input.now) (each_line c.lines.text.now) (each_line c.cut_line.result.1.now) c.cut_line.result.0.now c.lines.calls.items c.clear.new.self.items
    out mid (string_bytes c.write_answer.new.out) c.lines.invariant (c.cut_line.ensures.lines some) c.in-None.ensures
    (subst (λ l. AddsAll (AnswersCalls c.args.form (events_of l)) out mid) c.as_slice.ensures.value c.in_ok-write_trees-in-None.ensures) c.in_ok-write_answer-in-None.ensures c.clear.ensures.items

pub returns : goal.returns
returns c =
    let ends : length c.lines.text.now ≡ 0 = search (rules, tests) in
    let out = string_bytes c.lines.out in
    let new = string_bytes c.write_trees-2.new.out in
    all_answered c.args.form c.args.input.now c.lines.text.now (events_of c.lines.calls.items) out new c.lines.invariant ends
    (subst (λ l. AddsAll (AnswersCalls c.args.form (events_of l)) out new) c.as_slice-2.ensures.value c.in_ok-write_trees.ensures)
