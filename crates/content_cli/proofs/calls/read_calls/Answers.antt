use Rattle.std.proofs.Common.{◌≡◌, ◌+◌, ◌-◌, ◌<◌, rules, tests, length, MatchOption, refl, sym, subst}
use Rattle.content_lines.specs.Lines.{first_bad}
use Rattle.content_cli.specs.Verdicts.{IsVerdict}
use Rattle.content_lines.specs.Views.{line_event}
use Rattle.content_cli.proofs.Reading.{none_read, cut_lines, cut_bytes, bad_begins, after_blank}
use Rattle.content_cli.proofs.Reading.{after_call, renamed, refused_here, to_next, to_end, refused_or_bad}
use Rattle.content_cli.proofs.Reading.{lines_in, bad_from, HasReadTo}
use Rattle.content_cli.proofs.calls.read_calls.Goals.{in-Some-rest, in-None, else-not-is_empty}
use Rattle.content_cli.proofs.calls.read_calls.Goals.{then-not-is_empty+in-Some-read_printable+in_default-take_line}
use Rattle.content_cli.proofs.calls.read_calls.Goals as goal

pub lines-init : goal.lines-init
lines-init c = none_read c.args.limit c.args.body.now c.start-builder.result c.start-builder.ensures

pub returns-in_default : goal.returns-in_default
returns-in_default c =
    bad_begins c.args.limit c.args.body.now c.lines.builder c.lines.count c.lines.place c.lines.text.now c.lines.invariant (c.in_default.ensures.bad refl)

pub returns-in-Err : goal.returns-in-Err
returns-in-Err c =
    let line = c.in-Some.line.now in
    let rest = c.in-Some.rest in
    let body = c.args.body.now in
    let (same, refused) = refused_here c.args.limit body c.lines.builder c.lines.count c.lines.place c.lines.text.now line (lines_in rest) c.lines.invariant
    (cut_lines rest c.lines.text.now line c.in-Some.ensures.lines)
    (line_event c.in-Some-read_printable.said) c.take_line.new.error c.take_line.new.builder (c.in-Some-read_printable.ensures c.in-Some.ensures.printable) (λ limit calls taken. c.in-Err.ensures limit calls taken) in
    elim c.match-rest.branch [
      | in-Some-rest w ↦ subst (IsVerdict c.args.limit body) (sym w.result-is)
          (refused_or_bad c.args.limit body w.in-Some-rest.after.now (c.lines.place + 1) _ w.after_refusal.result (subst (λ o. first_bad body ≡ bad_from (c.lines.place + 1) (lines_in o)) w.in-Some-rest.is same) refused w.after_refusal.ensures)
      | in-None w ↦ subst (IsVerdict c.args.limit body) (sym w.result-is) (subst (λ o. first_bad body ≡ bad_from (c.lines.place + 1) (lines_in o)) w.in-None.is same, refused)
    ]

pub returns-in_default-rest : goal.returns-in_default-rest
returns-in_default-rest c =
    let line = c.in-Some.line.now in
    let rest = c.in-Some.rest in
    let text = c.lines.text.now in
    let body = c.args.body.now in
    let lines = lines_in rest in
    let left = length text - length line in
    let cut = cut_lines rest text line c.in-Some.ensures.lines in
    let short = cut_bytes rest text line c.in-Some.ensures.bytes in
    let read : HasReadTo c.args.limit body c.if-not-is_empty.builder c.if-not-is_empty.count c.lines.place lines left =
    elim c.if-not-is_empty.branch [
      | then-not-is_empty+in-Some-read_printable+in_default-take_line w ↦
          let some : 0 < length line = search (rules, tests) in
          renamed c.args.limit body _ _ _ _ c.lines.place lines left w.builder-is w.count-is
          (after_call c.args.limit body c.lines.builder c.lines.count c.lines.place text line lines c.lines.invariant cut (line_event w.in-Some-read_printable.said) w.take_line.new.builder (w.in-Some-read_printable.ensures c.in-Some.ensures.printable) some short
          (w.in_default-take_line.ensures c.args.limit c.lines.invariant.calls c.lines.invariant.taken))
      | else-not-is_empty w ↦
          let blank : length line ≡ 0 = search (rules, tests) in
          renamed c.args.limit body _ _ _ _ c.lines.place lines left w.builder-is w.count-is
          (after_blank c.args.limit body c.lines.builder c.lines.count c.lines.place text line lines c.lines.invariant cut blank)
    ] in
    to_end c.args.limit body c.if-not-is_empty.builder c.if-not-is_empty.count c.lines.place left rest c.in_default-rest.is read

pub lines-preserved : goal.lines-preserved
lines-preserved c =
    let line = c.in-Some.line.now in
    let rest = c.in-Some.rest in
    let text = c.lines.text.now in
    let body = c.args.body.now in
    let lines = lines_in rest in
    let left = length text - length line in
    let cut = cut_lines rest text line c.in-Some.ensures.lines in
    let short = cut_bytes rest text line c.in-Some.ensures.bytes in
    let read : HasReadTo c.args.limit body c.if-not-is_empty.builder c.if-not-is_empty.count c.lines.place lines left =
    elim c.if-not-is_empty.branch [
      | then-not-is_empty+in-Some-read_printable+in_default-take_line w ↦
          let some : 0 < length line = search (rules, tests) in
          renamed c.args.limit body _ _ _ _ c.lines.place lines left w.builder-is w.count-is
          (after_call c.args.limit body c.lines.builder c.lines.count c.lines.place text line lines c.lines.invariant cut (line_event w.in-Some-read_printable.said) w.take_line.new.builder (w.in-Some-read_printable.ensures c.in-Some.ensures.printable) some short
          (w.in_default-take_line.ensures c.args.limit c.lines.invariant.calls c.lines.invariant.taken))
      | else-not-is_empty w ↦
          let blank : length line ≡ 0 = search (rules, tests) in
          renamed c.args.limit body _ _ _ _ c.lines.place lines left w.builder-is w.count-is
          (after_blank c.args.limit body c.lines.builder c.lines.count c.lines.place text line lines c.lines.invariant cut blank)
    ] in
    let bytes = subst (λ o. MatchOption o (length text ≡ length line) (λ rest. length text ≡ length line + (1 + length rest.now))) c.in-Some-rest-2.is c.in-Some.ensures.bytes in
    to_next c.args.limit body c.if-not-is_empty.builder c.if-not-is_empty.count c.lines.place text line rest c.in-Some-rest-2.after c.in-Some-rest-2.is read c.lines.invariant.within bytes
