use Rattle.std.proofs.Common.{◌≡◌, ◌++◌, ◌∙◌, ◌+◌, ◌-◌, sym, ap, flat_map, get_or, take, drop, arith}
use Rattle.std.proofs.lemmas.List.Quantifiers.{position-Some}
use Rattle.content_json.specs.Strings.{escaped, has_escape}
use Rattle.content_json.proofs.Quoting.{no_escape, cut_before, cut_after, at_escape}
use Rattle.content_json.proofs.strings.split_at_escape.Goals as goal

pub returns-in_err-at-clause-written : goal.returns-in_err-at-clause-written
returns-in_err-at-clause-written c =
    rw (c.from_residual.ensures) (no_escape c.args.text.now (sym c.first_escape.ensures ∙ c.in_err-at.was))

pub range-requires-clause-end_boundary : goal.range-requires-clause-end_boundary
range-requires-clause-end_boundary c = cut_before c.args.text.now c.in_ok-at.at (sym c.first_escape.ensures ∙ c.in_ok-at.was)

pub range_from-requires : goal.range_from-requires
range_from-requires c = λ _. cut_after c.args.text.now c.in_ok-at.at c.utf8.text (sym c.first_escape.ensures ∙ c.in_ok-at.was)

pub returns-clause-written : goal.returns-clause-written
returns-clause-written c =
    let at = c.in_ok-at.at in
    let front : at ≡ at - 0 = omega arith in
    at_escape c.args.text.now at (sym c.first_escape.ensures ∙ c.in_ok-at.was)
    ∙ ap (λ n. take n c.args.text.now ++ (escaped (get_or c.args.text.now at 0) ++ flat_map escaped (drop (at + 1) c.args.text.now))) front
    ∙ (λ i. sym c.range.ensures.value i ++ (escaped (get_or (sym c.as_bytes.ensures.value i) at 0) ++ flat_map escaped (sym c.range_from.ensures.value i)))

pub returns-clause-escape : goal.returns-clause-escape
returns-clause-escape c =
    ap (λ bs. has_escape (get_or bs c.in_ok-at.at 0)) c.as_bytes.ensures.value ∙ (position-Some has_escape c.args.text.now c.in_ok-at.at 0 (sym c.first_escape.ensures ∙ c.in_ok-at.was)).1
