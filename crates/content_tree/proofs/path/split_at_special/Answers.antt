use Rattle.std.proofs.Common.{◌≡◌, ◌++◌, ◌∙◌, ◌+◌, ◌-◌, sym, ap, get_or, take, drop, arith}
use Rattle.std.proofs.lemmas.List.Quantifiers.{position-Some}
use Rattle.content_tree.specs.Values.Paths.{escaped, escape}
use Rattle.content_tree.specs.Printed.Paths.{is_special}
use Rattle.content_tree.proofs.Paths.{no_special, cut_before_special, cut_after_special, at_special}
use Rattle.content_tree.proofs.path.split_at_special.Goals as goal

pub returns-in_err-at-clause-spelt : goal.returns-in_err-at-clause-spelt
returns-in_err-at-clause-spelt c =
    rw (c.from_residual.ensures) (no_special c.args.text.now (sym c.first_special.ensures ∙ c.in_err-at.was))

pub range-requires-clause-end_boundary : goal.range-requires-clause-end_boundary
range-requires-clause-end_boundary c = cut_before_special c.args.text.now c.in_ok-at.at (sym c.first_special.ensures ∙ c.in_ok-at.was)

pub range_from-requires : goal.range_from-requires
range_from-requires c = λ _. cut_after_special c.args.text.now c.in_ok-at.at c.utf8.text (sym c.first_special.ensures ∙ c.in_ok-at.was)

pub returns-clause-spelt : goal.returns-clause-spelt
returns-clause-spelt c =
    let at = c.in_ok-at.at in
    let front : at ≡ at - 0 = omega arith in
    at_special c.args.text.now at (sym c.first_special.ensures ∙ c.in_ok-at.was)
    ∙ ap (λ n. take n c.args.text.now ++ (escaped (get_or c.args.text.now at 0) ++ escape (drop (at + 1) c.args.text.now))) front
    ∙ (λ i. sym c.range.ensures.value i ++ (escaped (get_or (sym c.as_bytes.ensures.value i) at 0) ++ escape (sym c.range_from.ensures.value i)))

pub returns-clause-special : goal.returns-clause-special
returns-clause-special c =
    ap (λ bs. is_special (get_or bs c.in_ok-at.at 0)) c.as_bytes.ensures.value ∙ (position-Some is_special c.args.text.now c.in_ok-at.at 0 (sym c.first_special.ensures ∙ c.in_ok-at.was)).1
