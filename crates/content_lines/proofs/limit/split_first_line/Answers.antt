use Rattle.std.proofs.Common.{sym, ap, ◌∙◌, take, drop}
use Rattle.content_lines.proofs.Limiting.{feed_at}
use Rattle.content_lines.proofs.limit.split_first_line.Goals as goal

pub returns-in-Some-clause-line : goal.returns-in-Some-clause-line
returns-in-Some-clause-line c = c.split_at.ensures.front ∙ ap (λ n. take n c.args.input.now) (sym (feed_at c.args.input.now c.in-Some.end (sym c.in-Some.ensures)))

pub returns-in-Some-clause-rest : goal.returns-in-Some-clause-rest
returns-in-Some-clause-rest c = c.split_at.ensures.back ∙ ap (λ n. drop n c.args.input.now) (sym (feed_at c.args.input.now c.in-Some.end (sym c.in-Some.ensures)))
