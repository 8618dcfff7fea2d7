use Rattle.std.proofs.Common.{rules, ◌==◌}
use borrow.Author.Tests.{tests}
use Rattle.std.proofs.lemmas.Iterator.Splits.{YieldsList-from_slice_split}
use Rattle.std.proofs.lemmas.Iterator.Search.{position_from_yields_List}
use Rattle.content_lines.specs.Lines.{is_bad}
use Rattle.content_lines.proofs.Cutting.{bad_within}
use Rattle.content_lines.proofs.line.first_bad_line.Goals as goal

pub returns-clause-place : goal.returns-clause-place
returns-clause-place c = position_from_yields_List is_bad _ _ c.position.result c.position.ensures.ran
    (YieldsList-from_slice_split _ (λ b. b == 10) c.args.input.now c.split.ensures.rest c.split.ensures.done c.split.ensures.closure (λ x r q k. search (rules, tests)))
    (λ x b q k. search (rules, tests))

pub returns-clause-within : goal.returns-clause-within
returns-clause-within c = bad_within c.args.input.now c.position.result (returns-clause-place c)
