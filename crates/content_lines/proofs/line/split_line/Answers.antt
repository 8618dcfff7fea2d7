use Rattle.std.proofs.Common.{rules, tests, sym}
use Rattle.content_lines.proofs.Cutting.{cut_at, uncut, printable_before, printable_all, bad_first, foreign_first}
use Rattle.content_lines.proofs.line.split_line.Goals as goal

pub returns-in-None-clause-printable : goal.returns-in-None-clause-printable
returns-in-None-clause-printable c = printable_all c.args.text.now (sym c.in-None.ensures)

pub returns-in-None-clause-lines : goal.returns-in-None-clause-lines
returns-in-None-clause-lines c = uncut c.args.text.now (sym c.in-None.ensures)

pub returns-then-text-end-eq10-clause-printable : goal.returns-then-text-end-eq10-clause-printable
returns-then-text-end-eq10-clause-printable c = printable_before c.args.text.now c.in-Some.end (sym c.in-Some.ensures)

pub returns-then-text-end-eq10-clause-lines : goal.returns-then-text-end-eq10-clause-lines
returns-then-text-end-eq10-clause-lines c = cut_at c.args.text.now c.in-Some.end (sym c.in-Some.ensures) (search (rules, tests))

pub returns-else-text-end-eq10-clause-foreign : goal.returns-else-text-end-eq10-clause-foreign
returns-else-text-end-eq10-clause-foreign c _ = foreign_first c.args.text.now c.in-Some.end (sym c.in-Some.ensures) (search (rules, tests))

pub returns-else-text-end-eq10-clause-bad : goal.returns-else-text-end-eq10-clause-bad
returns-else-text-end-eq10-clause-bad c _ = bad_first c.args.text.now c.in-Some.end (sym c.in-Some.ensures) (search (rules, tests))
