use Rattle.std.proofs.Common.{sym}
use Rattle.content_lines.proofs.Ending.{first_cut, one_cut}
use Rattle.content_lines.proofs.limit.cut_line.Goals as goal

pub returns-in-Some-clause-lines : goal.returns-in-Some-clause-lines
returns-in-Some-clause-lines c _ = first_cut c.args.text.now c.in-Some.end (sym c.in-Some.ensures)

pub returns-in-None-clause-lines : goal.returns-in-None-clause-lines
returns-in-None-clause-lines c some = one_cut c.args.text.now (sym c.in-None.ensures) some
