use Rattle.std.proofs.Common.{subst}
use Rattle.std.specs.Fmt.{WritesStyledOnOk}
use Rattle.content_tree.proofs.Printing.{shown_bare}
use Rattle.content_tree.proofs.display.write_bare.Goals as goal

pub returns : goal.returns
returns g c =
    let took = g.W.Write.write_str_gives in
    let begun = c.new-text.ensures in
    let then = subst (λ bs. WritesStyledOnOk took c.args.f.now c.write_str.result bs c.write_str.new.self) c.as_str.ensures.value c.write_str.ensures.styled in
    shown_bare took _ _ _ _ _ _ begun.intact begun.text c.in_ok-write.ensures.writes then
