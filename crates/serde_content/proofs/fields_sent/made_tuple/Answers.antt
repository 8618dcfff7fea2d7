use Rattle.std.proofs.Common.{sym}
use Rattle.content_ser.proofs.Making.{elements_spelled}
use Rattle.serde_content.proofs.fields_sent.made_tuple.Goals as goal

pub returns : goal.returns
returns g c = λ call is. elements_spelled call _ _ is c.in_ok-levels.ensures
    (rw (sym c.in_ok-elements.ensures.items) c.in_ok-add_elements.ensures)
