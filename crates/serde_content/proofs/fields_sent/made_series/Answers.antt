use Rattle.std.proofs.Common.{sym}
use Rattle.content_ser.specs.Calls.Head.{head_of}
use Rattle.content_ser.proofs.Making.{series_spelled}
use Rattle.serde_content.proofs.fields_sent.made_series.Goals as goal

pub returns : goal.returns
returns g c = λ call is. series_spelled (head_of c.args.head) call _ _ c.made_of.result is c.in_ok-levels.ensures
    (rw (sym c.in_ok-values.ensures.items) c.in_ok-add_parts.ensures) c.made_of.ensures
