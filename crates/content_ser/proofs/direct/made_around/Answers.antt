use Rattle.content_tree.specs.declared.value.NamedData as held
use Rattle.content_tree.proofs.Views.{tree_data_of-NewType}
use Rattle.content_ser.specs.Calls.Head.{head_of}
use Rattle.content_ser.specs.Grammar.Token.{in_head}
use Rattle.content_ser.proofs.Making.{headed_spelled, makes, wrap_makes}
use Rattle.content_ser.proofs.direct.made_around.Goals as goal

pub returns : goal.returns
returns g c = λ call is.
    headed_spelled (head_of c.args.head) (held.NewType c.in_ok-held.held) c.made_of.result (tree_data_of-NewType c.in_ok-held.held)
    (wrap_makes {w = in_head (head_of c.args.head)} call _ is c.in_ok-inside.ensures (makes c.in_ok-held.ensures)) c.made_of.ensures
