use Rattle.content_ser.proofs.Twice.{twice}
use Rattle.content_ser.proofs.laws.loose_once.Goals as goal

pub returns : goal.returns
returns c = twice
