use Rattle.content_ser.proofs.SameScript.{static_is_canonical}
use Rattle.content_ser.proofs.laws.static_is_canonical.Goals as goal

pub returns : goal.returns
returns c = static_is_canonical
