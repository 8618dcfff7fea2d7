use Rattle.content_ser.proofs.Canonically.{canonical_spelled}
use Rattle.content_ser.proofs.laws.canonical_spelled.Goals as goal

pub returns : goal.returns
returns c = canonical_spelled
