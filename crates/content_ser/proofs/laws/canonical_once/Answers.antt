use Rattle.content_ser.proofs.SameScript.{canonical_once}
use Rattle.content_ser.proofs.laws.canonical_once.Goals as goal

pub returns : goal.returns
returns c = canonical_once
