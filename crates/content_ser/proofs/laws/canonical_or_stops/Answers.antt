use Rattle.content_ser.proofs.Canonically.{canonical_or_stops}
use Rattle.content_ser.proofs.laws.canonical_or_stops.Goals as goal

pub returns : goal.returns
returns c = canonical_or_stops
