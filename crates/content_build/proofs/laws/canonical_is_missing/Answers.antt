use Rattle.content_build.proofs.Canonically.{canonical_stopped}
use Rattle.content_build.proofs.laws.canonical_is_missing.Goals as goal

pub returns : goal.returns
returns c = canonical_stopped
