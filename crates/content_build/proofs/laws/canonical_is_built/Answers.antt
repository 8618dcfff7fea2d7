use Rattle.content_build.proofs.Canonically.{canonical_built}
use Rattle.content_build.proofs.laws.canonical_is_built.Goals as goal

pub returns : goal.returns
returns c = canonical_built
