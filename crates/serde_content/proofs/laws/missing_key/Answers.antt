use Rattle.serde_content.proofs.Lookups.{missing_key}
use Rattle.serde_content.proofs.laws.missing_key.Goals as goal

pub returns : goal.returns
returns c = missing_key
