use Rattle.serde_content.proofs.Lookups.{equal_keys}
use Rattle.serde_content.proofs.laws.equal_keys.Goals as goal

pub returns : goal.returns
returns c = equal_keys
