use Rattle.serde_content.proofs.Lookups.{last_pair}
use Rattle.serde_content.proofs.laws.last_pair.Goals as goal

pub returns : goal.returns
returns c = last_pair
