use Rattle.serde_content.proofs.Lookups.{joined_pairs}
use Rattle.serde_content.proofs.laws.joined_pairs.Goals as goal

pub returns : goal.returns
returns c = joined_pairs
