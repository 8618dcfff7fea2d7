use Rattle.content_build.proofs.Agreement.{unique_cut}
use Rattle.serde_content.proofs.laws.unique_cut.Goals as goal

pub returns : goal.returns
returns c = unique_cut
