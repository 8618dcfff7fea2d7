use Rattle.content_tree.proofs.PathLaws.{named_index}
use Rattle.content_tree.proofs.laws.named_index.Goals as goal

pub returns : goal.returns
returns c = named_index
