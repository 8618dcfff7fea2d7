use Rattle.content_tree.proofs.PathLaws.{empty_path}
use Rattle.content_tree.proofs.laws.empty_path.Goals as goal

pub returns : goal.returns
returns c = empty_path
