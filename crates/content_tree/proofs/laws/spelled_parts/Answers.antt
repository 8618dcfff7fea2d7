use Rattle.content_tree.proofs.PathLaws.{spelled_parts}
use Rattle.content_tree.proofs.laws.spelled_parts.Goals as goal

pub returns : goal.returns
returns c = spelled_parts
