use Rattle.content_tree.proofs.PathLaws.{joined_paths, joined_at_values}
use Rattle.content_tree.proofs.laws.joined_paths.Goals as goal

pub returns : goal.returns
returns c = record { places = joined_paths; values = joined_at_values }
