use Rattle.content_uses.proofs.EitherWay.{either_way, order_matters, name_matters, twice_matters}
use Rattle.content_uses.proofs.EitherWay.{twice_between_matters}
use Rattle.content_uses.proofs.MergingLaws.{empty_changes_nothing, keys_find, other_sort_wins}
use Rattle.content_uses.proofs.laws.merging_laws.Goals as goal

pub returns : goal.returns
returns c = record {
  empty = empty_changes_nothing;
  whole = other_sort_wins;
  found = keys_find;
  either_way = either_way;
  order = order_matters;
  name = name_matters;
  twice = twice_matters;
  twice_between = twice_between_matters;
}
