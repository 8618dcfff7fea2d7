use Rattle.content_ser.specs.Grammar.Spells.{spells_series, spells_leaf, elements_more, elements_end}
use Rattle.check_callers.proofs.building.two_bytes.Goals as goal

pub returns : goal.returns
returns c = c.from_calls.ensures.whole _ (spells_series (elements_more spells_leaf (elements_more spells_leaf elements_end)))
