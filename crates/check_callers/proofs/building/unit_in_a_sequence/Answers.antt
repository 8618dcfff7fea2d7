use Rattle.std.proofs.Common.{◌∷◌, [], refl, arith}
use Rattle.content_ser.specs.Calls.Event as event
use Rattle.content_ser.specs.Grammar.Spells.{spells_series, elements_end}
use Rattle.check_callers.proofs.Unplaced.{no_sequence}
use Rattle.check_callers.proofs.building.unit_in_a_sequence.Goals as goal

pub returns : goal.returns
returns c =
    c.from_calls.ensures.misplaced 1 (omega arith, (event.end ∷ [], (_, spells_series elements_end)), λ viable. no_sequence _ _ _ viable.1.1 refl)
