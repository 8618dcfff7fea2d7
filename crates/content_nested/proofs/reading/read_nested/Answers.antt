use Rattle.content_nested.proofs.reading.read_nested.Goals as goal

pub returns : goal.returns
returns g c = rw c.in_ok-levels.ensures.value at c.read_levels.ensures
