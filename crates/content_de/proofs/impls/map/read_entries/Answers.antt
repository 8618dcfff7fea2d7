use Rattle.std.proofs.Common.{◌∙◌, sym, [], append-nil}
use Rattle.content_de.proofs.PutIn.{no_entry_gives, no_entry_refused}
use Rattle.content_de.proofs.impls.map.read_entries.Goals as goal

pub returns : goal.returns
returns g c = (
  sym c.loop-entry.invariant.refusal ∙ no_entry_refused g.K.Deserialize.refusal g.V.Deserialize.refusal _ _ c.in_default.ensures.value,
  rw (← append-nil c.loop-entry.entries.items) (c.loop-entry.invariant.gives [] (no_entry_gives g.K.Deserialize.gives g.V.Deserialize.gives _ _ c.in_default.ensures.value)),
)
