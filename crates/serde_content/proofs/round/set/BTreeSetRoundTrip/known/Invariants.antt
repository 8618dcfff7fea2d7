use Rattle.std.specs.List.{AllByRecursion}
use Rattle.serde_content.proofs.round.set.BTreeSetRoundTrip.known.Given as goal

-- where all items that are left exist, all do
abbrev pub invariant-loop-item : goal.invariant-loop-item
invariant-loop-item g l = AllByRecursion g.T.RoundTrip.exists l.item-iterator → AllByRecursion g.T.RoundTrip.exists l.self.keys
