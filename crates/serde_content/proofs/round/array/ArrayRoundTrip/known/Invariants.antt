use Rattle.std.proofs.Common.{drop}
use Rattle.std.specs.List.{AllByRecursion}
use Rattle.serde_content.proofs.round.array.ArrayRoundTrip.known.Given as goal

-- where all that is left exists, all does
abbrev pub invariant-loop-item : goal.invariant-loop-item
invariant-loop-item g l =
    AllByRecursion g.T.RoundTrip.exists (drop l.item-index l.self) → AllByRecursion g.T.RoundTrip.exists l.self
