use Rattle.std.specs.List.{AllByRecursion}
use Rattle.serde_content.proofs.round.hash_map.HashMapRoundTrip.known.Given as goal

-- where all entries that are left exist, all do
abbrev pub invariant-loop-key : goal.invariant-loop-key
invariant-loop-key g l =
    AllByRecursion (λ e. g.K.RoundTrip.exists e.0 × g.V.RoundTrip.exists e.1) l.key-iterator
    → AllByRecursion (λ e. g.K.RoundTrip.exists e.0 × g.V.RoundTrip.exists e.1) l.self.entries
