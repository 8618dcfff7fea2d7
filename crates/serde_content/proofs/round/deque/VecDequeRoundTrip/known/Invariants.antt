use Rattle.std.specs.List.{AllByRecursion}
use Rattle.std.specs.VecDeque.Iter.{deque_iter_rest}
use Rattle.serde_content.proofs.round.deque.VecDequeRoundTrip.known.Given as goal

-- where all items that are left exist, all do
abbrev pub invariant-loop-item : goal.invariant-loop-item
invariant-loop-item g l = AllByRecursion g.T.RoundTrip.exists (deque_iter_rest l.item-iterator) → AllByRecursion g.T.RoundTrip.exists l.self.items
