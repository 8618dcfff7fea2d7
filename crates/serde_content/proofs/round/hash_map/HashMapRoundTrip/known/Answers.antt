use Rattle.std.proofs.Common.{◌≡◌, []}
use Rattle.serde_content.proofs.round.hash_map.HashMapRoundTrip.known.Goals as goal

pub loop-key-init : goal.loop-key-init
loop-key-init g c = λ rest. rw (← c.into_iter-key-iterator.ensures.into_iter_gives.0) rest

pub loop-key-preserved : goal.loop-key-preserved
loop-key-preserved g c = λ rest.
    c.loop-key.invariant (rw c.in-Some.ensures.steps ((c.known.ensures, c.known-in-loop-key.ensures), rest))

pub returns : goal.returns
returns g c =
    let none : c.loop-key.key-iterator ≡ [] = c.in-None.ensures.steps.0 in
    record { apart = c.into_iter-key-iterator.ensures.into_iter_gives.4; each = c.loop-key.invariant (rw none tt) }
