use Rattle.std.proofs.Common.{◌≡◌, []}
use Rattle.serde_content.proofs.round.hash_set.HashSetRoundTrip.known.Goals as goal

pub loop-item-init : goal.loop-item-init
loop-item-init g c = λ rest. rw (← c.into_iter-item-iterator.ensures.into_iter_gives.0) rest

pub loop-item-preserved : goal.loop-item-preserved
loop-item-preserved g c = λ rest. c.loop-item.invariant (rw c.in-Some.ensures.steps (c.known.ensures, rest))

pub returns : goal.returns
returns g c =
    let none : c.loop-item.item-iterator ≡ [] = c.in-None.ensures.steps.0 in
    c.loop-item.invariant (rw none tt)
