use Rattle.std.proofs.Common.{◌≡◌, []}
use Rattle.content_de.specs.Reads.Sets.{put_keys}
use Rattle.content_de.proofs.impls.set.collect.Given as goal

-- the set has the items so far
abbrev pub invariant-loop-item : goal.invariant-loop-item
invariant-loop-item g l = l.set.keys ≡ put_keys g.T.Ord.cmp [] l.yielded
