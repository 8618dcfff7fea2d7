use Rattle.std.proofs.Common.{◌≡◌, []}
use Rattle.content_de.specs.Reads.Maps.{put_in}
use Rattle.content_de.proofs.impls.map.from_the_front.Given as goal

-- the map has the entries so far
abbrev pub invariant-loop-key : goal.invariant-loop-key
invariant-loop-key g l = l.map.entries ≡ put_in g.K.Ord.cmp [] l.yielded
