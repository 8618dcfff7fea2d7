use Rattle.std.proofs.Common.{◌≡◌, length}
use Rattle.content_cbor.specs.Item.{without_zeros}
use Rattle.content_cbor.proofs.leaves.without_zeros.Given as goal

abbrev pub invariant-loop-rest : goal.invariant-loop-rest
invariant-loop-rest l = without_zeros l.rest ≡ without_zeros l.bytes

abbrev pub decreases-loop-rest : goal.decreases-loop-rest
decreases-loop-rest l = length l.rest
