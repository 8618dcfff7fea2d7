use Rattle.std.proofs.Common.{◌≡◌, length}
use Rattle.content_json.specs.Inner.Strings.{tail, wrong_at}
use Rattle.content_json.proofs.utf8.stop_in_text.Given as goal

abbrev pub invariant-loop-rest : goal.invariant-loop-rest
invariant-loop-rest l = wrong_at l.lack l.rest ≡ wrong_at (tail 0) l.bytes

abbrev pub decreases-loop-rest : goal.decreases-loop-rest
decreases-loop-rest l = length l.rest
