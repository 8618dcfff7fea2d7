use Rattle.std.proofs.Common.{◌≡◌, false, Some, take}
use Rattle.content_ser.specs.Calls.Call.{events_of}
use Rattle.content_build.specs.Builder.{seen_of}
use Rattle.content_build.specs.Limit.{fresh_within, run}
use Rattle.content_build.proofs.calls.build.Given as goal

-- the builder is where the calls so far lead
abbrev pub invariant-loop-at : goal.invariant-loop-at
invariant-loop-at l = ((seen_of l.builder).failed ≡ false) × (run (fresh_within l.fn.limit) (events_of (take l.at l.calls)) ≡ Some (seen_of l.builder).state)
