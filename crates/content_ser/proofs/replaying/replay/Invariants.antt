use Rattle.std.proofs.Common.{drop}
use Rattle.content_ser.specs.Calls.Call.{events_of}
use Rattle.content_ser.specs.Serializers.Step.{Answer, Seen}
use Rattle.content_ser.specs.Scripts.Sends.{Sends}
use Rattle.content_ser.specs.Scripts.Replay.{calls_script}
use Rattle.content_ser.proofs.replaying.replay.Given as goal

-- whatever ends the rest from here ends the whole from the start
abbrev pub invariant-loop-made : goal.invariant-loop-made
invariant-loop-made g l =
    (r : Answer) (new : Seen g.S.Serializer.State)
    → Sends g.S.Serializer.step g.S.Serializer.refuses (g.S.Serializer.seen l.serializer) (λ readable. calls_script (events_of (drop l.made-index l.calls))) r new
    → Sends g.S.Serializer.step g.S.Serializer.refuses (g.S.Serializer.seen l.initial.serializer) (λ readable. calls_script (events_of l.calls)) r new
