use Rattle.std.proofs.Common.{map}
use Rattle.content_ser.specs.Serializers.Step.{Answer, Seen}
use Rattle.content_ser.specs.Scripts.Sends.{Sends}
use Rattle.content_ser.specs.Scripts.Standard.{entries_script}
use Rattle.content_nested.specs.Nested.{script_by, text_script}
use Rattle.content_nested.proofs.holders_sent.BTreeMapStringSendNested.send_nested.Given as goal

-- whatever ends the rest from here ends the whole from the start
abbrev pub invariant-loop-key : goal.invariant-loop-key
invariant-loop-key g l =
    (r : Answer) (new : Seen g.S.Serializer.State)
    → Sends g.S.Serializer.step g.S.Serializer.refuses (g.S.Serializer.seen l.serializer) (entries_script text_script (script_by g.T.Nests.nested) (map (λ e. (e.0, g.T.Nests.layer e.1)) l.key-iterator)) r new
    → Sends g.S.Serializer.step g.S.Serializer.refuses (g.S.Serializer.seen l.initial.serializer) (entries_script text_script (script_by g.T.Nests.nested) (map (λ e. (e.0, g.T.Nests.layer e.1)) l.self.entries)) r new
