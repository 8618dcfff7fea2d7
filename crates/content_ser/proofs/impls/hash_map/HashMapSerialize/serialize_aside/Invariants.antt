use Rattle.content_ser.specs.Serializers.Step.{Answer, Seen}
use Rattle.content_ser.specs.Scripts.Sends.{Sends}
use Rattle.content_ser.specs.Scripts.Standard.{entries_script}
use Rattle.content_ser.proofs.impls.hash_map.HashMapSerialize.serialize_aside.Given as goal

-- whatever ends the rest from here ends the whole from the start
abbrev pub invariant-loop-key : goal.invariant-loop-key
invariant-loop-key g l =
    (r : Answer) (new : Seen g.S.Serializer.State)
    → Sends g.S.Serializer.step g.S.Serializer.refuses (g.S.Serializer.seen l.serializer) (entries_script g.K.Serialize.script g.V.Serialize.script l.key-iterator) r new
    → Sends g.S.Serializer.step g.S.Serializer.refuses (g.S.Serializer.seen l.initial.serializer) (entries_script g.K.Serialize.script g.V.Serialize.script l.self.entries) r new
