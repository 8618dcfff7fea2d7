use Rattle.std.proofs.Common.{drop}
use Rattle.content_ser.specs.Serializers.Step.{Answer, Seen}
use Rattle.content_ser.specs.Scripts.Sends.{Sends}
use Rattle.content_ser.specs.Scripts.Standard.{items_script}
use Rattle.content_ser.proofs.impls.array.ArraySerialize.serialize_aside.Given as goal

-- whatever ends the rest from here ends the whole from the start
abbrev pub invariant-loop-item : goal.invariant-loop-item
invariant-loop-item g l =
    (r : Answer) (new : Seen g.S.Serializer.State)
    → Sends g.S.Serializer.step g.S.Serializer.refuses (g.S.Serializer.seen l.serializer) (items_script g.T.Serialize.script (drop l.item-index l.self)) r new
    → Sends g.S.Serializer.step g.S.Serializer.refuses (g.S.Serializer.seen l.initial.serializer) (items_script g.T.Serialize.script l.self) r new
