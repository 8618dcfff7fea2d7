use Rattle.content_ser.specs.Serializers.Step.{Answer, Seen}
use Rattle.content_ser.specs.Scripts.Sends.{Sends}
use Rattle.serde_content.specs.Entries.{pairs_first}
use Rattle.serde_content.proofs.flattened_sent.hash_map.HashMapSendEntries.send_entries.Given as goal

-- whatever ends the rest from here ends the whole from the start
abbrev pub invariant-loop-key : goal.invariant-loop-key
invariant-loop-key g l =
    (r : Answer) (new : Seen g.S.Serializer.State)
    → Sends g.S.Serializer.step g.S.Serializer.refuses (g.S.Serializer.seen l.serializer) (pairs_first g.K.Serialize.script g.V.Serialize.script l.key-iterator (g.R.SendRow.script l.rest)) r new
    → Sends g.S.Serializer.step g.S.Serializer.refuses (g.S.Serializer.seen l.initial.serializer) (pairs_first g.K.Serialize.script g.V.Serialize.script l.self.entries (g.R.SendRow.script l.rest)) r new
