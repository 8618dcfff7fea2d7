-- What contracts see of a `Call`.
use Rattle.std.specs.Prelude.{◌≡◌, false, List, map, Option, Some, None, IfSome}
use Rattle.content_tree.specs.Values.Text.{Text, text_of, bytes_of, text_content, bytes_content}
use Rattle.content_ser.specs.Calls.Event as event
use Rattle.content_ser.specs.Calls.Event.{Event}
use Rattle.content_ser.specs.declared.call.Call.{Call}
use Rattle.content_ser.specs.declared.call.Call.TheVariants as call

-- a call, by its contents
abbrev pub event_of : Call → Event
event_of (call.Bool b) = event.boolean b
event_of (call.Number n) = event.number n
event_of (call.Char c) = event.character c
event_of (call.Str s) = event.text (text_content s)
event_of (call.Bytes s) = event.octets (bytes_content s)
event_of call.Unit = event.unit
event_of call.NoneCall = event.none
event_of call.SomeCall = event.some
event_of (call.UnitStruct n) = event.unit_struct n.now
event_of (call.UnitVariant n i v) = event.unit_variant n.now i v.now
event_of (call.NewtypeStruct n) = event.newtype_struct n.now
event_of (call.NewtypeVariant n i v) = event.newtype_variant n.now i v.now
event_of (call.Seq hint) = event.seq hint
event_of (call.Tuple len) = event.tuple len
event_of (call.TupleStruct n len) = event.tuple_struct n.now len
event_of (call.TupleVariant n i v len) = event.tuple_variant n.now i v.now len
event_of (call.Map hint) = event.map hint
event_of (call.Struct n len) = event.structure n.now len
event_of (call.StructVariant n i v len) = event.struct_variant n.now i v.now len
event_of call.Element = event.element
event_of call.TupleField = event.tuple_field
event_of (call.Field k) = event.field k.now
event_of call.Key = event.key
event_of call.Value = event.value
event_of call.Entry = event.entry
event_of call.End = event.end

-- calls, each by its contents
abbrev pub events_of : List Call → List Event
events_of calls = map event_of calls

-- the text or bytes that it holds, with their case
abbrev pub text_part : Call → Option Text
text_part (call.Str s) = Some (text_of s)
text_part (call.Bytes s) = Some (bytes_of s)
text_part _ = None

-- the text or bytes that it holds are owned
abbrev pub IsOwned : Call → Type 0
IsOwned call = IfSome (text_part call) (λ part. part.borrowed ≡ false)
