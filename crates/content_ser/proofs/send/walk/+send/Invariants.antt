use Rattle.std.proofs.Common.{List, drop, map}
use Rattle.content_tree.specs.Values.Value.{trees_view, pairs_view, fields_view}
use Rattle.content_ser.specs.Calls.Event.{element, tuple_field}
use Rattle.content_ser.specs.Serializers.Step.{Answer, Seen}
use Rattle.content_ser.specs.Scripts.Sends.{Sends}
use Rattle.content_ser.specs.Sending.Loose.{KeyedTree, loose_each, loose_pairs, loose_fields}
use Rattle.content_ser.specs.Sending.Loose.{loose_field_pairs, sorted, text_pairs}
use Rattle.content_ser.specs.Sending.Places.{keyed_tree_of, StandsFor}
use Rattle.content_ser.specs.Sending.TreeScript.{script_of_each, script_of_pairs, script_of_fields}
use Rattle.content_ser.proofs.send.walk.+send.Given as goal

-- whatever ends the rest from here ends the whole from the start

abbrev pub invariant-send_items-loop-item : goal.invariant-send_items-loop-item
invariant-send_items-loop-item g l =
    (r : Answer) (new : Seen g.S.Serializer.State)
    → Sends g.S.Serializer.step g.S.Serializer.refuses (g.S.Serializer.seen l.serializer) (λ h. script_of_each element (loose_each (trees_view (drop l.item-index l.item-items)))) r new
    → Sends g.S.Serializer.step g.S.Serializer.refuses (g.S.Serializer.seen l.initial.serializer) (λ h. script_of_each element (loose_each (trees_view l.item-items))) r new

abbrev pub invariant-send_tuple_fields-loop-item : goal.invariant-send_tuple_fields-loop-item
invariant-send_tuple_fields-loop-item g l =
    (r : Answer) (new : Seen g.S.Serializer.State)
    → Sends g.S.Serializer.step g.S.Serializer.refuses (g.S.Serializer.seen l.serializer) (λ h. script_of_each tuple_field (loose_each (trees_view (drop l.item-index l.item-items)))) r new
    → Sends g.S.Serializer.step g.S.Serializer.refuses (g.S.Serializer.seen l.initial.serializer) (λ h. script_of_each tuple_field (loose_each (trees_view l.item-items))) r new

abbrev pub invariant-send_pairs-loop-key : goal.invariant-send_pairs-loop-key
invariant-send_pairs-loop-key g l =
    (r : Answer) (new : Seen g.S.Serializer.State)
    → Sends g.S.Serializer.step g.S.Serializer.refuses (g.S.Serializer.seen l.serializer) (λ h. script_of_pairs (loose_pairs (pairs_view (drop l.key-index l.key-items)))) r new
    → Sends g.S.Serializer.step g.S.Serializer.refuses (g.S.Serializer.seen l.initial.serializer) (λ h. script_of_pairs (loose_pairs (pairs_view l.key-items))) r new

abbrev pub invariant-send_fields-loop-key : goal.invariant-send_fields-loop-key
invariant-send_fields-loop-key g l =
    (r : Answer) (new : Seen g.S.Serializer.State)
    → Sends g.S.Serializer.step g.S.Serializer.refuses (g.S.Serializer.seen l.serializer) (λ h. script_of_fields (loose_fields (fields_view (drop l.key-index l.key-items)))) r new
    → Sends g.S.Serializer.step g.S.Serializer.refuses (g.S.Serializer.seen l.initial.serializer) (λ h. script_of_fields (loose_fields (fields_view l.key-items))) r new

abbrev pub invariant-send_entries-loop-key : goal.invariant-send_entries-loop-key
invariant-send_entries-loop-key g l =
    (r : Answer) (new : Seen g.S.Serializer.State)
    → Sends g.S.Serializer.step g.S.Serializer.refuses (g.S.Serializer.seen l.serializer) (λ h. script_of_pairs (loose_field_pairs (fields_view (drop l.key-index l.key-items)))) r new
    → Sends g.S.Serializer.step g.S.Serializer.refuses (g.S.Serializer.seen l.initial.serializer) (λ h. script_of_pairs (loose_field_pairs (fields_view l.key-items))) r new

-- the places left mean the entries left, and whatever ends those ends the whole
abbrev pub invariant-send_sorted-loop-key : goal.invariant-send_sorted-loop-key
invariant-send_sorted-loop-key g l =
    (es : List KeyedTree) × StandsFor l.fields.items l.key-iterator es
    × ((r : Answer) (new : Seen g.S.Serializer.State)
    → Sends g.S.Serializer.step g.S.Serializer.refuses (g.S.Serializer.seen l.serializer) (λ h. script_of_pairs (text_pairs es)) r new
    → Sends g.S.Serializer.step g.S.Serializer.refuses (g.S.Serializer.seen l.initial.serializer) (λ h. script_of_pairs (text_pairs (sorted (map keyed_tree_of l.fields.items)))) r new)
