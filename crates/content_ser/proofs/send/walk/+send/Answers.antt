use Rattle.std.proofs.Common.{◌≡◌, ◌<◌, [], length, drop, map, Some, ◌∙◌, arith, rules}
use Rattle.std.proofs.lemmas.List.{drop_all}
use Rattle.content_tree.proofs.Views.{tree_of-Unit, tree_of-Bool, tree_of-Number, tree_of-Char}
use Rattle.content_tree.proofs.Views.{tree_of-String, tree_of-Bytes, tree_of-Map, tree_of-Tuple}
use Rattle.content_tree.proofs.Views.{tree_data_of-Unit, tree_data_of-NewType, tree_data_of-Tuple}
use Rattle.content_tree.proofs.Views.{tree_data_of-Struct}
use Rattle.content_ser.specs.Calls.Event as event
use Rattle.content_ser.specs.Calls.Head.{head_of}
use Rattle.content_ser.specs.Sending.Loose.{sorted}
use Rattle.content_ser.specs.Sending.Places.{keyed_tree_of}
use Rattle.content_ser.specs.Sending.TreeScript as names
use Rattle.content_ser.proofs.Lists.{drop_here}
use Rattle.content_ser.proofs.Sending.{takes_only, takes_then, takes_err, sends_then, sends_err}
use Rattle.content_ser.proofs.Sending.{at_exit_aside, told_then, told_err}
use Rattle.content_ser.proofs.Placing.{below_from_got, same_from_got, stands-length}
use Rattle.content_ser.proofs.Walking.{count_each, count_each_pair, count_each_field}
use Rattle.content_ser.proofs.Walking.{count_each_entry, count_text_pairs, keyed_each, stands_first}
use Rattle.content_ser.proofs.Walking.{stands_none, entries_end, sends_value, field_below}
use Rattle.content_ser.proofs.send.walk.+send.Goals as goal

pub send-returns-in-Unit : goal.send-returns-in-Unit
send-returns-in-Unit g t c = rw (c.in-Unit.is, tree_of-Unit) (takes_only c.serialize_unit.ensures)

pub send-returns-in-Bool : goal.send-returns-in-Bool
send-returns-in-Bool g t c = rw (c.in-Bool.is, tree_of-Bool) (takes_only c.serialize_bool.ensures)

pub send-returns-in-Number : goal.send-returns-in-Number
send-returns-in-Number g t c = rw (c.in-Number.is, tree_of-Number) c.serialize_number.ensures

pub send-returns-in-Char : goal.send-returns-in-Char
send-returns-in-Char g t c = rw (c.in-Char.is, tree_of-Char) (takes_only c.serialize_char.ensures)

pub send-returns-in-String : goal.send-returns-in-String
send-returns-in-String g t c = rw (c.in-String.is, tree_of-String) (takes_only (rw c.as_str.ensures at c.serialize_str.ensures))

pub send-returns-in-Bytes : goal.send-returns-in-Bytes
send-returns-in-Bytes g t c = rw (c.in-Bytes.is, tree_of-Bytes) (takes_only (rw c.as_bytes.ensures at c.serialize_bytes.ensures))

pub send-returns-in_ok-serialize_map-in-Map : goal.send-returns-in_ok-serialize_map-in-Map
send-returns-in_ok-serialize_map-in-Map g t c =
    let n : c.len.result ≡ length c.in-Map.pairs.items = search rules in
    rw (c.in-Map.is, tree_of-Map) (told_then (λ n. event.map (Some n)) (n ∙ count_each_pair _) c.in_ok-serialize_map-in-Map.ensures c.send_pairs.ensures)

pub send-returns-in_err-serialize_map-in-Map : goal.send-returns-in_err-serialize_map-in-Map
send-returns-in_err-serialize_map-in-Map g t c =
    let n : c.len.result ≡ length c.in-Map.pairs.items = search rules in
    rw (c.in-Map.is, tree_of-Map) (at_exit_aside _ _ c.from_residual.ensures.1 (told_err (λ n. event.map (Some n)) (n ∙ count_each_pair _) c.in_err-serialize_map-in-Map.ensures))

pub send-returns-in_ok-serialize_tuple-in-Tuple : goal.send-returns-in_ok-serialize_tuple-in-Tuple
send-returns-in_ok-serialize_tuple-in-Tuple g t c =
    let n : c.len-in-Tuple.result ≡ length c.in-Tuple.items.items = search rules in
    rw (c.in-Tuple.is, tree_of-Tuple) (told_then event.tuple (n ∙ count_each _) c.in_ok-serialize_tuple-in-Tuple.ensures c.send_items.ensures)

pub send-returns-in_err-serialize_tuple-in-Tuple : goal.send-returns-in_err-serialize_tuple-in-Tuple
send-returns-in_err-serialize_tuple-in-Tuple g t c =
    let n : c.len-in-Tuple.result ≡ length c.in-Tuple.items.items = search rules in
    rw (c.in-Tuple.is, tree_of-Tuple) (at_exit_aside _ _ c.from_residual-in_err-serialize_tuple-in-Tuple.ensures.1 (told_err event.tuple (n ∙ count_each _) c.in_err-serialize_tuple-in-Tuple.ensures))

pub send_seq-returns-in_err-serialize_seq : goal.send_seq-returns-in_err-serialize_seq
send_seq-returns-in_err-serialize_seq g t c =
    let n : c.len.result ≡ length c.args.items.now.items = search rules in
    at_exit_aside _ _ c.from_residual.ensures.1 (told_err (λ n. event.seq (Some n)) (n ∙ count_each _) c.in_err-serialize_seq.ensures)

pub send_seq-returns : goal.send_seq-returns
send_seq-returns g t c =
    let n : c.len.result ≡ length c.args.items.now.items = search rules in
    told_then (λ n. event.seq (Some n)) (n ∙ count_each _) c.in_ok-serialize_seq.ensures c.send_items.ensures

pub send_held-returns-in_err-serialize_some-in-Some : goal.send_held-returns-in_err-serialize_some-in-Some
send_held-returns-in_err-serialize_some-in-Some g t c = rw c.in-Some.is (at_exit_aside _ _ c.from_residual.ensures.1 (takes_err c.in_err-serialize_some-in-Some.ensures))

pub send_held-returns-in_ok-serialize_some-in-Some : goal.send_held-returns-in_ok-serialize_some-in-Some
send_held-returns-in_ok-serialize_some-in-Some g t c = rw c.in-Some.is (takes_then c.in_ok-serialize_some-in-Some.ensures (rw c.deref.ensures at c.send.ensures))

pub send_named-returns-in-Unit : goal.send_named-returns-in-Unit
send_named-returns-in-Unit g t c = rw (c.in-Unit.is, tree_data_of-Unit) (takes_only c.call_unit.ensures)

pub send_named-returns-in_ok-call_newtype-in-NewType : goal.send_named-returns-in_ok-call_newtype-in-NewType
send_named-returns-in_ok-call_newtype-in-NewType g t c = rw (c.in-NewType.is, tree_data_of-NewType) (takes_then c.in_ok-call_newtype-in-NewType.ensures c.send.ensures)

pub send_named-returns-in_err-call_newtype-in-NewType : goal.send_named-returns-in_err-call_newtype-in-NewType
send_named-returns-in_err-call_newtype-in-NewType g t c = rw (c.in-NewType.is, tree_data_of-NewType) (at_exit_aside _ _ c.from_residual.ensures.1 (takes_err c.in_err-call_newtype-in-NewType.ensures))

pub send_named-returns-in_ok-call_tuple-in-Tuple : goal.send_named-returns-in_ok-call_tuple-in-Tuple
send_named-returns-in_ok-call_tuple-in-Tuple g t c =
    let n : c.len.result ≡ length c.in-Tuple.values.items = search rules in
    rw (c.in-Tuple.is, tree_data_of-Tuple) (told_then (names.tuple_call (head_of c.args.head.now)) (n ∙ count_each _) c.in_ok-call_tuple-in-Tuple.ensures c.send_tuple_fields.ensures)

pub send_named-returns-in_err-call_tuple-in-Tuple : goal.send_named-returns-in_err-call_tuple-in-Tuple
send_named-returns-in_err-call_tuple-in-Tuple g t c =
    let n : c.len.result ≡ length c.in-Tuple.values.items = search rules in
    rw (c.in-Tuple.is, tree_data_of-Tuple) (at_exit_aside _ _ c.from_residual-in_err-call_tuple-in-Tuple.ensures.1 (told_err (names.tuple_call (head_of c.args.head.now)) (n ∙ count_each _) c.in_err-call_tuple-in-Tuple.ensures))

pub send_named-returns-in_ok-call_struct-in-Struct : goal.send_named-returns-in_ok-call_struct-in-Struct
send_named-returns-in_ok-call_struct-in-Struct g t c =
    let n : c.len-in-Struct.result ≡ length c.in-Struct.fields.items = search rules in
    rw (c.in-Struct.is, tree_data_of-Struct) (told_then (names.struct_call (head_of c.args.head.now)) (n ∙ count_each_field _) c.in_ok-call_struct-in-Struct.ensures c.send_fields.ensures)

pub send_named-returns-in_err-call_struct-in-Struct : goal.send_named-returns-in_err-call_struct-in-Struct
send_named-returns-in_err-call_struct-in-Struct g t c =
    let n : c.len-in-Struct.result ≡ length c.in-Struct.fields.items = search rules in
    rw (c.in-Struct.is, tree_data_of-Struct) (at_exit_aside _ _ c.from_residual-in_err-call_struct-in-Struct.ensures.1 (told_err (names.struct_call (head_of c.args.head.now)) (n ∙ count_each_field _) c.in_err-call_struct-in-Struct.ensures))

pub send_unnamed-returns-in-Unit : goal.send_unnamed-returns-in-Unit
send_unnamed-returns-in-Unit g t c = rw (c.in-Unit.is, tree_data_of-Unit) (takes_only c.serialize_unit.ensures)

pub send_unnamed-returns-in_ok-serialize_map-in-Struct : goal.send_unnamed-returns-in_ok-serialize_map-in-Struct
send_unnamed-returns-in_ok-serialize_map-in-Struct g t c =
    let n : c.len.result ≡ length c.in-Struct.fields.items = search rules in
    rw (c.in-Struct.is, tree_data_of-Struct) (told_then (λ n. event.map (Some n)) (n ∙ count_each_entry _) c.in_ok-serialize_map-in-Struct.ensures c.send_entries.ensures)

pub send_unnamed-returns-in_err-serialize_map-in-Struct : goal.send_unnamed-returns-in_err-serialize_map-in-Struct
send_unnamed-returns-in_err-serialize_map-in-Struct g t c =
    let n : c.len.result ≡ length c.in-Struct.fields.items = search rules in
    rw (c.in-Struct.is, tree_data_of-Struct) (at_exit_aside _ _ c.from_residual.ensures.1 (told_err (λ n. event.map (Some n)) (n ∙ count_each_entry _) c.in_err-serialize_map-in-Struct.ensures))

pub send_variant-returns-in-Unit : goal.send_variant-returns-in-Unit
send_variant-returns-in-Unit g t c = rw (c.in-Unit.is, tree_data_of-Unit) (takes_only (rw c.as_str.ensures at c.serialize_str.ensures))

pub send_variant-returns-in_err-open_single-in-NewType : goal.send_variant-returns-in_err-open_single-in-NewType
send_variant-returns-in_err-open_single-in-NewType g t c = rw (c.in-NewType.is, tree_data_of-NewType) (at_exit_aside _ _ c.from_residual.ensures.1 (sends_err _ c.in_err-open_single-in-NewType.ensures))

pub send_variant-returns-in_err-send-in-NewType : goal.send_variant-returns-in_err-send-in-NewType
send_variant-returns-in_err-send-in-NewType g t c = rw (c.in-NewType.is, tree_data_of-NewType)
    (at_exit_aside _ _ c.from_residual-in_err-send-in-NewType.ensures.1 (sends_then c.in_ok-open_single-in-NewType.ensures (sends_err _ c.in_err-send-in-NewType.ensures)))

pub send_variant-returns-in_ok-send-in-NewType : goal.send_variant-returns-in_ok-send-in-NewType
send_variant-returns-in_ok-send-in-NewType g t c = rw (c.in-NewType.is, tree_data_of-NewType)
    (sends_then c.in_ok-open_single-in-NewType.ensures (sends_then c.in_ok-send-in-NewType.ensures (takes_only c.end.ensures)))

pub send_variant-returns-in_err-open_single-in-Tuple : goal.send_variant-returns-in_err-open_single-in-Tuple
send_variant-returns-in_err-open_single-in-Tuple g t c = rw (c.in-Tuple.is, tree_data_of-Tuple) (at_exit_aside _ _ c.from_residual-in_err-open_single-in-Tuple.ensures.1 (sends_err _ c.in_err-open_single-in-Tuple.ensures))

pub send_variant-returns-in_err-send_seq-in-Tuple : goal.send_variant-returns-in_err-send_seq-in-Tuple
send_variant-returns-in_err-send_seq-in-Tuple g t c = rw (c.in-Tuple.is, tree_data_of-Tuple)
    (at_exit_aside _ _ c.from_residual-in_err-send_seq-in-Tuple.ensures.1 (sends_then c.in_ok-open_single-in-Tuple.ensures (sends_err _ c.in_err-send_seq-in-Tuple.ensures)))

pub send_variant-returns-in_ok-send_seq-in-Tuple : goal.send_variant-returns-in_ok-send_seq-in-Tuple
send_variant-returns-in_ok-send_seq-in-Tuple g t c = rw (c.in-Tuple.is, tree_data_of-Tuple)
    (sends_then c.in_ok-open_single-in-Tuple.ensures (sends_then c.in_ok-send_seq-in-Tuple.ensures (takes_only c.end-in-Tuple.ensures)))

pub send_variant-returns-in_err-open_single-in-Struct : goal.send_variant-returns-in_err-open_single-in-Struct
send_variant-returns-in_err-open_single-in-Struct g t c = rw (c.in-Struct.is, tree_data_of-Struct) (at_exit_aside _ _ c.from_residual-in_err-open_single-in-Struct.ensures.1 (sends_err _ c.in_err-open_single-in-Struct.ensures))

pub send_variant-returns-in_err-send_sorted-in-Struct : goal.send_variant-returns-in_err-send_sorted-in-Struct
send_variant-returns-in_err-send_sorted-in-Struct g t c = rw (c.in-Struct.is, tree_data_of-Struct)
    (at_exit_aside _ _ c.from_residual-in_err-send_sorted-in-Struct.ensures.1 (sends_then c.in_ok-open_single-in-Struct.ensures (sends_err _ c.in_err-send_sorted-in-Struct.ensures)))

pub send_variant-returns-in_ok-send_sorted-in-Struct : goal.send_variant-returns-in_ok-send_sorted-in-Struct
send_variant-returns-in_ok-send_sorted-in-Struct g t c = rw (c.in-Struct.is, tree_data_of-Struct)
    (sends_then c.in_ok-open_single-in-Struct.ensures (sends_then c.in_ok-send_sorted-in-Struct.ensures (takes_only c.end-in-Struct.ensures)))

pub send_items-returns-in_err-serialize_element : goal.send_items-returns-in_err-serialize_element
send_items-returns-in_err-serialize_element g t c =
    let xs = c.deref-item-items in
    let e = drop_here xs.result.now c.loop-item.item-index c.item-item.result c.loop-item-test.true c.item-item.is in
    at_exit_aside _ _ c.from_residual.ensures.1 (rw (← xs.ensures.value) (c.loop-item.invariant _ _ (rw e
    (takes_err c.in_err-serialize_element.ensures))))

pub send_items-returns-in_err-send_item : goal.send_items-returns-in_err-send_item
send_items-returns-in_err-send_item g t c =
    let xs = c.deref-item-items in
    let e = drop_here xs.result.now c.loop-item.item-index c.item-item.result c.loop-item-test.true c.item-item.is in
    at_exit_aside _ _ c.from_residual-in_err-send_item.ensures.1 (rw (← xs.ensures.value) (c.loop-item.invariant _ _ (rw e
    (takes_then c.in_ok-serialize_element.ensures (sends_err _ c.in_err-send_item.ensures)))))

pub send_items-loop-item-preserved : goal.send_items-loop-item-preserved
send_items-loop-item-preserved g t c = λ r new rest.
    let xs = c.deref-item-items in
    let e = drop_here xs.result.now c.loop-item.item-index c.item-item.result c.loop-item-test.true c.item-item.is in
    c.loop-item.invariant r new (rw e (takes_then c.in_ok-serialize_element.ensures (sends_then c.in_ok-send_item.ensures rest)))

pub send_items-returns : goal.send_items-returns
send_items-returns g t c =
    let xs = c.deref-item-items in
    let none : drop c.loop-item.item-index xs.result.now ≡ [] = drop_all c.loop-item.item-index xs.result.now (omega arith) in
    rw (← xs.ensures.value) (c.loop-item.invariant _ _ (rw none (takes_only c.end.ensures)))

pub send_tuple_fields-returns-in_err-serialize_tuple_field : goal.send_tuple_fields-returns-in_err-serialize_tuple_field
send_tuple_fields-returns-in_err-serialize_tuple_field g t c =
    let xs = c.deref-item-items in
    let e = drop_here xs.result.now c.loop-item.item-index c.item-item.result c.loop-item-test.true c.item-item.is in
    at_exit_aside _ _ c.from_residual.ensures.1 (rw (← xs.ensures.value) (c.loop-item.invariant _ _ (rw e
    (takes_err c.in_err-serialize_tuple_field.ensures))))

pub send_tuple_fields-returns-in_err-send : goal.send_tuple_fields-returns-in_err-send
send_tuple_fields-returns-in_err-send g t c =
    let xs = c.deref-item-items in
    let e = drop_here xs.result.now c.loop-item.item-index c.item-item.result c.loop-item-test.true c.item-item.is in
    at_exit_aside _ _ c.from_residual-in_err-send.ensures.1 (rw (← xs.ensures.value) (c.loop-item.invariant _ _ (rw e
    (takes_then c.in_ok-serialize_tuple_field.ensures (sends_err _ c.in_err-send.ensures)))))

pub send_tuple_fields-loop-item-preserved : goal.send_tuple_fields-loop-item-preserved
send_tuple_fields-loop-item-preserved g t c = λ r new rest.
    let xs = c.deref-item-items in
    let e = drop_here xs.result.now c.loop-item.item-index c.item-item.result c.loop-item-test.true c.item-item.is in
    c.loop-item.invariant r new (rw e (takes_then c.in_ok-serialize_tuple_field.ensures (sends_then c.in_ok-send.ensures rest)))

pub send_tuple_fields-returns : goal.send_tuple_fields-returns
send_tuple_fields-returns g t c =
    let xs = c.deref-item-items in
    let none : drop c.loop-item.item-index xs.result.now ≡ [] = drop_all c.loop-item.item-index xs.result.now (omega arith) in
    rw (← xs.ensures.value) (c.loop-item.invariant _ _ (rw none (takes_only c.end.ensures)))

pub send_pairs-returns-in_err-serialize_entry : goal.send_pairs-returns-in_err-serialize_entry
send_pairs-returns-in_err-serialize_entry g t c =
    let xs = c.deref-key-items in
    let e = drop_here xs.result.now c.loop-key.key-index c.loop-key-item.result c.loop-key-test.true c.loop-key-item.is in
    at_exit_aside _ _ c.from_residual.ensures.1 (rw (← xs.ensures.value) (c.loop-key.invariant _ _ (rw e
    (takes_err c.in_err-serialize_entry.ensures))))

pub send_pairs-returns-in_err-send : goal.send_pairs-returns-in_err-send
send_pairs-returns-in_err-send g t c =
    let xs = c.deref-key-items in
    let e = drop_here xs.result.now c.loop-key.key-index c.loop-key-item.result c.loop-key-test.true c.loop-key-item.is in
    at_exit_aside _ _ c.from_residual-in_err-send.ensures.1 (rw (← xs.ensures.value) (c.loop-key.invariant _ _ (rw e
    (takes_then c.in_ok-serialize_entry.ensures (sends_err _ c.in_err-send.ensures)))))

pub send_pairs-returns-in_err-send-2 : goal.send_pairs-returns-in_err-send-2
send_pairs-returns-in_err-send-2 g t c =
    let xs = c.deref-key-items in
    let e = drop_here xs.result.now c.loop-key.key-index c.loop-key-item.result c.loop-key-test.true c.loop-key-item.is in
    at_exit_aside _ _ c.from_residual-in_err-send-2.ensures.1 (rw (← xs.ensures.value) (c.loop-key.invariant _ _ (rw e
    (takes_then c.in_ok-serialize_entry.ensures (sends_then c.in_ok-send.ensures (sends_err _ c.in_err-send-2.ensures))))))

pub send_pairs-loop-key-preserved : goal.send_pairs-loop-key-preserved
send_pairs-loop-key-preserved g t c = λ r new rest.
    let xs = c.deref-key-items in
    let e = drop_here xs.result.now c.loop-key.key-index c.loop-key-item.result c.loop-key-test.true c.loop-key-item.is in
    c.loop-key.invariant r new (rw e (takes_then c.in_ok-serialize_entry.ensures (sends_then c.in_ok-send.ensures (sends_then c.in_ok-send-2.ensures rest))))

pub send_pairs-returns : goal.send_pairs-returns
send_pairs-returns g t c =
    let xs = c.deref-key-items in
    let none : drop c.loop-key.key-index xs.result.now ≡ [] = drop_all c.loop-key.key-index xs.result.now (omega arith) in
    rw (← xs.ensures.value) (c.loop-key.invariant _ _ (rw none (takes_only c.end.ensures)))

pub send_entries-returns-in_err-serialize_entry : goal.send_entries-returns-in_err-serialize_entry
send_entries-returns-in_err-serialize_entry g t c =
    let xs = c.deref-key-items in
    let e = drop_here xs.result.now c.loop-key.key-index c.loop-key-item.result c.loop-key-test.true c.loop-key-item.is in
    at_exit_aside _ _ c.from_residual.ensures.1 (rw (← xs.ensures.value) (c.loop-key.invariant _ _ (rw e
    (takes_err c.in_err-serialize_entry.ensures))))

pub send_entries-returns-in_err-serialize_str : goal.send_entries-returns-in_err-serialize_str
send_entries-returns-in_err-serialize_str g t c =
    let xs = c.deref-key-items in
    let e = drop_here xs.result.now c.loop-key.key-index c.loop-key-item.result c.loop-key-test.true c.loop-key-item.is in
    at_exit_aside _ _ c.from_residual-in_err-serialize_str.ensures.1 (rw (← xs.ensures.value) (c.loop-key.invariant _ _ (rw e
    (takes_then c.in_ok-serialize_entry.ensures (takes_err (rw c.as_str.ensures at c.in_err-serialize_str.ensures))))))

pub send_entries-returns-in_err-send : goal.send_entries-returns-in_err-send
send_entries-returns-in_err-send g t c =
    let xs = c.deref-key-items in
    let e = drop_here xs.result.now c.loop-key.key-index c.loop-key-item.result c.loop-key-test.true c.loop-key-item.is in
    at_exit_aside _ _ c.from_residual-in_err-send.ensures.1 (rw (← xs.ensures.value) (c.loop-key.invariant _ _ (rw e
    (takes_then c.in_ok-serialize_entry.ensures (takes_then (rw c.as_str.ensures at c.in_ok-serialize_str.ensures) (sends_err _ c.in_err-send.ensures))))))

pub send_entries-loop-key-preserved : goal.send_entries-loop-key-preserved
send_entries-loop-key-preserved g t c = λ r new rest.
    let xs = c.deref-key-items in
    let e = drop_here xs.result.now c.loop-key.key-index c.loop-key-item.result c.loop-key-test.true c.loop-key-item.is in
    c.loop-key.invariant r new (rw e (takes_then c.in_ok-serialize_entry.ensures (takes_then (rw c.as_str.ensures at c.in_ok-serialize_str.ensures) (sends_then c.in_ok-send.ensures rest))))

pub send_entries-returns : goal.send_entries-returns
send_entries-returns g t c =
    let xs = c.deref-key-items in
    let none : drop c.loop-key.key-index xs.result.now ≡ [] = drop_all c.loop-key.key-index xs.result.now (omega arith) in
    rw (← xs.ensures.value) (c.loop-key.invariant _ _ (rw none (takes_only c.end.ensures)))

pub send_fields-returns-in_err-send_key : goal.send_fields-returns-in_err-send_key
send_fields-returns-in_err-send_key g t c =
    let xs = c.deref-key-items in
    let e = drop_here xs.result.now c.loop-key.key-index c.loop-key-item.result c.loop-key-test.true c.loop-key-item.is in
    at_exit_aside _ _ c.from_residual.ensures.1 (rw (← xs.ensures.value) (c.loop-key.invariant _ _ (rw e
    (sends_err _ c.in_err-send_key.ensures))))

pub send_fields-returns-in_err-send : goal.send_fields-returns-in_err-send
send_fields-returns-in_err-send g t c =
    let xs = c.deref-key-items in
    let e = drop_here xs.result.now c.loop-key.key-index c.loop-key-item.result c.loop-key-test.true c.loop-key-item.is in
    at_exit_aside _ _ c.from_residual-in_err-send.ensures.1 (rw (← xs.ensures.value) (c.loop-key.invariant _ _ (rw e
    (sends_then c.in_ok-send_key.ensures (sends_err _ c.in_err-send.ensures)))))

pub send_fields-loop-key-preserved : goal.send_fields-loop-key-preserved
send_fields-loop-key-preserved g t c = λ r new rest.
    let xs = c.deref-key-items in
    let e = drop_here xs.result.now c.loop-key.key-index c.loop-key-item.result c.loop-key-test.true c.loop-key-item.is in
    c.loop-key.invariant r new (rw e (sends_then c.in_ok-send_key.ensures (sends_then c.in_ok-send.ensures rest)))

pub send_fields-returns : goal.send_fields-returns
send_fields-returns g t c =
    let xs = c.deref-key-items in
    let none : drop c.loop-key.key-index xs.result.now ≡ [] = drop_all c.loop-key.key-index xs.result.now (omega arith) in
    rw (← xs.ensures.value) (c.loop-key.invariant _ _ (rw none (takes_only c.end.ensures)))

pub send_sorted-returns-in_err-serialize_map : goal.send_sorted-returns-in_err-serialize_map
send_sorted-returns-in_err-serialize_map g t c =
    let fs = c.args.fields.now.items in
    let n : c.len.result ≡ length c.in_ok-places.places.entries = search rules in
    let count = n ∙ (stands-length fs _ (sorted (map keyed_tree_of fs)) c.in_ok-places.ensures.value ∙ count_text_pairs (sorted (map keyed_tree_of fs))) in
    rw (← keyed_each fs) (at_exit_aside _ _ c.from_residual-in_err-serialize_map.ensures.1 (told_err (λ n. event.map (Some n)) count c.in_err-serialize_map.ensures))

pub send_sorted-returns-in_err-serialize_entry : goal.send_sorted-returns-in_err-serialize_entry
send_sorted-returns-in_err-serialize_entry g t c =
    let fs = c.args.fields.now.items in
    let n : c.len.result ≡ length c.in_ok-places.places.entries = search rules in
    let count = n ∙ (stands-length fs _ (sorted (map keyed_tree_of fs)) c.in_ok-places.ensures.value ∙ count_text_pairs (sorted (map keyed_tree_of fs))) in
    let invariant = c.loop-key.invariant in
    let first = stands_first fs c.loop-key.key-iterator (c.in-Some.key.now, c.in-Some.place.now) c.next.new.self invariant.0 c.in-Some.ensures.steps invariant.1 in
    rw (← keyed_each fs) (at_exit_aside _ _ c.from_residual-in_err-serialize_entry.ensures.1 (told_then (λ n. event.map (Some n)) count c.in_ok-serialize_map.ensures
    (invariant.2 _ _ (entries_end invariant.0 first.0 first.1 first.2 (takes_err c.in_err-serialize_entry.ensures)))))

pub send_sorted-returns-in_err-serialize_str : goal.send_sorted-returns-in_err-serialize_str
send_sorted-returns-in_err-serialize_str g t c =
    let fs = c.args.fields.now.items in
    let n : c.len.result ≡ length c.in_ok-places.places.entries = search rules in
    let count = n ∙ (stands-length fs _ (sorted (map keyed_tree_of fs)) c.in_ok-places.ensures.value ∙ count_text_pairs (sorted (map keyed_tree_of fs))) in
    let invariant = c.loop-key.invariant in
    let first = stands_first fs c.loop-key.key-iterator (c.in-Some.key.now, c.in-Some.place.now) c.next.new.self invariant.0 c.in-Some.ensures.steps invariant.1 in
    rw (← keyed_each fs) (at_exit_aside _ _ c.from_residual-in_err-serialize_str.ensures.1 (told_then (λ n. event.map (Some n)) count c.in_ok-serialize_map.ensures
    (invariant.2 _ _ (entries_end invariant.0 first.0 first.1 first.2
    (takes_then c.in_ok-serialize_entry.ensures (takes_err (rw first.4 at c.in_err-serialize_str.ensures)))))))

pub send_sorted-index-requires : goal.send_sorted-index-requires
send_sorted-index-requires g t c =
    let fs = c.args.fields.now.items in
    let invariant = c.loop-key.invariant in
    let first = stands_first fs c.loop-key.key-iterator (c.in-Some.key.now, c.in-Some.place.now) c.next.new.self invariant.0 c.in-Some.ensures.steps invariant.1 in
    let below = below_from_got keyed_tree_of fs c.in-Some.place.now first.0 first.3 in
    search rules

pub send_sorted-send-requires : goal.send_sorted-send-requires
send_sorted-send-requires g t c κs within =
    let fs = c.args.fields.now.items in
    let invariant = c.loop-key.invariant in
    let first = stands_first fs c.loop-key.key-iterator (c.in-Some.key.now, c.in-Some.place.now) c.next.new.self invariant.0 c.in-Some.ensures.steps invariant.1 in
    let below : c.in-Some.place.now < length fs = below_from_got keyed_tree_of fs c.in-Some.place.now first.0 first.3 in
    let below = below_from_got keyed_tree_of fs c.in-Some.place.now first.0 first.3 in
    let x = c.index.result.now in
    (field_below fs c.in-Some.place.now x c.decreases (λ f. omega arith) below c.index.ensures, within)

pub send_sorted-returns-in_err-send : goal.send_sorted-returns-in_err-send
send_sorted-returns-in_err-send g t c =
    let fs = c.args.fields.now.items in
    let n : c.len.result ≡ length c.in_ok-places.places.entries = search rules in
    let count = n ∙ (stands-length fs _ (sorted (map keyed_tree_of fs)) c.in_ok-places.ensures.value ∙ count_text_pairs (sorted (map keyed_tree_of fs))) in
    let invariant = c.loop-key.invariant in
    let first = stands_first fs c.loop-key.key-iterator (c.in-Some.key.now, c.in-Some.place.now) c.next.new.self invariant.0 c.in-Some.ensures.steps invariant.1 in
    let x = c.index.result.now in
    let same : keyed_tree_of x ≡ first.0 = same_from_got keyed_tree_of fs c.in-Some.place.now x first.0 first.3 c.index.ensures in
    rw (← keyed_each fs) (at_exit_aside _ _ c.from_residual-in_err-send.ensures.1 (told_then (λ n. event.map (Some n)) count c.in_ok-serialize_map.ensures
    (invariant.2 _ _ (entries_end invariant.0 first.0 first.1 first.2
    (takes_then c.in_ok-serialize_entry.ensures (takes_then (rw first.4 at c.in_ok-serialize_str.ensures) (sends_err _ (sends_value x first.0 same c.in_err-send.ensures))))))))

pub send_sorted-loop-key-preserved : goal.send_sorted-loop-key-preserved
send_sorted-loop-key-preserved g t c =
    let fs = c.args.fields.now.items in
    let invariant = c.loop-key.invariant in
    let first = stands_first fs c.loop-key.key-iterator (c.in-Some.key.now, c.in-Some.place.now) c.next.new.self invariant.0 c.in-Some.ensures.steps invariant.1 in
    let x = c.index.result.now in
    let same : keyed_tree_of x ≡ first.0 = same_from_got keyed_tree_of fs c.in-Some.place.now x first.0 first.3 c.index.ensures in (
      first.1,
      first.5,
      λ r new rest. invariant.2 r new (entries_end invariant.0 first.0 first.1 first.2
          (takes_then c.in_ok-serialize_entry.ensures (takes_then (rw first.4 at c.in_ok-serialize_str.ensures) (sends_then (sends_value x first.0 same c.in_ok-send.ensures) rest)))),
    )

pub send_sorted-returns : goal.send_sorted-returns
send_sorted-returns g t c =
    let fs = c.args.fields.now.items in
    let n : c.len.result ≡ length c.in_ok-places.places.entries = search rules in
    let count = n ∙ (stands-length fs _ (sorted (map keyed_tree_of fs)) c.in_ok-places.ensures.value ∙ count_text_pairs (sorted (map keyed_tree_of fs))) in
    let invariant = c.loop-key.invariant in
    let none = stands_none fs c.loop-key.key-iterator invariant.0 c.in-None.ensures.steps.0 invariant.1 in
    rw (← keyed_each fs) (told_then (λ n. event.map (Some n)) count c.in_ok-serialize_map.ensures (invariant.2 _ _ (rw none (takes_only c.end.ensures))))
