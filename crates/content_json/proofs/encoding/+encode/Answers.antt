use Rattle.std.proofs.Common.{◌++◌, ◌<◌, ◌∙◌, refl, ap, arith, codes, length, string_bytes}
use Rattle.content_tree.specs.Values.Value.{trees_view, pairs_view, fields_view}
use Rattle.content_tree.proofs.Views.{tree_data_of-Struct}
use Rattle.content_json.specs.Json.{each_json, field_members, pair_members}
use Rattle.content_json.specs.Layout.{deeper, object}
use Rattle.content_json.proofs.Writing.{closed, not_empty}
use Rattle.content_json.proofs.encoding.+encode.Goals as goal

pub write_array-returns-clause-value : goal.write_array-returns-clause-value
write_array-returns-clause-value t c =
    closed (λ l vs. each_json l (trees_view vs)) (codes "[") (codes "]") c.loop-item.lead.now (string_bytes c.loop-item.out) _ _ c.args.layout c.in_ok-inner.inner c.args.items.now
    c.loop-item.item-index refl (λ x ys. omega arith) c.in_ok-inner.ensures.value (not_empty _ c.if-is_empty.ensures) c.loop-item-test.false c.loop-item.invariant.written c.in_ok-write_end.ensures

pub write_map-returns-clause-value : goal.write_map-returns-clause-value
write_map-returns-clause-value t c =
    let same = c.deref-key-items.ensures.value in
    let some : 0 < length c.deref-key-items.result.now = omega (arith, ap length same, not_empty _ c.if-is_empty.ensures) in
    closed (λ l ps. pair_members l (pairs_view ps)) (codes "{") (codes "}") c.loop-key.lead.now (string_bytes c.loop-key.out) _ _ c.args.layout c.in_ok-inner.inner c.deref-key-items.result.now
    c.loop-key.key-index refl (λ x ys. omega arith) c.in_ok-inner.ensures.value some c.loop-key-test.false c.loop-key.invariant.written c.in_ok-write_end.ensures
    ∙ ap (λ ps. string_bytes c.args.out.now ++ object c.args.layout (pair_members (deeper c.args.layout) (pairs_view ps))) same

pub write_fields-returns-clause-value : goal.write_fields-returns-clause-value
write_fields-returns-clause-value t c =
    let same = c.deref-key-items.ensures.value in
    let some : 0 < length c.deref-key-items.result.now = omega (arith, ap length same, not_empty _ c.if-is_empty.ensures) in
    closed (λ l fs. field_members l (fields_view fs)) (codes "{") (codes "}") c.loop-key.lead.now (string_bytes c.loop-key.out) _ _ c.args.layout c.in_ok-inner.inner c.deref-key-items.result.now
    c.loop-key.key-index refl (λ x ys. omega arith) c.in_ok-inner.ensures.value some c.loop-key-test.false c.loop-key.invariant.written c.in_ok-write_end.ensures
    ∙ ap (λ fs. string_bytes c.args.out.now ++ object c.args.layout (field_members (deeper c.args.layout) (fields_view fs))) same

pub write_data-returns-in-Struct-clause-value : goal.write_data-returns-in-Struct-clause-value
write_data-returns-in-Struct-clause-value t c = rw (c.in-Struct.is, tree_data_of-Struct c.in-Struct.fields) c.write_fields.ensures.value

pub write_data-returns-in-Struct-clause-keys : goal.write_data-returns-in-Struct-clause-keys
write_data-returns-in-Struct-clause-keys t c = rw (c.in-Struct.is, tree_data_of-Struct c.in-Struct.fields) c.write_fields.ensures.keys

pub write_data-returns-in-Struct-clause-refused : goal.write_data-returns-in-Struct-clause-refused
write_data-returns-in-Struct-clause-refused t c = rw (c.in-Struct.is, tree_data_of-Struct c.in-Struct.fields) c.write_fields.ensures.refused
