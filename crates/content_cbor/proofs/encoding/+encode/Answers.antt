use Rattle.std.proofs.Common.{◌≡◌, ◌++◌, OnOk, refl, ap, ◌∙◌, subst, arith}
use Rattle.content_tree.specs.Values.Value.{tree_data_of, enum_tree, trees_view, pairs_view, fields_view}
use Rattle.content_tree.proofs.Views.{tree_data_of-Struct, enum_tree-is}
use Rattle.content_ser.specs.Sending.TreeScript.{count_pairs, count_fields}
use Rattle.content_cbor.specs.Form.{EachFits, PairsFit, FieldsFit, IsText}
use Rattle.content_cbor.specs.Heads.{head}
use Rattle.content_cbor.specs.Item.{item, text_item, data_item, each_item, pair_items, field_items}
use Rattle.content_cbor.specs.declared.heads.Major.TheVariants as major
use Rattle.content_cbor.proofs.Writing.{ended, then_wrote, all_fit, and_fits, counted, counted_pairs, counted_fields}
use Rattle.content_cbor.proofs.encoding.+encode.Goals as goal

pub write_array-returns-clause-value : goal.write_array-returns-clause-value
write_array-returns-clause-value t c =
    let xs = c.args.items.now in
    let old = c.args.out.now.items in
    ended (λ vs. each_item (trees_view vs)) xs c.loop-item.item-index _ _ refl (omega (arith, c.loop-item-test.false)) c.loop-item.invariant.written
    ∙ ap (λ n. old ++ (head major.Array n ++ each_item (trees_view xs))) (counted xs)

pub write_array-returns-clause-fits : goal.write_array-returns-clause-fits
write_array-returns-clause-fits t c =
    let xs = c.args.items.now in
    (omega (arith, counted xs), all_fit (λ vs. EachFits (trees_view vs)) xs c.loop-item.item-index tt (omega (arith, c.loop-item-test.false)) c.loop-item.invariant.fits)

pub write_map-returns-clause-value : goal.write_map-returns-clause-value
write_map-returns-clause-value t c =
    let xs = c.deref-key-items.result.now in
    let old = c.args.out.now.items in
    ended (λ ps. pair_items (pairs_view ps)) xs c.loop-key.key-index _ _ refl (omega (arith, c.loop-key-test.false)) c.loop-key.invariant.written
    ∙ ap (λ n. old ++ (head major.Map n ++ pair_items (pairs_view xs))) (counted_pairs xs)
    ∙ ap (λ ps. old ++ (head major.Map (count_pairs (pairs_view ps)) ++ pair_items (pairs_view ps))) c.deref-key-items.ensures.value

pub write_map-returns-clause-fits : goal.write_map-returns-clause-fits
write_map-returns-clause-fits t c =
    let xs = c.deref-key-items.result.now in
    let all : PairsFit (pairs_view xs) = all_fit (λ vs. PairsFit (pairs_view vs)) xs c.loop-key.key-index tt (omega (arith, c.loop-key-test.false)) c.loop-key.invariant.fits in
    (omega (arith, counted_pairs c.args.pairs.now.items), subst (λ vs. PairsFit (pairs_view vs)) c.deref-key-items.ensures.value all)

pub write_fields-returns-clause-value : goal.write_fields-returns-clause-value
write_fields-returns-clause-value t c =
    let xs = c.deref-key-items.result.now in
    let old = c.args.out.now.items in
    ended (λ fs. field_items (fields_view fs)) xs c.loop-key.key-index _ _ refl (omega (arith, c.loop-key-test.false)) c.loop-key.invariant.written
    ∙ ap (λ n. old ++ (head major.Map n ++ field_items (fields_view xs))) (counted_fields xs)
    ∙ ap (λ fs. old ++ (head major.Map (count_fields (fields_view fs)) ++ field_items (fields_view fs))) c.deref-key-items.ensures.value

pub write_fields-returns-clause-fits : goal.write_fields-returns-clause-fits
write_fields-returns-clause-fits t c =
    let xs = c.deref-key-items.result.now in
    let all : FieldsFit (fields_view xs) = all_fit (λ vs. FieldsFit (fields_view vs)) xs c.loop-key.key-index tt (omega (arith, c.loop-key-test.false)) c.loop-key.invariant.fits in
    (omega (arith, counted_fields c.args.fields.now.items), subst (λ vs. FieldsFit (fields_view vs)) c.deref-key-items.ensures.value all)

pub write_data-returns-in-Struct-clause-value : goal.write_data-returns-in-Struct-clause-value
write_data-returns-in-Struct-clause-value t c =
    let fs = c.in-Struct.fields in
    let e : head major.Map (count_fields (fields_view fs.items)) ++ field_items (fields_view fs.items) ≡ data_item (tree_data_of c.args.inside.now)
    = rw (c.in-Struct.is, tree_data_of-Struct fs) refl in
    subst (λ bs. OnOk c.write_fields.result (c.write_fields.new.out.items ≡ c.args.out.now.items ++ bs)) e c.write_fields.ensures.value

pub write_data-returns-in-Struct-clause-fits : goal.write_data-returns-in-Struct-clause-fits
write_data-returns-in-Struct-clause-fits t c =
    rw (c.in-Struct.is, tree_data_of-Struct c.in-Struct.fields) c.write_fields.ensures.fits

pub write_variant-returns-in_ok-write_entry_of-in-Struct-clause-value : goal.write_variant-returns-in_ok-write_entry_of-in-Struct-clause-value
write_variant-returns-in_ok-write_entry_of-in-Struct-clause-value t c =
    let fs = c.in-Struct.fields in
    let e : (head major.Map 1 ++ text_item c.as_str-name.result.now) ++ (head major.Map (count_fields (fields_view fs.items)) ++ field_items (fields_view fs.items))
    ≡ item (enum_tree c.args.node.now) = rw (enum_tree-is c.args.node.now, c.in-Struct.is, tree_data_of-Struct fs, c.as_str-name.ensures) refl in
    then_wrote _ _ _ _ _ _ _ c.in_ok-write_entry_of-in-Struct.ensures.value c.write_fields.ensures.value e

pub write_variant-returns-in_ok-write_entry_of-in-Struct-clause-fits : goal.write_variant-returns-in_ok-write_entry_of-in-Struct-clause-fits
write_variant-returns-in_ok-write_entry_of-in-Struct-clause-fits t c =
    let name = subst IsText c.as_str-name.ensures c.in_ok-write_entry_of-in-Struct.ensures.fits in
    rw (enum_tree-is c.args.node.now, c.in-Struct.is, tree_data_of-Struct c.in-Struct.fields) (and_fits _ c.write_fields.result name c.write_fields.ensures.fits)
