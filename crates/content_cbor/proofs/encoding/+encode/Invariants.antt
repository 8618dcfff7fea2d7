use Rattle.std.proofs.Common.{◌≡◌, ◌++◌, drop, length}
use Rattle.content_tree.specs.Values.Value.{trees_view, pairs_view, fields_view}
use Rattle.content_cbor.specs.Form.{EachFits, PairsFit, FieldsFit}
use Rattle.content_cbor.specs.Heads.{head}
use Rattle.content_cbor.specs.Item.{each_item, pair_items, field_items}
use Rattle.content_cbor.specs.declared.heads.Major.TheVariants as major
use Rattle.content_cbor.proofs.encoding.+encode.Given as goal

abbrev pub invariant-write_array-loop-item : goal.invariant-write_array-loop-item
invariant-write_array-loop-item l = record {
  written :
      l.out.items ++ each_item (trees_view (drop l.item-index l.items))
      ≡ l.fn.out.items ++ (head major.Array (length l.items) ++ each_item (trees_view l.items));
  fits : EachFits (trees_view (drop l.item-index l.items)) → EachFits (trees_view l.items);
}

abbrev pub invariant-write_map-loop-key : goal.invariant-write_map-loop-key
invariant-write_map-loop-key l = record {
  written :
      l.out.items ++ pair_items (pairs_view (drop l.key-index l.key-items))
      ≡ l.fn.out.items ++ (head major.Map (length l.key-items) ++ pair_items (pairs_view l.key-items));
  fits : PairsFit (pairs_view (drop l.key-index l.key-items)) → PairsFit (pairs_view l.key-items);
}

abbrev pub invariant-write_fields-loop-key : goal.invariant-write_fields-loop-key
invariant-write_fields-loop-key l = record {
  written :
      l.out.items ++ field_items (fields_view (drop l.key-index l.key-items))
      ≡ l.fn.out.items ++ (head major.Map (length l.key-items) ++ field_items (fields_view l.key-items));
  fits : FieldsFit (fields_view (drop l.key-index l.key-items)) → FieldsFit (fields_view l.key-items);
}
