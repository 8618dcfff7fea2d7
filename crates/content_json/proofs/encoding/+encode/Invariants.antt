use Rattle.std.proofs.Common.{◌≡◌, ◌++◌, codes, drop, string_bytes}
use denote.Text.{Utf8}
use denote.Shadow.{shadow}
use Rattle.content_tree.specs.Values.Value.{trees_view, pairs_view, fields_view}
use Rattle.content_json.specs.Json.{each_json, field_members, pair_members}
use Rattle.content_json.specs.Keys.{first_bad_each, first_bad_field, first_bad_pair}
use Rattle.content_json.specs.Layout.{line}
use Rattle.content_json.proofs.Writing.{led}
use Rattle.content_json.proofs.encoding.+encode.Given as goal

abbrev pub invariant-write_array-loop-item : goal.invariant-write_array-loop-item
invariant-write_array-loop-item l = record {
  utf8 : shadow (Utf8 l.lead);
  written :
      string_bytes l.out ++ led l.lead (line l.inner) (each_json l.inner (trees_view (drop l.item-index l.items)))
      ≡ string_bytes l.fn.out ++ led (codes "[") (line l.inner) (each_json l.inner (trees_view l.items));
  keys : first_bad_each (trees_view (drop l.item-index l.items)) ≡ first_bad_each (trees_view l.items);
}

abbrev pub invariant-write_map-loop-key : goal.invariant-write_map-loop-key
invariant-write_map-loop-key l = record {
  utf8 : shadow (Utf8 l.lead);
  written :
      string_bytes l.out ++ led l.lead (line l.inner) (pair_members l.inner (pairs_view (drop l.key-index l.key-items)))
      ≡ string_bytes l.fn.out ++ led (codes "{") (line l.inner) (pair_members l.inner (pairs_view l.key-items));
  keys : first_bad_pair (pairs_view (drop l.key-index l.key-items)) ≡ first_bad_pair (pairs_view l.key-items);
}

abbrev pub invariant-write_fields-loop-key : goal.invariant-write_fields-loop-key
invariant-write_fields-loop-key l = record {
  utf8 : shadow (Utf8 l.lead);
  written :
      string_bytes l.out ++ led l.lead (line l.inner) (field_members l.inner (fields_view (drop l.key-index l.key-items)))
      ≡ string_bytes l.fn.out ++ led (codes "{") (line l.inner) (field_members l.inner (fields_view l.key-items));
  keys : first_bad_field (fields_view (drop l.key-index l.key-items)) ≡ first_bad_field (fields_view l.key-items);
}
