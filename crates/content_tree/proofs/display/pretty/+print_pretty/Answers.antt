use Rattle.std.proofs.Common.{[], ◌++◌, codes, refl, arith, rules}
use Rattle.std.specs.Fmt.{HasWrittenStyled}
use Rattle.std.proofs.Output.{has_written_styled_append, has_written_styled_of_eq}
use Rattle.content_tree.specs.Values.Text.{text_content}
use Rattle.content_tree.specs.Values.Value.{tree_data_of, struct_tree, enum_tree}
use Rattle.content_tree.specs.Images.Image.{image, image_data, named}
use Rattle.content_tree.specs.Printed.Pretty.{line, pretty, pretty_data}
use Rattle.content_tree.specs.declared.value.NamedStruct.{out-NamedStruct}
use Rattle.content_tree.specs.declared.value.NamedEnum.{out-NamedEnum}
use Rattle.content_tree.proofs.Views.{tree_data_of-Struct, struct_tree-is, enum_tree-is}
use Rattle.content_tree.proofs.Images.{value_image, items_image, pairs_image, fields_image}
use Rattle.content_tree.proofs.Printing.{drop_here, two_writes, four_writes}
use Rattle.content_tree.proofs.Pretty.{next_item, next_pair, next_field}
use Rattle.content_tree.proofs.display.pretty.+print_pretty.Goals as goal

pub write_fields-loop-key-preserved : goal.write_fields-loop-key-preserved
write_fields-loop-key-preserved g t c = (
  search rules,
  λ plain.
      let now = c.loop-key.invariant.1 plain in
      let n = c.args.level in
      let xs = c.deref-key-items.result.now in
      let x = c.loop-key-item.result in
      let here = drop_here xs c.loop-key.key-index x (omega (arith, c.loop-key-test.true)) c.loop-key-item.is in
      let new = (c.loop-key.lead.now ++ (line n ++ (text_content x.0 ++ codes ": "))) ++ pretty n (value_image x.1) in
      (now.0 ++ new, has_written_styled_append _ _ now.0 _ new _ now.1 (search rules), next_field n now.0 c.loop-key.lead.now xs c.loop-key.key-index x _ here now.2),
)

pub write_items-loop-item-preserved : goal.write_items-loop-item-preserved
write_items-loop-item-preserved g t c = (
  search rules,
  λ plain.
      let now = c.loop-item.invariant.1 plain in
      let n = c.args.level in
      let xs = c.deref-item-items.result.now in
      let x = c.item-item.result in
      let here = drop_here xs c.loop-item.item-index x (omega (arith, c.loop-item-test.true)) c.item-item.is in
      let new = c.loop-item.lead.now ++ (line n ++ pretty n (value_image x)) in
      (now.0 ++ new, has_written_styled_append _ _ now.0 _ new _ now.1 (search rules), next_item n now.0 c.loop-item.lead.now xs c.loop-item.item-index x _ here now.2),
)

pub write_pairs-loop-key-preserved : goal.write_pairs-loop-key-preserved
write_pairs-loop-key-preserved g t c = (
  search rules,
  λ plain.
      let now = c.loop-key.invariant.1 plain in
      let n = c.args.level in
      let xs = c.deref-key-items.result.now in
      let x = c.loop-key-item.result in
      let here = drop_here xs c.loop-key.key-index x (omega (arith, c.loop-key-test.true)) c.loop-key-item.is in
      let key = c.loop-key.lead.now ++ (line n ++ pretty n (value_image x.0)) in
      let value = codes ": " ++ pretty n (value_image x.1) in
      let first : HasWrittenStyled g.W.Write.write_str_gives c.loop-key.f key c.write_item.new.f = search rules in
      (now.0 ++ (key ++ value), has_written_styled_append _ _ now.0 _ (key ++ value) _ now.1 (has_written_styled_append _ _ key c.write_item.new.f value _ first (search (rules, first.flush))), next_pair n now.0 c.loop-key.lead.now xs c.loop-key.key-index x _ here now.2),
)

pub write_pairs-loop-key-init : goal.write_pairs-loop-key-init
write_pairs-loop-key-init g t c = (search rules, λ plain. ([], search rules, refl))

pub write_fields-loop-key-init : goal.write_fields-loop-key-init
write_fields-loop-key-init g t c = (search rules, λ plain. ([], search rules, refl))

pub write_data-returns-in-Struct : goal.write_data-returns-in-Struct
write_data-returns-in-Struct g t c = λ plain ok.
    has_written_styled_of_eq _ _ (pretty_data c.args.level (named (fields_image c.in-Struct.fields.items))) (pretty_data c.args.level (image_data (tree_data_of c.args.inside.now))) _
    (rw (c.in-Struct.is, tree_data_of-Struct c.in-Struct.fields) refl) (search rules)

pub write_struct-returns : goal.write_struct-returns
write_struct-returns g t c = λ plain ok.
    let node = out-NamedStruct c.args.node.now in
    let inside = pretty_data c.args.level (image_data (tree_data_of node.«data»)) in
    has_written_styled_of_eq _ _ (text_content node.name ++ inside) (pretty c.args.level (image (struct_tree c.args.node.now))) _
    (rw (struct_tree-is c.args.node.now) refl) (search (rules, two_writes))

pub write_enum-returns : goal.write_enum-returns
write_enum-returns g t c = λ plain ok.
    let node = out-NamedEnum c.args.node.now in
    let inside = pretty_data c.args.level (image_data (tree_data_of node.«data»)) in
    has_written_styled_of_eq _ _ (text_content node.name ++ (codes "::" ++ (text_content node.variant ++ inside))) (pretty c.args.level (image (enum_tree c.args.node.now))) _
    (rw (enum_tree-is c.args.node.now) refl) (search (rules, four_writes))
