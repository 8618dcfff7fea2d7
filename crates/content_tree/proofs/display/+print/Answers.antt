use Rattle.std.proofs.Common.{◌++◌, codes, refl, arith, rules}
use Rattle.std.specs.Prelude.{string_bytes}
use Rattle.std.specs.Fmt.{HasWrittenStyled}
use Rattle.std.proofs.Output.{has_written_styled_append, has_written_styled_of_eq}
use Rattle.content_tree.specs.Printed.Images.{printed, printed_data}
use Rattle.content_tree.specs.Images.Found.{image_view, image_data_view, images_view}
use Rattle.content_tree.specs.Images.Found.{image_pairs_view, image_fields_view}
use Rattle.content_tree.specs.Images.Image.{named}
use Rattle.content_tree.proofs.FoundViews.{image_data_view-Struct}
use Rattle.content_tree.proofs.Printing.{drop_here}
use Rattle.content_tree.proofs.Printing.{next_item, next_pair, next_field}
use Rattle.content_tree.proofs.display.+print.Goals as goal

pub write_fields-loop-key-preserved : goal.write_fields-loop-key-preserved
write_fields-loop-key-preserved g t c = (
  search rules,
  λ plain.
      let now = c.loop-key.invariant.1 plain in
      let xs = c.deref-key-items.result.now in
      let x = c.loop-key-item.result in
      let here = drop_here xs c.loop-key.key-index x (omega (arith, c.loop-key-test.true)) c.loop-key-item.is in
      let new = c.loop-key.lead.now ++ (string_bytes x.0 ++ (codes ": " ++ printed (image_view x.1))) in
      (now.0 ++ new, has_written_styled_append _ _ now.0 _ new _ now.1 (search rules), next_field string_bytes image_view image_fields_view (λ x xs. refl) now.0 c.loop-key.lead.now xs c.loop-key.key-index x _ here now.2),
)

pub write_items-loop-item-preserved : goal.write_items-loop-item-preserved
write_items-loop-item-preserved g t c = (
  search rules,
  λ plain.
      let now = c.loop-item.invariant.1 plain in
      let xs = c.deref-item-items.result.now in
      let x = c.item-item.result in
      let here = drop_here xs c.loop-item.item-index x (omega (arith, c.loop-item-test.true)) c.item-item.is in
      let new = c.loop-item.lead.now ++ printed (image_view x) in
      (now.0 ++ new, has_written_styled_append _ _ now.0 _ new _ now.1 (search rules), next_item image_view images_view (λ x xs. refl) now.0 c.loop-item.lead.now xs c.loop-item.item-index x _ here now.2),
)

pub write_pairs-loop-key-preserved : goal.write_pairs-loop-key-preserved
write_pairs-loop-key-preserved g t c = (
  search rules,
  λ plain.
      let now = c.loop-key.invariant.1 plain in
      let xs = c.deref-key-items.result.now in
      let x = c.loop-key-item.result in
      let here = drop_here xs c.loop-key.key-index x (omega (arith, c.loop-key-test.true)) c.loop-key-item.is in
      let key = c.loop-key.lead.now ++ printed (image_view x.0) in
      let value = codes ": " ++ printed (image_view x.1) in
      let first : HasWrittenStyled g.W.Write.write_str_gives c.loop-key.f key c.write_item.new.f = search rules in
      (now.0 ++ (key ++ value), has_written_styled_append _ _ now.0 _ (key ++ value) _ now.1 (has_written_styled_append _ _ key c.write_item.new.f value _ first (search (rules, first.flush))), next_pair image_view image_pairs_view (λ x xs. refl) now.0 c.loop-key.lead.now xs c.loop-key.key-index x _ here now.2),
)

pub write_data-returns-in-Struct : goal.write_data-returns-in-Struct
write_data-returns-in-Struct g t c = λ plain ok.
    has_written_styled_of_eq _ _ (printed_data (named (image_fields_view c.in-Struct.fields.items))) (printed_data (image_data_view c.args.inside.now)) _
    (rw (c.in-Struct.is, image_data_view-Struct c.in-Struct.fields) refl) (search rules)
