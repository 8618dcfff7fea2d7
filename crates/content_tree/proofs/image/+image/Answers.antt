use Rattle.std.proofs.Common.{◌≡◌, refl, ◌<◌, length, get_or, map, ap, ◌∙◌, arith, rules}
use Rattle.content_tree.specs.declared.found.Found.TheVariants as Found
use Rattle.content_tree.specs.Images.Found.{image_view, pair_image, field_image}
use Rattle.content_tree.specs.Images.Found.{images_of, image_pairs_of, image_fields_of}
use Rattle.content_tree.proofs.Images.{value_image, value_pair_image, value_field_image}
use Rattle.content_tree.proofs.Images.{items_found, pairs_found, fields_found, number_found, text_found}
use Rattle.content_tree.proofs.Taking.{taken, made_more, all_taken}
use Rattle.content_tree.proofs.Views.{tree_data_of-Struct}
use Rattle.content_tree.proofs.image.+image.Goals as goal
use Rattle.content_tree.proofs.image.+image.Goals.{found_items-in-Number, found_items-in_default+in_ok-found_value-in_default}
use Rattle.content_tree.proofs.image.+image.Goals.{found_fields-in-Number, found_fields-in_default+in_ok-found_value-in_default}
use Rattle.content_tree.proofs.image.+image.Goals.{found_pairs-in-Number, found_pairs-in_default-value+in_ok-found_value-in_default-value}
use Rattle.content_tree.proofs.image.+image.Goals.{found_pairs-in-String+in_ok-take-in-String, found_pairs-in_default+in_ok-key-in_default}

pub found_items-loop-item-preserved : goal.found_items-loop-item-preserved
found_items-loop-item-preserved t c =
    let was = c.loop-item.invariant in
    let i = c.loop-item.item-index in
    let xs = c.loop-item.item-items in
    let ys = c.args.items.now.items in
    let made = c.loop-item.found.items in
    let item = c.item-item.result in
    let below : i < length xs = omega (arith, c.loop-item-test.true) in
    elim c.match-item.branch [
      | found_items-in-Number w ↦
          let is : image_view (Found.Number w.in-Number.number) ≡ value_image (get_or xs i item) = rw w.in-Number.is (number_found w.in-Number.number) in
          let more = made_more value_image image_view xs ys made i item (Found.Number w.in-Number.number) below was.0 is was.3 in
          (rw w.item-items-is (taken i xs ys _ was.0), search (rules, w.found-is), search (rules, w.found-is), rw (w.found-is, w.push_reserved.ensures.items, w.in-Number.number-is) more)
      | found_items-in_default+in_ok-found_value-in_default w ↦
          let ok = w.in_ok-found_value-in_default in
          let more = made_more value_image image_view xs ys made i item ok.field-0 below was.0 (ok.ensures.value) was.3 in
          (rw w.item-items-is (taken i xs ys _ was.0), search (rules, w.found-is), search (rules, w.found-is), rw (w.found-is, w.push_reserved-in_default.ensures.items) more)
    ]

pub found_items-returns : goal.found_items-returns
found_items-returns t c =
    let was = c.loop-item.invariant in
    let ys = c.args.items.now.items in
    let all = all_taken c.loop-item.item-index c.loop-item.item-items ys was.0 (omega (arith, c.loop-item-test.false)) in
    ap images_of was.3 ∙ ap (λ vs. images_of (map value_image vs)) all ∙ items_found ys

pub found_pairs-loop-key-preserved : goal.found_pairs-loop-key-preserved
found_pairs-loop-key-preserved t c =
    let was = c.loop-key.invariant in
    let i = c.loop-key.key-index in
    let xs = c.loop-key.key-items in
    let ys = c.args.pairs.now.items in
    let made = c.loop-key.found.items in
    let item = c.key-item.result in
    let key = c.match-key.key in
    let below : i < length xs = omega (arith, c.loop-key-test.true) in
    let key_is : image_view key ≡ value_image ((get_or xs i item).0) = elim c.match-key.branch [
      | found_pairs-in-String+in_ok-take-in-String w ↦
          let ok = w.in_ok-take-in-String in
          rw (w.key-is, w.in-String.is) (text_found w.in-String.text ok.field-0 (rw w.in-String.text-is at (ok.ensures.value)))
      | found_pairs-in_default+in_ok-key-in_default w ↦ rw w.key-is (w.in_ok-key-in_default.ensures.value)
    ] in
    elim c.match-value.branch [
      | found_pairs-in-Number w ↦
          let value = Found.Number w.in-Number.number in
          let is : image_view value ≡ value_image ((get_or xs i item).1) = rw w.in-Number.is (number_found w.in-Number.number) in
          let more = made_more value_pair_image pair_image xs ys made i item (key, value) below was.0 (λ j. (key_is j, is j)) was.3 in
          (rw w.key-items-is (taken i xs ys _ was.0), search (rules, w.found-is), search (rules, w.found-is), rw (w.found-is, w.push_reserved.ensures.items, w.in-Number.number-is) more)
      | found_pairs-in_default-value+in_ok-found_value-in_default-value w ↦
          let ok = w.in_ok-found_value-in_default-value in
          let more = made_more value_pair_image pair_image xs ys made i item (key, ok.field-0) below was.0 (λ j. (key_is j, ok.ensures.value j)) was.3 in
          (rw w.key-items-is (taken i xs ys _ was.0), search (rules, w.found-is), search (rules, w.found-is), rw (w.found-is, w.push_reserved-in_default-value.ensures.items) more)
    ]

pub found_pairs-returns : goal.found_pairs-returns
found_pairs-returns t c =
    let was = c.loop-key.invariant in
    let ys = c.args.pairs.now.items in
    let all = all_taken c.loop-key.key-index c.loop-key.key-items ys was.0 (omega (arith, c.loop-key-test.false)) in
    ap image_pairs_of was.3 ∙ ap (λ vs. image_pairs_of (map value_pair_image vs)) all ∙ pairs_found ys

pub found_fields-loop-key-preserved : goal.found_fields-loop-key-preserved
found_fields-loop-key-preserved t c =
    let was = c.loop-key.invariant in
    let i = c.loop-key.key-index in
    let xs = c.loop-key.key-items in
    let ys = c.args.fields.now.items in
    let made = c.loop-key.found.items in
    let item = c.loop-key-item.result in
    let key = c.in_ok-key.key in
    let below : i < length xs = omega (arith, c.loop-key-test.true) in
    elim c.match-value.branch [
      | found_fields-in-Number w ↦
          let value = Found.Number w.in-Number.number in
          let is : image_view value ≡ value_image ((get_or xs i item).1) = rw w.in-Number.is (number_found w.in-Number.number) in
          let more = made_more value_field_image field_image xs ys made i item (key, value) below was.0
          (λ j. (c.in_ok-key.ensures.value j, is j)) was.3 in
          (rw w.key-items-is (taken i xs ys _ was.0), search (rules, w.found-is), search (rules, w.found-is), rw (w.found-is, w.push_reserved.ensures.items, w.in-Number.number-is) more)
      | found_fields-in_default+in_ok-found_value-in_default w ↦
          let ok = w.in_ok-found_value-in_default in
          let more = made_more value_field_image field_image xs ys made i item (key, ok.field-0) below was.0
          (λ j. (c.in_ok-key.ensures.value j, ok.ensures.value j)) was.3 in
          (rw w.key-items-is (taken i xs ys _ was.0), search (rules, w.found-is), search (rules, w.found-is), rw (w.found-is, w.push_reserved-in_default.ensures.items) more)
    ]

pub found_fields-returns : goal.found_fields-returns
found_fields-returns t c =
    let was = c.loop-key.invariant in
    let ys = c.args.fields.now.items in
    let all = all_taken c.loop-key.key-index c.loop-key.key-items ys was.0 (omega (arith, c.loop-key-test.false)) in
    ap image_fields_of was.3 ∙ ap (λ vs. image_fields_of (map value_field_image vs)) all ∙ fields_found ys

pub found_data-returns-in_ok-box_fields-in-Struct : goal.found_data-returns-in_ok-box_fields-in-Struct
found_data-returns-in_ok-box_fields-in-Struct t c = grind (rules, tree_data_of-Struct)
