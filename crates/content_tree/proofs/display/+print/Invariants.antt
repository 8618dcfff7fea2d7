use Rattle.std.proofs.Common.{◌≡◌, ℕ, List, [], ◌++◌, drop}
use denote.Text.{Utf8}
use denote.Shadow.{shadow}
use Rattle.std.specs.Fmt.{HasWrittenStyled, IsFlush}
use Rattle.content_tree.specs.Printed.Images.{printed_list, printed_pairs, printed_fields}
use Rattle.content_tree.specs.Images.Found.{images_view, image_pairs_view, image_fields_view}
use Rattle.content_tree.proofs.display.+print.Given as goal

abbrev pub invariant-write_items-loop-item : goal.invariant-write_items-loop-item
invariant-write_items-loop-item g l =
    shadow (Utf8 l.lead) × (IsFlush l.fn.f → (done : List ℕ) × HasWrittenStyled g.W.Write.write_str_gives l.fn.f done l.f
    × (done ++ printed_list l.lead (images_view (drop l.item-index l.item-items)) ≡ printed_list [] (images_view l.item-items)))

abbrev pub invariant-write_pairs-loop-key : goal.invariant-write_pairs-loop-key
invariant-write_pairs-loop-key g l =
    shadow (Utf8 l.lead) × (IsFlush l.fn.f → (done : List ℕ) × HasWrittenStyled g.W.Write.write_str_gives l.fn.f done l.f
    × (done ++ printed_pairs l.lead (image_pairs_view (drop l.key-index l.key-items)) ≡ printed_pairs [] (image_pairs_view l.key-items)))

abbrev pub invariant-write_fields-loop-key : goal.invariant-write_fields-loop-key
invariant-write_fields-loop-key g l =
    shadow (Utf8 l.lead) × (IsFlush l.fn.f → (done : List ℕ) × HasWrittenStyled g.W.Write.write_str_gives l.fn.f done l.f
    × (done ++ printed_fields l.lead (image_fields_view (drop l.key-index l.key-items)) ≡ printed_fields [] (image_fields_view l.key-items)))
