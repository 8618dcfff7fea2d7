use Rattle.std.proofs.Common.{◌≡◌, ℕ, List, [], ◌++◌, drop}
use denote.Text.{Utf8}
use denote.Shadow.{shadow}
use Rattle.std.specs.Fmt.{HasWrittenStyled, IsFlush}
use Rattle.content_tree.specs.Printed.Pretty.{pretty_list, pretty_pairs, pretty_fields}
use Rattle.content_tree.proofs.Images.{items_image, pairs_image, fields_image}
use Rattle.content_tree.proofs.display.pretty.+print_pretty.Given as goal

abbrev pub invariant-write_items-loop-item : goal.invariant-write_items-loop-item
invariant-write_items-loop-item g l =
    shadow (Utf8 l.lead) × (IsFlush l.fn.f → (done : List ℕ) × HasWrittenStyled g.W.Write.write_str_gives l.fn.f done l.f
    × (done ++ pretty_list l.level l.lead (items_image (drop l.item-index l.item-items)) ≡ pretty_list l.level [] (items_image l.item-items)))

abbrev pub invariant-write_pairs-loop-key : goal.invariant-write_pairs-loop-key
invariant-write_pairs-loop-key g l =
    shadow (Utf8 l.lead) × (IsFlush l.fn.f → (done : List ℕ) × HasWrittenStyled g.W.Write.write_str_gives l.fn.f done l.f
    × (done ++ pretty_pairs l.level l.lead (pairs_image (drop l.key-index l.key-items)) ≡ pretty_pairs l.level [] (pairs_image l.key-items)))

abbrev pub invariant-write_fields-loop-key : goal.invariant-write_fields-loop-key
invariant-write_fields-loop-key g l =
    shadow (Utf8 l.lead) × (IsFlush l.fn.f → (done : List ℕ) × HasWrittenStyled g.W.Write.write_str_gives l.fn.f done l.f
    × (done ++ pretty_fields l.level l.lead (fields_image (drop l.key-index l.key-items)) ≡ pretty_fields l.level [] (fields_image l.key-items)))
