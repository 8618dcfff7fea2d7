use Rattle.std.proofs.Common.{◌∙◌, sym, ap, option_map, option_and_then, arith}
use Rattle.content_tree.proofs.Indexes.{found_piece}
use Rattle.content_tree.proofs.Pointing.{item_beyond}
use Rattle.content_tree.specs.Values.Pointers.{item_of}
use Rattle.content_tree.specs.Values.Value.{tree_of, trees_view}
use Rattle.content_tree.proofs.pointer.part_of.Goals as goal

pub returns-in_err-index_of : goal.returns-in_err-index_of
returns-in_err-index_of c =
    let items = c.args.items.now in
    let none = item_beyond items _ (omega arith) c.in_err-index_of.ensures in
    ap (option_map (λ value. tree_of value.now)) c.from_residual.ensures ∙ sym (found_piece c.args.piece.now (trees_view items) ∙ none)

pub returns : goal.returns
returns c =
    let ts = trees_view c.args.items.now in
    c.item_of.ensures ∙ sym (found_piece c.args.piece.now ts ∙ ap (option_and_then (λ n. item_of n ts)) c.in_ok-index_of.ensures)
