use Rattle.std.proofs.Common.{◌≡◌, ◌+◌, ◌∷◌, ◌∙◌, sym, ap, length, arith, lit<, option_map, option_and_then}
use Rattle.std.proofs.lemmas.Iterator.Consumers.{YieldsList-at, YieldsList-turn, YieldsList-end}
use Rattle.std.proofs.lemmas.Iterator.Splits.{YieldsList-from_str_split}
use Rattle.std.proofs.lemmas.List.{length_push}
use Rattle.std.proofs.lemmas.Str.Pattern.{strip_prefix_char}
use Rattle.content_tree.proofs.Following.{value_after, left_after, next_piece, last_piece, no_root}
use Rattle.content_tree.specs.Values.Places.{place_view}
use Rattle.content_tree.specs.Values.Value.{tree_of}
use Rattle.content_tree.proofs.value.NamedValue.pointer.Goals as goal

pub returns-in_err-pieces : goal.returns-in_err-pieces
returns-in_err-pieces c =
    let path = c.args.path.now in
    let cut = strip_prefix_char 47 path c.strip_prefix.result c.strip_prefix.ensures.cases (lit< tt) in
    let other = rw c.in_err-pieces.was at cut in
    ap (option_map (λ value. tree_of value.now)) c.from_residual.ensures
    ∙ sym (no_root path (tree_of c.args.self.now) (grind arith) other)

pub returns-in_err-place : goal.returns-in_err-place
returns-in_err-place c =
    let l = c.loop-piece in
    let path = c.args.path.now in
    let text = c.in_ok-pieces.pieces.now in
    let n = length l.yielded in
    let cut = strip_prefix_char 47 path c.strip_prefix.result c.strip_prefix.ensures.cases (lit< tt) in
    let root : path ≡ 47 ∷ text = rw c.in_ok-pieces.was at cut in
    let split = c.split-piece-items.ensures in
    let pieces = YieldsList-from_str_split 47 text (lit< tt) split.text split.has_more split.pattern in
    let road = YieldsList-at c.into_iter-piece-iterator.ensures.into_iter_gives pieces in
    let turn = YieldsList-turn road l.yielded _ l.yielded_by _ _ c.in-Some.piece c.in-Some.is c.next.ensures.steps in
    let here = l.invariant ∙ next_piece path text n c.in-Some.piece.now (place_view l.place) root turn in
    ap (option_map (λ value. tree_of value.now)) c.from_residual-in_err-place.ensures
    ∙ sym (here ∙ ap (option_and_then (value_after (left_after (n + 1) path))) (sym c.in_err-place.ensures))

pub loop-piece-preserved : goal.loop-piece-preserved
loop-piece-preserved c =
    let l = c.loop-piece in
    let path = c.args.path.now in
    let text = c.in_ok-pieces.pieces.now in
    let n = length l.yielded in
    let cut = strip_prefix_char 47 path c.strip_prefix.result c.strip_prefix.ensures.cases (lit< tt) in
    let root : path ≡ 47 ∷ text = rw c.in_ok-pieces.was at cut in
    let split = c.split-piece-items.ensures in
    let pieces = YieldsList-from_str_split 47 text (lit< tt) split.text split.has_more split.pattern in
    let road = YieldsList-at c.into_iter-piece-iterator.ensures.into_iter_gives pieces in
    let turn = YieldsList-turn road l.yielded _ l.yielded_by _ _ c.in-Some.piece c.in-Some.is c.next.ensures.steps in
    let here = l.invariant ∙ next_piece path text n c.in-Some.piece.now (place_view l.place) root turn in
    here ∙ (ap (option_and_then (value_after (left_after (n + 1) path))) (sym c.in_ok-place.ensures)
    ∙ ap (λ k. value_after (left_after k path) (place_view c.in_ok-place.place)) (sym (length_push l.yielded c.in-Some.piece)))

pub returns : goal.returns
returns c =
    let l = c.loop-piece in
    let path = c.args.path.now in
    let text = c.in_ok-pieces.pieces.now in
    let cut = strip_prefix_char 47 path c.strip_prefix.result c.strip_prefix.ensures.cases (lit< tt) in
    let root : path ≡ 47 ∷ text = rw c.in_ok-pieces.was at cut in
    let split = c.split-piece-items.ensures in
    let pieces = YieldsList-from_str_split 47 text (lit< tt) split.text split.has_more split.pattern in
    let road = YieldsList-at c.into_iter-piece-iterator.ensures.into_iter_gives pieces in
    let all = YieldsList-end road l.yielded _ l.yielded_by _ _ c.in-None.is c.next.ensures.steps in
    c.value_at.ensures ∙ sym (l.invariant ∙ last_piece path text (length l.yielded) (place_view l.place) root (omega (arith, all.1)))
