use Rattle.std.proofs.Common.{◌≡◌, ◌∷◌, ◌∙◌, ap, Some, None, lit<}
use Rattle.std.proofs.lemmas.Str.Pattern.{strip_prefix_char, find_char}
use Rattle.content_tree.proofs.Cuts.{no_first, none_slash, first_cut, first_last}
use Rattle.content_tree.specs.Values.Paths.{parts_of}
use Rattle.content_tree.proofs.trades.first_piece.Goals as goal

pub returns-in_err-pieces-clause-parts : goal.returns-in_err-pieces-clause-parts
returns-in_err-pieces-clause-parts c =
    let path = c.args.path.now in
    let other = strip_prefix_char 47 path None c.in_err-pieces.ensures.cases (lit< tt) in
    rw c.from_residual.ensures (no_first path other)

pub returns-in-Some-clause-parts : goal.returns-in-Some-clause-parts
returns-in-Some-clause-parts c =
    let path = c.args.path.now in
    let text = c.in_ok-pieces.pieces.now in
    let cut = strip_prefix_char 47 path c.strip_prefix.result c.strip_prefix.ensures.cases (lit< tt) in
    let root : path ≡ 47 ∷ text = rw c.in_ok-pieces.was at cut in
    let at = find_char 47 text (Some c.in-Some.end) c.in-Some.ensures.cases (lit< tt) in
    first_cut path text _ _ c.in-Some.end root at c.split_at.ensures.front c.split_at.ensures.back

pub returns-in-None-clause-parts : goal.returns-in-None-clause-parts
returns-in-None-clause-parts c =
    let path = c.args.path.now in
    let text = c.in_ok-pieces.pieces.now in
    let cut = strip_prefix_char 47 path c.strip_prefix.result c.strip_prefix.ensures.cases (lit< tt) in
    let root : path ≡ 47 ∷ text = rw c.in_ok-pieces.was at cut in
    let none = find_char 47 text None c.in-None.ensures.cases (lit< tt) in
    ap parts_of root ∙ first_last text (none_slash text none)
