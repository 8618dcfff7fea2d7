use Rattle.std.proofs.Common.{None, lit<}
use Rattle.std.proofs.lemmas.Str.Pattern.{strip_prefix_char}
use Rattle.content_tree.proofs.Spelling.{tilde_alone}
use Rattle.content_tree.proofs.path_edits.after_tilde.Goals as goal

pub returns-in_err-rest : goal.returns-in_err-rest
returns-in_err-rest c =
    let after = c.args.after.now in
    let zero = strip_prefix_char 48 after None c.in_default.ensures.cases (lit< tt) in
    let one = strip_prefix_char 49 after None c.in_err-rest.ensures.cases (lit< tt) in
    rw c.from_residual.ensures (tilde_alone after zero one)
