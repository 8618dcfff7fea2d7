use Rattle.std.proofs.Common.{◌∙◌, sym, ap, Some, lit<, rules}
use Rattle.std.specs.Option.{is_some}
use Rattle.std.proofs.lemmas.Str.Pattern.{split_parts}
use Rattle.content_tree.proofs.Spelling.{plain_all, cut_spells, cut_slash, cut_none, some_mapped}
use Rattle.content_tree.specs.Values.Paths.{unescape}
use Rattle.content_tree.proofs.path_edits.spells_some.Goals as goal

pub loop-before-preserved : goal.loop-before-preserved
loop-before-preserved c =
    let l = c.loop-before in
    let left = l.left.now in
    let after = c.in-Some.after.now in
    let rest = c.in-Some-after_tilde.rest.now in
    let split = rw c.in-Some.is at (split_parts 126 left c.split_once.result c.split_once.ensures.cases (lit< tt)) in
    let cut = c.in-Some-after_tilde.ensures in (
      l.invariant.0 ∙ (ap is_some (cut_spells left _ after rest c.in-Some-after_tilde._character split.0 l.invariant.1 split.1 cut) ∙ some_mapped _ (unescape rest)),
      cut_slash left _ after rest c.in-Some-after_tilde._character split.0 l.invariant.1 cut,
      search rules,
    )

pub returns-in-None : goal.returns-in-None
returns-in-None c =
    let l = c.loop-before in
    let left = l.left.now in
    let split = rw c.in-Some.is at (split_parts 126 left c.split_once.result c.split_once.ensures.cases (lit< tt)) in
    sym (l.invariant.0 ∙ ap is_some (cut_none left _ c.in-Some.after.now split.0 l.invariant.1 split.1 c.in-None.ensures))

pub returns : goal.returns
returns c =
    let l = c.loop-before in
    let left = l.left.now in
    let none = rw c.in_default.is at (split_parts 126 left c.split_once.result c.split_once.ensures.cases (lit< tt)) in
    sym (l.invariant.0 ∙ ap is_some (plain_all left l.invariant.1 none))
