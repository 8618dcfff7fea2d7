use Rattle.std.proofs.Common.{◌≡◌, ◌++◌, ◌∷◌, [], ◌∙◌, sym, ap, Some, List, ℕ, option_map, lit<, rules}
use Rattle.std.specs.Prelude.{string_bytes}
use Rattle.std.proofs.lemmas.Str.Pattern.{split_parts}
use Rattle.content_tree.proofs.Spelling.{map_same, plain_all, cut_spells, cut_slash, cut_none, text_more, none_is}
use Rattle.content_tree.specs.Values.Paths.{unescape}
use Rattle.content_tree.proofs.path_edits.spelled_text.Goals as goal

pub returns-then-not-spells_some : goal.returns-then-not-spells_some
returns-then-not-spells_some c = none_is (unescape c.args.piece.now) c.if-not-spells_some.ensures

pub loop-before-init : goal.loop-before-init
loop-before-init c =
    let o = unescape c.args.piece.now in
    (sym (ap (λ t. option_map (λ part. t ++ part) o) c.new-text.ensures.bytes ∙ map_same o), search rules, search rules)

pub loop-before-preserved : goal.loop-before-preserved
loop-before-preserved c =
    let l = c.loop-before in
    let left = l.left.now in
    let text = string_bytes l.text in
    let before = c.in-Some.before.now in
    let after = c.in-Some.after.now in
    let rest = c.in-Some-after_tilde.rest.now in
    let character = c.in-Some-after_tilde.character in
    let split = rw c.in-Some.is at (split_parts 126 left c.split_once.result c.split_once.ensures.cases (lit< tt)) in
    let cut = c.in-Some-after_tilde.ensures in
    let first = c.in_ok-push_str-in-Some-after_tilde.ensures.bytes in
    let second = c.in_ok-push-in-Some-after_tilde.ensures in
    let made : string_bytes c.push.new.self ≡ (text ++ before) ++ character ∷ [] = second.bytes ∙ (λ i. first i ++ second.ascii cut.1 i) in (
      l.invariant.0 ∙ (ap (option_map (λ part. text ++ part)) (cut_spells left before after rest character split.0 l.invariant.1 split.1 cut)
          ∙ (text_more text before character (unescape rest) ∙ ap (λ t. option_map (λ part. t ++ part) (unescape rest)) (sym made))),
      cut_slash left before after rest character split.0 l.invariant.1 cut,
      search rules,
    )

pub returns-in-None : goal.returns-in-None
returns-in-None c =
    let l = c.loop-before in
    let left = l.left.now in
    let split = rw c.in-Some.is at (split_parts 126 left c.split_once.result c.split_once.ensures.cases (lit< tt)) in
    sym (l.invariant.0 ∙ ap (option_map (λ part. string_bytes l.text ++ part)) (cut_none left _ c.in-Some.after.now split.0 l.invariant.1 split.1 c.in-None.ensures))

pub returns : goal.returns
returns c =
    let l = c.loop-before in
    let left = l.left.now in
    let none = rw c.in_default.is at (split_parts 126 left c.split_once.result c.split_once.ensures.cases (lit< tt)) in
    sym (l.invariant.0 ∙ (ap (option_map (λ part. string_bytes l.text ++ part)) (plain_all left l.invariant.1 none) ∙ ap Some (sym c.in_ok-push_str.ensures.bytes)))
