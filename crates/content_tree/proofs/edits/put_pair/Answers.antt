use Rattle.std.proofs.Common.{◌≡◌, ap, sym, ◌∙◌, subst, Bool, Some, get_or, set}
use Rattle.std.specs.Prelude.{IsSome}
use Rattle.content_tree.proofs.Editing.{put_at, put_last, last_at}
use Rattle.content_tree.specs.Orders.Trees.{same_tree}
use Rattle.content_tree.specs.Values.Tree.{Tree}
use Rattle.content_tree.specs.Values.Value.{tree_of, pairs_view}
use Rattle.content_tree.specs.declared.value.NamedValue.{NamedValue}
use Rattle.content_tree.proofs.edits.put_pair.Goals as goal

pub returns-in-Some-clause-pairs : goal.returns-in-Some-clause-pairs
returns-in-Some-clause-pairs c =
    let ps = c.args.pairs.now.items in
    let i = c.in-Some.index in
    let d = c.index_mut.result.now in
    let last = rw c.deref.ensures.value at c.in-Some.ensures in
    ap (λ (p : NamedValue × NamedValue). pairs_view (set ps i (p.0, c.replace.new.dest))) c.index_mut.ensures.value
    ∙ (ap (λ (v : NamedValue). pairs_view (set ps i ((get_or ps i d).0, v))) c.replace.ensures.after
    ∙ put_at c.args.key c.args.value ps i d last)

pub returns-in-Some-clause-replaced : goal.returns-in-Some-clause-replaced
returns-in-Some-clause-replaced c =
    let ps = c.args.pairs.now.items in
    let i = c.in-Some.index in
    let d = c.index_mut.result.now in
    let last = rw c.deref.ensures.value at c.in-Some.ensures in
    ap (λ (v : NamedValue). Some (tree_of v)) (c.replace.ensures.value ∙ ap (λ (p : NamedValue × NamedValue). p.1) c.index_mut.ensures.value)
    ∙ sym (last_at (λ k. same_tree k (tree_of c.args.key)) ps i d last)

pub returns-in_err-push-in-None-clause-in_place : goal.returns-in_err-push-in-None-clause-in_place
returns-in_err-push-in-None-clause-in_place c = λ some.
    let none = rw c.deref.ensures.value at c.in-None.ensures in
    absurd (cc (subst (λ o. IsSome o) none some))

pub returns-clause-pairs : goal.returns-clause-pairs
returns-clause-pairs c =
    let none = rw c.deref.ensures.value at c.in-None.ensures in
    ap pairs_view c.in_ok-push-in-None.ensures.items ∙ put_last c.args.key c.args.value c.args.pairs.now.items none
