use Rattle.std.proofs.Common.{ap, sym, ◌∙◌, Bool, Some, option_map}
use Rattle.content_tree.proofs.Editing.{here, last_at, removed_pairs, unremoved_pairs}
use Rattle.content_tree.specs.Orders.Trees.{same_tree}
use Rattle.content_tree.specs.Values.Tree.{Tree}
use Rattle.content_tree.specs.Values.Value.{tree_of}
use Rattle.content_tree.specs.declared.value.NamedValue.{NamedValue}
use Rattle.content_tree.proofs.edits.remove_equal.Goals as goal

pub returns-in_err-index : goal.returns-in_err-index
returns-in_err-index c =
    let test : Tree → Bool = λ k. same_tree k (tree_of c.args.key.now) in
    let none = rw c.deref.ensures.value at c.in_err-index.ensures in
    (ap (option_map tree_of) c.from_residual.ensures ∙ sym none, unremoved_pairs test c.args.pairs.now.items none)

pub returns : goal.returns
returns c =
    let test : Tree → Bool = λ k. same_tree k (tree_of c.args.key.now) in
    let ps = c.args.pairs.now.items in
    let i = c.in_ok-index.index in
    let last = rw c.deref.ensures.value at c.in_ok-index.ensures in (
      ap (λ (v : NamedValue). Some (tree_of v)) (c.remove_pair.ensures.value here) ∙ sym (last_at test ps i here last),
      removed_pairs test ps _ i last c.remove_pair.ensures.pairs,
    )
