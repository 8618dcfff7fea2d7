use Rattle.std.proofs.Common.{◌≡◌, ap, sym, ◌∙◌, arith}
use Rattle.content_tree.specs.Values.Text.{static_name}
use Rattle.content_tree.specs.Values.Value.{tree_of, trees_view}
use Rattle.content_build.specs.Inner.Forest.{trees_near, past}
use Rattle.content_build.specs.Inner.Values.{grown_trees}
use Rattle.content_build.proofs.Forward.{append_trees, append_trees-nil}
use Rattle.content_build.proofs.Memory.{nothing}
use Rattle.content_build.proofs.Growing.{grown-pop, near-zero, past-zero, past-step, items-step}
use Rattle.content_build.proofs.grow.take_items.Goals as goal

pub returns-in-None : goal.returns-in-None
returns-in-None c =
    let a = c.in-None.ensures.cases in
    let empty = nothing c.loop-left.grown.items (sym c.loop-left.grown.ok.0 ∙ a.0) in
    let after = nothing c.pop.new.self.items (sym c.pop.new.self.ok.0 ∙ a.1) in
    let ts = trees_view c.loop-left.items.items in (
      sym (append_trees-nil ts) ∙ (ap (λ f. append_trees ts (trees_near c.loop-left.left (grown_trees f))) (sym empty) ∙ c.loop-left.invariant.0),
      ap grown_trees after ∙ (ap (λ f. past c.loop-left.left (grown_trees f)) (sym empty) ∙ c.loop-left.invariant.1),
    )

pub loop-left-preserved : goal.loop-left-preserved
loop-left-preserved c =
    let g = c.in-Some.field-0 in
    let e = grown-pop c.loop-left.grown.items c.pop.new.self.items g c.in-Some.ensures.items in
    let s = c.saturating_sub-left.ensures in
    let f = grown_trees c.pop.new.self.items in
    let ts = trees_view c.loop-left.items.items in (
      ap (λ m. append_trees (trees_view c.push_one.new.items.items) (trees_near m f)) s
          ∙ (items-step c.loop-left.items.items c.push_one.new.items.items c.loop-left.left g f (omega arith) c.in_ok-push_one-in-Some.ensures
          ∙ (ap (λ x. append_trees ts (trees_near c.loop-left.left x)) (sym e) ∙ c.loop-left.invariant.0)),
      ap (λ m. past m f) s ∙ (sym (past-step c.loop-left.left (static_name g.key.now) (tree_of g.value) g.size f (omega arith)) ∙ (ap (past c.loop-left.left) (sym e) ∙ c.loop-left.invariant.1)),
    )

pub returns : goal.returns
returns c =
    let z : c.loop-left.left ≡ 0 = omega arith in
    let ts = trees_view c.loop-left.items.items in
    let f = grown_trees c.loop-left.grown.items in (
      sym (append_trees-nil ts) ∙ (ap (append_trees ts) (sym (near-zero f)) ∙ (ap (λ m. append_trees ts (trees_near m f)) (sym z) ∙ c.loop-left.invariant.0)),
      sym (past-zero f) ∙ (ap (λ m. past m f) (sym z) ∙ c.loop-left.invariant.1),
    )
