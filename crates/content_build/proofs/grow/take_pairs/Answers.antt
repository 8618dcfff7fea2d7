use Rattle.std.proofs.Common.{◌≡◌, ◌-◌, ◌<◌, ap, sym, ◌∙◌, arith, [], ◌∷◌}
use Rattle.content_build.proofs.Forward.{append_pairs}
use Rattle.content_tree.specs.Values.Text.{static_name}
use Rattle.content_tree.specs.Values.Value.{tree_of, pairs_view}
use Rattle.content_build.specs.Inner.Forest.{pairs_near, past}
use Rattle.content_build.specs.Inner.Values.{grown_trees, grown_view}
use Rattle.content_build.proofs.Memory.{nothing}
use Rattle.content_build.proofs.Growing.{grown-pop, pairs-zero, past-zero, past-step, pairs-step}
use Rattle.content_build.proofs.Growing.{pairs-odd, append_pairs-nil}
use Rattle.content_build.proofs.grow.take_pairs.Goals as goal

pub returns-in-None : goal.returns-in-None
returns-in-None c =
    let a = c.in-None.ensures.cases in
    let empty = nothing c.loop-left.grown.items (sym c.loop-left.grown.ok.0 ∙ a.0) in
    let after = nothing c.pop.new.self.items (sym c.pop.new.self.ok.0 ∙ a.1) in
    let ts = pairs_view c.loop-left.pairs.items in (
      sym (append_pairs-nil ts) ∙ (ap (λ f. append_pairs ts (pairs_near c.loop-left.left (grown_trees f))) (sym empty) ∙ c.loop-left.invariant.0),
      ap grown_trees after ∙ (ap (λ f. past c.loop-left.left (grown_trees f)) (sym empty) ∙ c.loop-left.invariant.1),
    )

pub returns-then-left-eq0 : goal.returns-then-left-eq0
returns-then-left-eq0 c =
    let g = c.in-Some.field-0 in
    let e = grown-pop c.loop-left.grown.items c.pop.new.self.items g c.in-Some.ensures.items in
    let s = c.saturating_sub-left.ensures in
    let z : c.loop-left.left - g.size ≡ 0 = omega arith in
    let f = grown_trees c.pop.new.self.items in
    let ts = pairs_view c.loop-left.pairs.items in (
      sym (append_pairs-nil ts) ∙ (ap (append_pairs ts) (sym (pairs-odd c.loop-left.left (static_name g.key.now) (tree_of g.value) g.size f (omega arith) z)) ∙ (ap (λ x. append_pairs ts (pairs_near c.loop-left.left x)) (sym e) ∙ c.loop-left.invariant.0)),
      sym (past-zero f) ∙ (ap (λ m. past m f) (sym z) ∙ (sym (past-step c.loop-left.left (static_name g.key.now) (tree_of g.value) g.size f (omega arith)) ∙ (ap (past c.loop-left.left) (sym e) ∙ c.loop-left.invariant.1))),
    )

pub returns-in-None-pop : goal.returns-in-None-pop
returns-in-None-pop c =
    let g = c.in-Some.field-0 in
    let e = grown-pop c.loop-left.grown.items c.pop.new.self.items g c.in-Some.ensures.items in
    let a = c.in-None-pop.ensures.cases in
    let empty = nothing c.pop.new.self.items (sym c.pop.new.self.ok.0 ∙ a.0) in
    let after = nothing c.pop-in-Some.new.self.items (sym c.pop-in-Some.new.self.ok.0 ∙ a.1) in
    let ts = pairs_view c.loop-left.pairs.items in
    let one = e ∙ ap (λ l. grown_view g ∷ grown_trees l) empty in (
      sym (append_pairs-nil ts) ∙ (ap (λ x. append_pairs ts (pairs_near c.loop-left.left x)) (sym one) ∙ c.loop-left.invariant.0),
      ap grown_trees after ∙ (sym (past-step c.loop-left.left (static_name g.key.now) (tree_of g.value) g.size [] (omega arith)) ∙ (ap (past c.loop-left.left) (sym one) ∙ c.loop-left.invariant.1)),
    )

pub loop-left-preserved : goal.loop-left-preserved
loop-left-preserved c =
    let g = c.in-Some.field-0 in
    let h = c.in-Some-pop.field-0 in
    let f = grown_trees c.pop-in-Some.new.self.items in
    let e = grown-pop c.loop-left.grown.items c.pop.new.self.items g c.in-Some.ensures.items ∙ ap (λ l. grown_view g ∷ l) (grown-pop c.pop.new.self.items c.pop-in-Some.new.self.items h c.in-Some-pop.ensures.items) in
    let s1 = c.saturating_sub-left.ensures in
    let s = c.saturating_sub-left-in-Some-pop.ensures ∙ ap (λ m. m - h.size) s1 in
    let some_left : 0 < c.loop-left.left - g.size = omega arith in
    let ts = pairs_view c.loop-left.pairs.items in (
      ap (λ m. append_pairs (pairs_view c.push_one.new.items.items) (pairs_near m f)) s
          ∙ (pairs-step c.loop-left.pairs.items c.push_one.new.items.items c.loop-left.left g h f (omega arith) some_left c.in_ok-push_one-in-Some-pop.ensures
          ∙ (ap (λ x. append_pairs ts (pairs_near c.loop-left.left x)) (sym e) ∙ c.loop-left.invariant.0)),
      ap (λ m. past m f) s
          ∙ (sym (past-step c.loop-left.left (static_name g.key.now) (tree_of g.value) g.size (grown_view h ∷ f) (omega arith) ∙ past-step (c.loop-left.left - g.size) (static_name h.key.now) (tree_of h.value) h.size f some_left)
          ∙ (ap (past c.loop-left.left) (sym e) ∙ c.loop-left.invariant.1)),
    )

pub returns : goal.returns
returns c =
    let z : c.loop-left.left ≡ 0 = omega arith in
    let ts = pairs_view c.loop-left.pairs.items in
    let f = grown_trees c.loop-left.grown.items in (
      sym (append_pairs-nil ts) ∙ (ap (append_pairs ts) (sym (pairs-zero f)) ∙ (ap (λ m. append_pairs ts (pairs_near m f)) (sym z) ∙ c.loop-left.invariant.0)),
      sym (past-zero f) ∙ (ap (λ m. past m f) (sym z) ∙ c.loop-left.invariant.1),
    )
