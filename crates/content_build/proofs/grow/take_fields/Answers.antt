use Rattle.std.proofs.Common.{◌≡◌, ◌-◌, ap, sym, ◌∙◌, arith, refl}
use Rattle.content_tree.specs.Values.Text.{static_name}
use Rattle.content_tree.specs.Values.Value.{tree_of, fields_view}
use Rattle.content_build.specs.Inner.Forest.{fields_near, past_fields}
use Rattle.content_build.specs.Inner.Values.{grown_trees}
use Rattle.content_build.proofs.Forward.{append_fields, append_fields-nil}
use Rattle.content_build.proofs.Memory.{nothing}
use Rattle.content_build.proofs.Growing.{grown-pop, fields-zero, past_fields-zero, past_fields-step}
use Rattle.content_build.proofs.Growing.{fields-step}
use Rattle.content_build.proofs.grow.take_fields.Goals as goal

pub returns-in-None : goal.returns-in-None
returns-in-None c =
    let a = c.in-None.ensures.cases in
    let empty = nothing c.loop-left.grown.items (sym c.loop-left.grown.ok.0 ∙ a.0) in
    let after = nothing c.pop.new.self.items (sym c.pop.new.self.ok.0 ∙ a.1) in
    let ts = fields_view c.loop-left.fields.items in (
      sym (append_fields-nil ts) ∙ (ap (λ f. append_fields ts (fields_near c.loop-left.left (grown_trees f))) (sym empty) ∙ c.loop-left.invariant.0),
      ap grown_trees after ∙ (ap (λ f. past_fields c.loop-left.left (grown_trees f)) (sym empty) ∙ c.loop-left.invariant.1),
    )

pub loop-left-preserved : goal.loop-left-preserved
loop-left-preserved c =
    let g = c.in-Some.field-0 in
    let e = grown-pop c.loop-left.grown.items c.pop.new.self.items g c.in-Some.ensures.items in
    let s = c.saturating_sub-left.ensures ∙ ap (λ m. m - 1) c.saturating_sub.ensures in
    let f = grown_trees c.pop.new.self.items in
    let ts = fields_view c.loop-left.fields.items in (
      ap (λ m. append_fields (fields_view c.push_one.new.items.items) (fields_near m f)) s
          ∙ (fields-step c.loop-left.fields.items c.push_one.new.items.items c.loop-left.left g _ f (omega arith) refl c.in_ok-push_one-in-Some.ensures
          ∙ (ap (λ x. append_fields ts (fields_near c.loop-left.left x)) (sym e) ∙ c.loop-left.invariant.0)),
      ap (λ m. past_fields m f) s ∙ (sym (past_fields-step c.loop-left.left (static_name g.key.now) (tree_of g.value) g.size f (omega arith)) ∙ (ap (past_fields c.loop-left.left) (sym e) ∙ c.loop-left.invariant.1)),
    )

pub returns : goal.returns
returns c =
    let z : c.loop-left.left ≡ 0 = omega arith in
    let ts = fields_view c.loop-left.fields.items in
    let f = grown_trees c.loop-left.grown.items in (
      sym (append_fields-nil ts) ∙ (ap (append_fields ts) (sym (fields-zero f)) ∙ (ap (λ m. append_fields ts (fields_near m f)) (sym z) ∙ c.loop-left.invariant.0)),
      sym (past_fields-zero f) ∙ (ap (λ m. past_fields m f) (sym z) ∙ c.loop-left.invariant.1),
    )
