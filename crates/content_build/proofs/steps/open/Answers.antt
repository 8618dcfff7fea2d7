use Rattle.std.proofs.Common.{ap, sym, ◌∙◌, refl, subst}
use Rattle.std.proofs.Common.{rules, Err, []}
use Rattle.content_build.specs.Partial.{step_token}
use Rattle.content_build.specs.Inner.Sound.{meaning, Stands}
use Rattle.content_build.specs.Inner.Steps.{IsDue}
use Rattle.content_build.specs.Inner.Taken.{TakenTo}
use Rattle.content_build.specs.declared.refusal.Refusal.TheVariants as refusal
use Rattle.content_build.proofs.Calling.{the_slots, late_head, stands_open, took}
use Rattle.content_build.proofs.steps.open.Goals as goal

pub returns-then-not-is_due : goal.returns-then-not-is_due
returns-then-not-is_due c call o =
    let es = c.args.frames.now.items in
    let hs = c.args.openings.now.items in
    let late : IsDue (meaning es hs) → ⊥ = λ d. let f = c.if-not-is_due.ensures.1 d in absurd (cc) in
    let (next, begins, st) = o [] in
    subst (λ n. TakenTo n (Err refusal.Misplaced) es hs) (sym (late_head (meaning es hs) call next begins late)) refl

pub returns-in_err-push_one : goal.returns-in_err-push_one
returns-in_err-push_one c call o =
    let (ps, e) = the_slots (meaning c.args.frames.now.items c.args.openings.now.items) (c.if-not-is_due.ensures.0 refl) in
    let (next, begins, st) = o ps in
    let step = ap (λ x. step_token x call) e ∙ begins in
    subst (λ n. TakenTo n c.from_residual.result c.push_one.new.items.items c.args.openings.now.items) (sym step) (search rules)

pub returns-in_err-push_one-2 : goal.returns-in_err-push_one-2
returns-in_err-push_one-2 c call o =
    let (ps, e) = the_slots (meaning c.args.frames.now.items c.args.openings.now.items) (c.if-not-is_due.ensures.0 refl) in
    let (next, begins, st) = o ps in
    let step = ap (λ x. step_token x call) e ∙ begins in
    subst (λ n. TakenTo n c.from_residual-in_err-push_one-2.result c.push_one.new.items.items c.push_one-2.new.items.items) (sym step) (search rules)

pub returns : goal.returns
returns c call o =
    let es = c.args.frames.now.items in
    let hs = c.args.openings.now.items in
    let (ps, e) = the_slots (meaning es hs) (c.if-not-is_due.ensures.0 refl) in
    let (next, begins, st) = o ps in
    took (meaning es hs) call c.push_one.new.items.items c.push_one-2.new.items.items (
      next,
      ap (λ x. step_token x call) e ∙ begins,
      stands_open ps es c.push_one.new.items.items hs c.push_one-2.new.items.items _ _ next (subst (Stands es hs) e c.requires) st refl c.in_ok-push_one.ensures (c.len-at.ensures ∙ c.args.frames.now.ok.0) refl c.in_ok-push_one-2.ensures,
    )
