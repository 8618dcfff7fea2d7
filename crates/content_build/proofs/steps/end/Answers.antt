use Rattle.std.proofs.Common.{◌≡◌, ◌-◌, suc, ap, sym, ◌∙◌, refl, subst, arith, length, take}
use Rattle.std.proofs.Common.{◌∷◌}
use Rattle.content_ser.specs.Grammar.Token as token
use Rattle.content_build.specs.Partial.{step_token, closed}
use Rattle.content_build.specs.Inner.Cells.{Stood, opened}
use Rattle.content_build.specs.Inner.Frames.{cells_of, opens_view, wait_view}
use Rattle.content_build.specs.Inner.Sound.{meaning}
use Rattle.content_build.specs.Inner.Taken.{TakenTo}
use Rattle.content_build.proofs.Algebra.{arm-close}
use Rattle.content_build.proofs.Calling.{idle, ended}
use Rattle.content_build.proofs.Memory.{opens-last}
use Rattle.content_build.proofs.steps.end.Goals as goal

pub settle-requires : goal.settle-requires
settle-requires c =
    let es = c.args.frames.now.items in
    let hs = c.args.openings.now.items in
    let n = c.len-count.result - 1 in
    let h = c.index-opening.result.now in
    let l : suc n ≡ length hs = omega (arith, c.args.openings.now.ok.0) in
    let w = wait_view h.waits in
    let inner : Stood (cells_of es) (opened h.at h.last w ∷ opens_view (take n hs)) (meaning es hs) = (c.requires.0, sym (opens-last hs n h l c.index-opening.ensures) ∙ c.requires.1) in
    let (k, ps, e, is) = idle (meaning es hs) (cells_of es) h.at h.last w (opens_view (take n hs)) (c.if-not-is_idle.ensures.0 refl) inner in
    let (below, (a, b)) = arm-close k ps (cells_of es) h.at h.last w (opens_view (take n hs)) (subst (Stood (cells_of es) (opened h.at h.last w ∷ opens_view (take n hs))) e inner) in
    (ps, closed k, (c.close.ensures ∙ a, ap opens_view c.truncate.ensures.items ∙ b))

pub returns : goal.returns
returns c =
    let es = c.args.frames.now.items in
    let hs = c.args.openings.now.items in
    let n = c.len-count.result - 1 in
    let h = c.index-opening.result.now in
    let l : suc n ≡ length hs = omega (arith, c.args.openings.now.ok.0) in
    let w = wait_view h.waits in
    let inner : Stood (cells_of es) (opened h.at h.last w ∷ opens_view (take n hs)) (meaning es hs) = (c.requires.0, sym (opens-last hs n h l c.index-opening.ensures) ∙ c.requires.1) in
    let (k, ps, e, is) = idle (meaning es hs) (cells_of es) h.at h.last w (opens_view (take n hs)) (c.if-not-is_idle.ensures.0 refl) inner in
    let (below, (a, b)) = arm-close k ps (cells_of es) h.at h.last w (opens_view (take n hs)) (subst (Stood (cells_of es) (opened h.at h.last w ∷ opens_view (take n hs))) e inner) in
    subst (λ o. TakenTo o c.settle.result c.settle.new.frames.items c.settle.new.openings.items) (sym (ap (λ x. step_token x token.finish) e ∙ ended k ps))
    (c.settle.ensures ps (closed k) (c.close.ensures ∙ a, ap opens_view c.truncate.ensures.items ∙ b))
