use Rattle.std.proofs.Common.{◌≡◌, true, IfSome, Ok, sym, subst, ◌∙◌, rules, tests}
use Rattle.content_build.specs.Inner.Sound.{IsKept, meaning, viewed}
use Rattle.content_build.specs.Inner.Taken.{TakesToken}
use Rattle.content_build.specs.Inner.Tokens.{token_view}
use Rattle.content_build.specs.Limit.{fits}
use Rattle.content_build.specs.Partial.{open_count}
use Rattle.content_build.proofs.Calling.{sound_after, now_taken}
use Rattle.content_build.proofs.tape.Tape.take.Goals as goal

pub invariant_of-self-in-Ok : goal.invariant_of-self-in-Ok
invariant_of-self-in-Ok c =
    let es = c.step.new.frames.items in
    let hs = c.step.new.openings.items in
    record { kept = subst (λ failed. IsKept failed es hs) (sym c.if-self.false) (sound_after _ es hs c.in-Ok.ensures) }

pub returns-in-Ok-clause-taken : goal.returns-in-Ok-clause-taken
returns-in-Ok-clause-taken c =
    let es = c.args.self.now.frames.items in
    let hs = c.args.self.now.openings.items in
    let limit = c.args.self.now.limit in
    let call = token_view c.args.call in
    let kept : c.fits.result ≡ true = search (rules, tests) in
    let says = subst (λ failed. IfSome (viewed failed es hs) (λ s. c.fits.result ≡ fits limit (open_count s) call)) c.if-self.false c.fits.ensures in
    subst (λ failed. TakesToken limit (viewed failed es hs) call (Ok tt) (viewed failed c.step.new.frames.items c.step.new.openings.items)) (sym c.if-self.false)
    (now_taken limit (meaning es hs) call c.step.new.frames.items c.step.new.openings.items (sym says ∙ kept) c.in-Ok.ensures)
