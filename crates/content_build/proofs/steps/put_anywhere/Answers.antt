use Rattle.std.proofs.Common.{sym, refl, subst}
use Rattle.content_ser.specs.Grammar.Token as token
use Rattle.content_build.specs.Partial.{step_token}
use Rattle.content_build.specs.Inner.Sound.{meaning, Stands}
use Rattle.content_build.specs.Inner.Taken.{TakenTo}
use Rattle.content_build.specs.Inner.Tokens.{leaf_tree}
use Rattle.content_build.proofs.Calling.{the_slots, waiting_whole}
use Rattle.content_build.proofs.steps.put_anywhere.Goals as goal

pub settle-requires : goal.settle-requires
settle-requires c =
    let es = c.args.frames.now.items in
    let hs = c.args.openings.now.items in
    let t = leaf_tree c.args.leaf in
    let (ps, e) = the_slots (meaning es hs) (c.if-not-is_due.ensures.0 refl) in
    (ps, t, waiting_whole ps es c.push_one.new.items.items hs _ t (subst (Stands es hs) e c.requires) c.in_ok-label.ensures refl c.in_ok-push_one.ensures)

pub returns : goal.returns
returns c =
    let es = c.args.frames.now.items in
    let hs = c.args.openings.now.items in
    let t = leaf_tree c.args.leaf in
    let (ps, e) = the_slots (meaning es hs) (c.if-not-is_due.ensures.0 refl) in
    subst (λ s. TakenTo (step_token s (token.leaf t)) c.settle.result c.settle.new.frames.items c.settle.new.openings.items) (sym e)
    (c.settle.ensures ps t (waiting_whole ps es c.push_one.new.items.items hs _ t (subst (Stands es hs) e c.requires) c.in_ok-label.ensures refl c.in_ok-push_one.ensures))
