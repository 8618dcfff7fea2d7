use Rattle.std.proofs.Common.{Ok, Err, ap, subst, ◌∙◌}
use Rattle.content_ser.specs.Calls.Call.{event_of, events_of}
use Rattle.content_ser.specs.Serializers.Step.{Takes}
use Rattle.content_build.specs.Limit.{step}
use Rattle.content_build.specs.Builder.{seen_of, refuses, Finishes}
use Rattle.content_build.proofs.Headline.{length-events, refused, onward, finished, unfinished}
use Rattle.content_build.proofs.Headline.{whole_run}
use Rattle.content_build.proofs.calls.build.Goals as goal

pub returns-in-Err : goal.returns-in-Err
returns-in-Err c =
    let (standing, run) = c.loop-at.invariant in
    let old = seen_of c.loop-at.builder in
    let new = seen_of c.call.new.self in
    refused c.args.limit c.requires c.args.calls.now c.loop-at.at c.index-calls-at.result old new c.in-Err.error c.loop-at-test.true standing run
    (subst (λ e. Takes step refuses old e (Err c.in-Err.error) new) (c.lend.ensures ∙ ap event_of c.index-calls-at.is) c.in-Err.ensures.taken)

pub loop-at-preserved : goal.loop-at-preserved
loop-at-preserved c =
    let (standing, run) = c.loop-at.invariant in
    let old = seen_of c.loop-at.builder in
    let new = seen_of c.call.new.self in
    onward c.args.limit c.args.calls.now c.loop-at.at c.index-calls-at.result old new c.loop-at-test.true standing run
    (subst (λ e. Takes step refuses old e (Ok tt) new) (c.lend.ensures ∙ ap event_of c.index-calls-at.is) c.in-Ok.ensures.taken)

pub returns-in-Ok-finish : goal.returns-in-Ok-finish
returns-in-Ok-finish c =
    let (standing, run) = c.loop-at.invariant in
    let state = (seen_of c.loop-at.builder).state in
    finished c.args.limit c.requires (events_of c.args.calls.now) state c.in-Ok-finish.value (whole_run c.args.limit c.args.calls.now c.loop-at.at state c.loop-at-test.false run)
    (subst (λ f. Finishes f state.tree (Ok c.in-Ok-finish.value)) standing c.in-Ok-finish.ensures.value)

pub returns-in-Err-finish : goal.returns-in-Err-finish
returns-in-Err-finish c =
    let (standing, run) = c.loop-at.invariant in
    let state = (seen_of c.loop-at.builder).state in
    rw (← length-events c.args.calls.now)
    (unfinished c.args.limit c.requires (events_of c.args.calls.now) state c.in-Err-finish.error (whole_run c.args.limit c.args.calls.now c.loop-at.at state c.loop-at-test.false run)
    (subst (λ f. Finishes f state.tree (Err c.in-Err-finish.error)) standing c.in-Err-finish.ensures.value))
