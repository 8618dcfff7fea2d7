use Rattle.std.proofs.Common.{◌≤◌, ◌+◌, length, take, None, Ok, Err, sym, ap, subst, ◌∙◌, arith}
use Rattle.content_tree.specs.Errors.Kind.{kind_of}
use Rattle.content_ser.specs.Calls.Call.{event_of, events_of}
use Rattle.content_ser.specs.Serializers.Step.{Takes}
use Rattle.content_build.specs.Builder.{seen_of, refuses, Finishes}
use Rattle.content_build.specs.Cuts.{IsCutRefusal}
use Rattle.content_build.specs.Limit.{step}
use Rattle.content_build.proofs.Limits.{viable_from_run}
use Rattle.content_build.proofs.Cutting.{none_after, no_cut_more, cut_refused, cut_here, cut_unmade}
use Rattle.content_build.proofs.Cutting.{open_not_whole, never_cut}
use Rattle.content_build.proofs.Headline.{length-events, events-take, refused, onward}
use Rattle.content_build.proofs.prefix.cut.Goals as goal

pub returns-in-Err : goal.returns-in-Err
returns-in-Err c =
    let (standing, run, none) = c.loop-at.invariant in
    let old = seen_of c.loop-at.builder in
    let new = seen_of c.call.new.self in
    cut_refused (events_of c.args.calls.now) c.loop-at.at (kind_of c.in-Err.error) (rw length-events c.loop-at-test.true) none
    (refused None tt c.args.calls.now c.loop-at.at c.index-calls-at.result old new c.in-Err.error c.loop-at-test.true standing run
    (subst (λ e. Takes step refuses old e (Err c.in-Err.error) new) (c.lend.ensures ∙ ap event_of c.index-calls-at.is) c.in-Err.ensures.taken))

pub loop-at-preserved : goal.loop-at-preserved
loop-at-preserved c =
    let (standing, run, none) = c.loop-at.invariant in
    let old = seen_of c.loop-at.builder in
    let new = seen_of c.call.new.self in
    let events = events_of c.args.calls.now in
    let next = onward None c.args.calls.now c.loop-at.at c.index-calls-at.result old new c.loop-at-test.true standing run
    (subst (λ e. Takes step refuses old e (Ok tt) new) (c.lend.ensures ∙ ap event_of c.index-calls-at.is) c.in-Ok.ensures.taken) in (
      next.0,
      next.1,
      no_cut_more events c.loop-at.at none
          (open_not_whole (take (c.loop-at.at + 1) events) new.state (rw events-take at next.1) (λ z. c.if-open_count-eq0.false (c.open_count.ensures next.0 ∙ z))),
    )

pub returns-in-Ok-finish : goal.returns-in-Ok-finish
returns-in-Ok-finish c =
    let (standing, run, none) = c.loop-at.invariant in
    let old = seen_of c.loop-at.builder in
    let new = seen_of c.call.new.self in
    let calls = c.args.calls.now in
    let taken = subst (λ e. Takes step refuses old e (Ok tt) new) (c.lend.ensures ∙ ap event_of c.index-calls-at.is) c.in-Ok.ensures.taken in
    let next = onward None calls c.loop-at.at c.index-calls-at.result old new c.loop-at-test.true standing run taken in
    let less : c.loop-at.at + 1 ≤ length (events_of calls) = rw length-events (omega arith) in
    cut_here (events_of calls) (c.loop-at.at + 1) new.state c.in-Ok-finish.value less (rw events-take at next.1)
    (none_after old new _ standing taken (sym (c.open_count.ensures next.0) ∙ c.if-open_count-eq0.true))
    (subst (λ f. Finishes f new.state.tree (Ok c.in-Ok-finish.value)) next.0 c.in-Ok-finish.ensures.value)

pub returns-in-Err-finish : goal.returns-in-Err-finish
returns-in-Err-finish c =
    let (standing, run, none) = c.loop-at.invariant in
    let old = seen_of c.loop-at.builder in
    let new = seen_of c.call.new.self in
    let calls = c.args.calls.now in
    let taken = subst (λ e. Takes step refuses old e (Ok tt) new) (c.lend.ensures ∙ ap event_of c.index-calls-at.is) c.in-Ok.ensures.taken in
    let next = onward None calls c.loop-at.at c.index-calls-at.result old new c.loop-at-test.true standing run taken in
    let less : c.loop-at.at + 1 ≤ length (events_of calls) = rw length-events (omega arith) in
    cut_unmade (events_of calls) (c.loop-at.at + 1) new.state c.in-Err-finish.error less (rw events-take at next.1)
    (none_after old new _ standing taken (sym (c.open_count.ensures next.0) ∙ c.if-open_count-eq0.true))
    (subst (λ f. Finishes f new.state.tree (Err c.in-Err-finish.error)) next.0 c.in-Err-finish.ensures.value)

pub returns : goal.returns
returns c =
    let (standing, run, none) = c.loop-at.invariant in
    let calls = c.args.calls.now in
    let events = events_of calls in
    let state = (seen_of c.loop-at.builder).state in
    let ends : length events ≤ c.loop-at.at = rw length-events c.loop-at-test.false in
    subst (IsCutRefusal events (length calls)) (sym c.into.ensures.0)
    (rw (← length-events calls) (never_cut events c.loop-at.at ends none (viable_from_run None tt (take c.loop-at.at events) state (rw events-take at run))))
