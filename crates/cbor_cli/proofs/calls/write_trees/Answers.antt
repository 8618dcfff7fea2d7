use Rattle.std.proofs.Common.{◌≡◌, ◌≤◌, ◌<◌, rules, tests, length, drop, sym, ap, subst, ◌∙◌, Some, None}
use Rattle.std.proofs.lemmas.List.{drop-map, drop-drop}
use Rattle.std.specs.String.{string_bytes}
use Rattle.serde_content.specs.Names.Words.{event_of, events_of}
use Rattle.cbor_cli.specs.Answers.{AddsFirst}
use Rattle.cbor_cli.proofs.Telling.{HasTold, tree_told, refusal_told, all_told, left_events, end_events}
use Rattle.cbor_cli.proofs.calls.write_trees.Goals as goal

pub trees-preserved : goal.trees-preserved
trees-preserved c =
    let form = c.args.form in
    let calls = c.args.calls.now in
    let events = events_of calls in
    let start = c.trees.start in
    let n = c.in-Some.count in
    let old = string_bytes c.args.out.now in
    let out = string_bytes c.trees.out in
    let new = string_bytes c.write_first.new.out in
    let left : events_of c.split_at.result.1.now ≡ drop start events = ap events_of c.split_at.ensures.back ∙ sym (drop-map event_of start calls) in
    let told : AddsFirst form (events_of c.split_at.result.1.now) (Some n) out new = subst (λ told. AddsFirst form (events_of c.split_at.result.1.now) told out new) c.in-Some.is c.in_ok-count.ensures.told in
    record {
      within = search (rules, tests);
      told = subst (λ l. HasTold form events l old new) (drop-drop n start events)
          (tree_told form events (drop start events) old out new n c.trees.invariant.told (subst (λ l. AddsFirst form l (Some n) out new) left told));
    }

pub returns-in-None : goal.returns-in-None
returns-in-None c =
    let form = c.args.form in
    let calls = c.args.calls.now in
    let events = events_of calls in
    let start = c.trees.start in
    let out = string_bytes c.trees.out in
    let new = string_bytes c.write_first.new.out in
    let left : events_of c.split_at.result.1.now ≡ drop start events = ap events_of c.split_at.ensures.back ∙ sym (drop-map event_of start calls) in
    let told = subst (λ told. AddsFirst form (events_of c.split_at.result.1.now) told out new) c.in-None.is c.in_ok-count.ensures.told in
    let less : start < length calls = search (rules, tests) in
    refusal_told form events (drop start events) (string_bytes c.args.out.now) out new c.trees.invariant.told (left_events calls start less) (subst (λ l. AddsFirst form l None out new) left told)

pub returns : goal.returns
returns c =
    let form = c.args.form in
    let calls = c.args.calls.now in
    let ends : length calls ≤ c.trees.start = search (rules, tests) in
    all_told form (events_of calls) (drop c.trees.start (events_of calls)) (string_bytes c.args.out.now) (string_bytes c.trees.out) (end_events calls c.trees.start ends) c.trees.invariant.told
