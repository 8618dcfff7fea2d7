-- From the states of a run to what a list of calls is answered, within any limit.
use Rattle.std.proofs.Common.{◌≡◌, ◌≢◌, ℕ, zero, suc, ◌+◌, ◌<◌, ◌≤◌, false, List, [], ◌∷◌, ◌++◌}
use Rattle.std.proofs.Common.{length, take, drop, get_or, Option, Some, None, IsSome, Result, Ok}
use Rattle.std.proofs.Common.{Err, refl, sym, ap, subst, ◌∙◌, arith, append_assoc, append-nil}
use Rattle.std.proofs.Common.{inl, inr, ⊎_elim}
use Rattle.std.proofs.lemmas.List.{take_more, take-append-drop, take_all}
use Rattle.std.proofs.lemmas.Bool.{cases_lt}
use Rattle.content_tree.specs.Errors.Kind.{kind_of, IsOutOfMemory}
use Rattle.content_tree.specs.Values.Tree.{Tree}
use Rattle.content_tree.specs.Values.Value.{tree_of}
use Rattle.content_tree.specs.declared.error.Error.{Error}
use Rattle.content_tree.specs.declared.error.ErrorKind.{ErrorKind}
use Rattle.content_tree.specs.declared.error.ErrorKind.TheVariants.{Unexpected, Custom, OutOfMemory}
use Rattle.content_tree.specs.declared.error.ErrorKind.TheVariants.{Misplaced, Failed, Unfinished}
use Rattle.content_tree.specs.declared.value.NamedValue.{NamedValue}
use Rattle.content_ser.specs.Calls.Call.{event_of, events_of}
use Rattle.content_ser.specs.Calls.Event.{Event}
use Rattle.content_ser.specs.Grammar.Depth.{IsLimit, SpellsWithin, IsWholeWithin, IsViableWithin}
use Rattle.content_ser.specs.Serializers.Step.{Seen, Takes}
use Rattle.content_ser.specs.declared.call.Call.{Call}
use Rattle.content_build.specs.Answers.{IsRefusalWithin, IsAnswerWithin, IfTaken}
use Rattle.content_build.specs.Answers.{IfRefused}
use Rattle.content_build.specs.Builder.{refuses, Finishes}
use Rattle.content_build.specs.Limit.{Limited, fresh_within, step, run}
use Rattle.content_build.specs.Partial.{Partial, due, between, done}
use Rattle.content_build.specs.declared.calls_error.CallsError.{CallsError}
use Rattle.content_build.proofs.Limits.{limited, one_tree, run_from_whole, run_from_viable}
use Rattle.content_build.proofs.Limits.{viable_from_run, whole_from_run}
use Rattle.content_build.proofs.Limits as limits

pub length-events : (calls : List Call) → length (events_of calls) ≡ length calls
length-events [] = refl
length-events (c ∷ cs) = ap suc (length-events cs)

pub events-take : (n : ℕ) (calls : List Call) → events_of (take n calls) ≡ take n (events_of calls)
events-take zero calls = refl
events-take (suc n) [] = refl
events-take (suc n) (c ∷ cs) = ap (λ l. event_of c ∷ l) (events-take n cs)

pub events-get : (calls : List Call) (i : ℕ) (d : Call) → event_of (get_or calls i d) ≡ get_or (events_of calls) i (event_of d)
events-get [] i d = refl
events-get (c ∷ cs) zero d = refl
events-get (c ∷ cs) (suc i) d = events-get cs i d

one_more : (limit : Option ℕ) (calls : List Event) (at : ℕ) (d : Event) (s : Limited) → at < length calls → run (fresh_within limit) (take at calls) ≡ Some s →
    run (fresh_within limit) (take (at + 1) calls) ≡ step s (get_or calls at d)
one_more limit calls at d s h e =
    ap (run (fresh_within limit)) (take_more calls at d h) ∙ limits.one_more (take at calls) (get_or calls at d) (fresh_within limit) s e

-- the run of the calls before this place, and of those up to it
pub run_on : (limit : Option ℕ) (calls : List Call) (at : ℕ) (d : Call) (s : Limited) → at < length calls → run (fresh_within limit) (events_of (take at calls)) ≡ Some s →
    run (fresh_within limit) (events_of (take (at + 1) calls)) ≡ step s (event_of (get_or calls at d))
run_on limit calls at d s h r =
    rw events-take (one_more limit (events_of calls) at (event_of d) s (rw length-events h) (rw events-take at r) ∙ ap (step s) (sym (events-get calls at d)))

-- a call that is refused in this state
pub refused : (limit : Option ℕ) → IsLimit limit → (calls : List Call) (at : ℕ) (d : Call) (old new : Seen Limited) (e : Error) → at < length calls → old.failed ≡ false
    → run (fresh_within limit) (events_of (take at calls)) ≡ Some old.state → Takes step refuses old (event_of (get_or calls at d)) (Err e) new
    → IsRefusalWithin limit (events_of calls) at (kind_of e)
refused limit l calls at d old new e h standing r t = ⊎_elim (λ misplaced. out_of_place misplaced.0 misplaced.1) (λ memory. no_memory memory.0 memory.1) (t.otherwise standing).1
  where
    events : List Event
    events = events_of calls

    before : run (fresh_within limit) (take at events) ≡ Some old.state
    before = rw (← events-take) r

    after : run (fresh_within limit) (take (at + 1) events) ≡ step old.state (event_of (get_or calls at d))
    after = rw (← events-take) (run_on limit calls at d old.state h r)

    out_of_place : step old.state (event_of (get_or calls at d)) ≡ None → kind_of e ≡ Misplaced → IsRefusalWithin limit events at (kind_of e)
    out_of_place none k = subst (IsRefusalWithin limit events at) (sym k) (
      rw length-events h,
      viable_from_run limit l (take at events) old.state before,
      λ v.
          let n = run_from_viable limit l (take (at + 1) events) v in
          let x : Some n.0 ≡ None = sym n.1 ∙ (after ∙ none) in cc,
    )

    reached : (o : Option Limited) → IsSome o → step old.state (event_of (get_or calls at d)) ≡ o → IsViableWithin limit (take (at + 1) events)
    reached None i s = cc
    reached (Some n) i s = viable_from_run limit l (take (at + 1) events) n (after ∙ s)

    no_memory : IsSome (step old.state (event_of (get_or calls at d))) → IsOutOfMemory e → IsRefusalWithin limit events at (kind_of e)
    no_memory i m = subst (IsRefusalWithin limit events at) (sym m) (inl (rw length-events h, reached _ i refl))

-- a call that is taken in this state
pub onward : (limit : Option ℕ) (calls : List Call) (at : ℕ) (d : Call) (old new : Seen Limited) → at < length calls → old.failed ≡ false
    → run (fresh_within limit) (events_of (take at calls)) ≡ Some old.state → Takes step refuses old (event_of (get_or calls at d)) (Ok tt) new
    → (new.failed ≡ false) × (run (fresh_within limit) (events_of (take (at + 1) calls)) ≡ Some new.state)
onward limit calls at d old new h standing r t =
    let taken = t.otherwise standing in
    (taken.0, run_on limit calls at d old.state h r ∙ taken.1)

-- the end of a list
pub finished : (limit : Option ℕ) → IsLimit limit → (calls : List Event) (s : Limited) (v : NamedValue) → run (fresh_within limit) calls ≡ Some s → Finishes false s.tree (Ok v) → SpellsWithin limit calls (tree_of v)
finished limit l calls s v r f = by_state s.tree refl f
  where
    by_state : (p : Partial) → s.tree ≡ p → Finishes false p (Ok v) → SpellsWithin limit calls (tree_of v)
    by_state (due ps) e f = absurd f
    by_state (between c ps) e f = absurd f
    by_state (done t) e f = whole_from_run limit l calls s (tree_of v) r (e ∙ ap done (sym f))

not_whole : (limit : Option ℕ) → IsLimit limit → (calls : List Event) (s : Limited) → run (fresh_within limit) calls ≡ Some s → ((t : Tree) → s.tree ≢ done t) → ¬ IsWholeWithin limit calls
not_whole limit l calls s r n (t, w) =
    let e : Some s ≡ Some (limited limit (done t)) = sym r ∙ run_from_whole limit l calls t w in
    let same : s ≡ limited limit (done t) = cc in
    n t (ap (λ x. x.tree) same)

pub unfinished : (limit : Option ℕ) → IsLimit limit → (calls : List Event) (s : Limited) (e : Error) → run (fresh_within limit) calls ≡ Some s → Finishes false s.tree (Err e) → IsRefusalWithin limit calls (length calls) (kind_of e)
unfinished limit l calls s e r f = by_state s.tree refl f
  where
    by_state : (p : Partial) → s.tree ≡ p → Finishes false p (Err e) → IsRefusalWithin limit calls (length calls) (kind_of e)
    by_state (due ps) x f =
        subst (IsRefusalWithin limit calls (length calls)) (sym f) (refl, viable_from_run limit l calls s r, not_whole limit l calls s r (λ t y. let z : due ps ≡ done t = sym x ∙ y in cc))
    by_state (between c ps) x f =
        subst (IsRefusalWithin limit calls (length calls)) (sym f) (refl, viable_from_run limit l calls s r, not_whole limit l calls s r (λ t y. let z : between c ps ≡ done t = sym x ∙ y in cc))
    by_state (done t) x f = subst (IsRefusalWithin limit calls (length calls)) (sym f) (inr (refl, (t, whole_from_run limit l calls s t r x)))

pub whole_run : (limit : Option ℕ) (calls : List Call) (at : ℕ) (s : Limited) → length calls ≤ at → run (fresh_within limit) (events_of (take at calls)) ≡ Some s → run (fresh_within limit) (events_of calls) ≡ Some s
whole_run limit calls at s h r = rw (take_all at calls h) at r

-- a beginning of what is viable is viable
pub beginning : (limit : Option ℕ) (a b : List Event) → IsViableWithin limit (a ++ b) → IsViableWithin limit a
beginning limit a b (more, (t, w)) = (b ++ more, (t, subst (λ l. SpellsWithin limit l t) (append_assoc a b more) w))

pub beginning_take : (limit : Option ℕ) (n : ℕ) (calls : List Event) → IsViableWithin limit calls → IsViableWithin limit (take n calls)
beginning_take limit n calls v = beginning limit (take n calls) (drop n calls) (subst (IsViableWithin limit) (sym (take-append-drop n calls)) v)

pub take-take : (m n : ℕ) (calls : List Event) → m ≤ n → take m (take n calls) ≡ take m calls
take-take zero n calls h = refl
take-take (suc m) zero calls h = absurd (omega arith)
take-take (suc m) (suc n) [] h = refl
take-take (suc m) (suc n) (c ∷ cs) h = ap (λ l. c ∷ l) (take-take m n cs (omega arith))

pub earlier : (limit : Option ℕ) (m n : ℕ) (calls : List Event) → m ≤ n → IsViableWithin limit (take n calls) → IsViableWithin limit (take m calls)
earlier limit m n calls h v = subst (IsViableWithin limit) (take-take m n calls h) (beginning_take limit m (take n calls) v)

pub viable_whole : (limit : Option ℕ) (calls : List Event) → IsWholeWithin limit calls → IsViableWithin limit calls
viable_whole limit calls (t, w) = ([], (t, subst (λ l. SpellsWithin limit l t) (sym (append-nil calls)) w))

pub whole_only : (limit : Option ℕ) (calls : List Event) (r : Result NamedValue CallsError) (t : Tree) → IsAnswerWithin limit calls r → SpellsWithin limit calls t → IfTaken r t
whole_only limit calls (Ok v) t a w = one_tree limit calls (tree_of v) t a w
whole_only limit calls (Err e) t a w = by_cause (kind_of e.error) a
  where
    by_cause : (k : ErrorKind) → IsRefusalWithin limit calls e.at k → k ≡ OutOfMemory
    by_cause OutOfMemory h = refl
    by_cause (Unexpected found expected) h = absurd h
    by_cause (Custom message) h = absurd h
    by_cause Failed h = absurd h
    by_cause Misplaced h = absurd (h.2 (beginning_take limit (e.at + 1) calls (viable_whole limit calls (t, w))))
    by_cause Unfinished h = absurd (h.2 (t, w))

pub same_place : (limit : Option ℕ) (calls : List Event) (i j : ℕ) → IsViableWithin limit (take i calls) → ¬ IsViableWithin limit (take (i + 1) calls)
    → IsViableWithin limit (take j calls) → ¬ IsViableWithin limit (take (j + 1) calls) → i ≡ j
same_place limit calls i j vi ni vj nj =
    ⊎_elim
    (λ (l : i < j). absurd (ni (earlier limit (i + 1) j calls (omega arith) vj)))
    (λ (l : j ≤ i). ⊎_elim (λ (l2 : j < i). absurd (nj (earlier limit (j + 1) i calls (omega arith) vi))) (λ (l2 : i ≤ j). omega arith) (cases_lt j i))
    (cases_lt i j)

pub misplaced_only : (limit : Option ℕ) (calls : List Event) (r : Result NamedValue CallsError) (i : ℕ) → IsAnswerWithin limit calls r → IsRefusalWithin limit calls i Misplaced → IfRefused r Misplaced i
misplaced_only limit calls (Ok v) i a m = absurd (m.2 (beginning_take limit (i + 1) calls (viable_whole limit calls (tree_of v, a))))
misplaced_only limit calls (Err e) i a m = by_cause (kind_of e.error) refl a
  where
    by_cause : (k : ErrorKind) → kind_of e.error ≡ k → IsRefusalWithin limit calls e.at k → IfRefused {A = NamedValue} (Err e) Misplaced i
    by_cause OutOfMemory x h = inr x
    by_cause (Unexpected found expected) x h = absurd h
    by_cause (Custom message) x h = absurd h
    by_cause Failed x h = absurd h
    by_cause Misplaced x h = inl (x, same_place limit calls e.at i h.1 h.2 m.1 m.2)
    by_cause Unfinished x h = absurd (m.2 (beginning_take limit (i + 1) calls h.1))

pub unfinished_only : (limit : Option ℕ) (calls : List Event) (r : Result NamedValue CallsError) → IsAnswerWithin limit calls r → IsViableWithin limit calls → ¬ IsWholeWithin limit calls → IfRefused r Unfinished (length calls)
unfinished_only limit calls (Ok v) a vi n = absurd (n (tree_of v, a))
unfinished_only limit calls (Err e) a vi n = by_cause (kind_of e.error) refl a
  where
    by_cause : (k : ErrorKind) → kind_of e.error ≡ k → IsRefusalWithin limit calls e.at k → IfRefused {A = NamedValue} (Err e) Unfinished (length calls)
    by_cause OutOfMemory x h = inr x
    by_cause (Unexpected found expected) x h = absurd h
    by_cause (Custom message) x h = absurd h
    by_cause Failed x h = absurd h
    by_cause Misplaced x h = absurd (h.2 (beginning_take limit (e.at + 1) calls vi))
    by_cause Unfinished x h = inl (x, h.0)
