-- Scripts sent piece by piece.
use Rattle.std.proofs.Common.{◌≡◌, inl, inr, ℕ, Bool, true, List, [], ◌∷◌, ◌++◌, Option, Some, None}
use Rattle.std.proofs.Common.{Result, Ok, Err, IsErrAnd, refl, sym, ap, subst, ◌∙◌, append_assoc}
use Rattle.std.proofs.Common.{option_and_then}
use Rattle.std.proofs.lemmas.Result.{err_from_is_err_and}
use Rattle.content_tree.specs.declared.error.Error.{Error}
use Rattle.content_ser.specs.Calls.Event.{Event}
use Rattle.content_tree.specs.Errors.Kind.{IsOutOfMemory}
use Rattle.content_ser.specs.Serializers.Step.{Seen, Step, RefusalRule, after_failure, Answer, run}
use Rattle.content_ser.specs.Serializers.Step.{AnswersCall, Takes}
use Rattle.content_ser.specs.Scripts.Script.{Script, done, stop_with, call_then, calls_of, stop_of}
use Rattle.content_ser.specs.Scripts.Script.{and_then}
use Rattle.content_ser.specs.Scripts.Sends.{AnswersScript, AnswersInVain, Sends}
use Rattle.content_ser.specs.Sending.Aside.{answer_of}
use Rattle.content_ser.specs.Laws.ScriptsInTurn.{calls_of_both, stop_of_both, stopped_both}

run_append_at : {S : Type 0} (step : Step S) (xs ys : List Event) (o : Option S)
    → ((s : S) → run step s (xs ++ ys) ≡ option_and_then (λ mid. run step mid ys) (run step s xs))
    → option_and_then (λ mid. run step mid (xs ++ ys)) o ≡ option_and_then (λ mid. run step mid ys) (option_and_then (λ mid. run step mid xs) o)
run_append_at step xs ys None h = refl
run_append_at step xs ys (Some t) h = h t

run_append : {S : Type 0} (step : Step S) (xs ys : List Event) (s : S) → run step s (xs ++ ys) ≡ option_and_then (λ mid. run step mid ys) (run step s xs)
run_append step [] ys s = refl
run_append step (x ∷ xs) ys s = run_append_at step xs ys (step s x) (run_append step xs ys)

-- a beginning of the first script is one of both
more : (a b : Script) → (rest : List Event) × (calls_of (and_then a b) ≡ calls_of a ++ rest)
more done b = (calls_of b, refl)
more (stop_with text) b = ([], refl)
more (call_then c a) b = let m = more a b in (m.0, ap (λ es. c ∷ es) m.1)

-- a call, and then what is sent

sends_after_call : {S : Type 0} (step : Step S) (refuses : RefusalRule S) (old mid new : S) (c : Event) (b : Script) (r : Answer) (failed : Bool)
    → step old c ≡ Some mid → AnswersScript step refuses mid b r failed new → AnswersScript step refuses old (call_then c b) r failed new
sends_after_call step refuses old mid new c b (Ok u) failed e h = (h.0, h.1, ap (option_and_then (λ m. run step m (calls_of b))) e ∙ h.2)
sends_after_call step refuses old mid new c b (Err x) failed e (inl (f, (first, d, rest, last, all, ran, refused))) =
    inl (f, (c ∷ first, d, rest, last, ap (λ es. c ∷ es) all, ap (option_and_then (λ m. run step m first)) e ∙ ran, refused))
sends_after_call step refuses old mid new c b (Err x) failed e (inr (f, inl (text, stops, is, ran))) =
    inr (f, inl (text, stops, is, ap (option_and_then (λ m. run step m (calls_of b))) e ∙ ran))
sends_after_call step refuses old mid new c b (Err x) failed e (inr (f, inr (oom, (first, rest, all, ran)))) =
    inr (f, inr (oom, (c ∷ first, rest, ap (λ es. c ∷ es) all, ap (option_and_then (λ m. run step m first)) e ∙ ran)))

pub takes_then : {S : Type 0} {step : Step S} {refuses : RefusalRule S} {old mid new : Seen S} {c : Event} {u : Unit {0}} {b : Bool → Script} {r : Answer}
    → Takes step refuses old c (Ok u) mid → Sends step refuses mid b r new → Sends step refuses old (λ h. call_then c (b h)) r new
takes_then {step} {refuses} {old} {mid} {new} {c} {u} {b} {r} t s = record {
  readable = s.readable ∙ t.readable;
  when_failed = λ h. absurd (t.when_failed h);
  otherwise = λ h.
      let takes_call = t.otherwise h in
      let later = subst (λ p. AnswersScript step refuses mid.state (b p) r new.failed new.state) t.readable (s.otherwise takes_call.0) in
      sends_after_call step refuses old.state mid.state new.state c (b old.readable) r new.failed takes_call.1 later;
}

takes_err_at : {S : Type 0} (step : Step S) (refuses : RefusalRule S) (old new : S) (c : Event) (b : Script) (x : Error) (failed : Bool)
    → AnswersCall step refuses old c (Err x) failed new → AnswersScript step refuses old (call_then c b) (Err x) failed new
takes_err_at step refuses old new c b x failed (f, refused) = inl (f, ([], c, calls_of b, old, refl, refl, refused))

pub takes_err : {S : Type 0} {step : Step S} {refuses : RefusalRule S} {old new : Seen S} {c : Event} {x : Error} {b : Bool → Script}
    → Takes step refuses old c (Err x) new → Sends step refuses old (λ h. call_then c (b h)) (Err x) new
takes_err {step} {refuses} {old} {new} {c} {x} {b} t = record {
  readable = t.readable;
  when_failed = λ h. let vain = t.when_failed h in (vain.0, inl vain.1);
  otherwise = λ h. takes_err_at step refuses old.state new.state c (b old.readable) x new.failed (t.otherwise h);
}

takes_at : {S : Type 0} (step : Step S) (refuses : RefusalRule S) (old new : S) (c : Event) (r : Answer) (failed : Bool)
    → AnswersCall step refuses old c r failed new → AnswersScript step refuses old (call_then c done) r failed new
takes_at step refuses old new c (Ok u) failed h = (refl, h.0, ap (option_and_then (λ m. run step m [])) h.1)
takes_at step refuses old new c (Err x) failed h = takes_err_at step refuses old new c done x failed h

vain_only : {S : Type 0} (refuses : RefusalRule S) (old new : S) (c : Event) (r : Answer) (failed : Bool)
    → IsErrAnd r (λ e. (failed ≡ true) × refuses after_failure old e new) → (failed ≡ true) × AnswersInVain refuses old (call_then c done) r new
vain_only refuses old new c (Ok u) failed h = absurd h
vain_only refuses old new c (Err x) failed h = (h.0, inl h.1)

pub takes_only : {S : Type 0} {step : Step S} {refuses : RefusalRule S} {old new : Seen S} {c : Event} {r : Answer}
    → Takes step refuses old c r new → Sends step refuses old (λ h. call_then c done) r new
takes_only {step} {refuses} {old} {new} {c} {r} t = record {
  readable = t.readable;
  when_failed = λ h. vain_only refuses old.state new.state c r new.failed (t.when_failed h);
  otherwise = λ h. takes_at step refuses old.state new.state c r new.failed (t.otherwise h);
}

-- a script, and then what is sent

ran_on : {S : Type 0} (step : Step S) (old mid : S) (cs ds : List Event) → run step old cs ≡ Some mid → run step old (cs ++ ds) ≡ run step mid ds
ran_on step old mid cs ds ran = run_append step cs ds old ∙ ap (option_and_then (λ m. run step m ds)) ran

sends_after : {S : Type 0} (step : Step S) (refuses : RefusalRule S) (old mid new : S) (a b : Script) (r : Answer) (failed : Bool)
    → stop_of a ≡ None → run step old (calls_of a) ≡ Some mid → AnswersScript step refuses mid b r failed new → AnswersScript step refuses old (and_then a b) r failed new
sends_after step refuses old mid new a b (Ok u) failed free ran h =
    (stop_of_both a b free ∙ h.0, h.1, ap (run step old) (calls_of_both a b free) ∙ ran_on step old mid (calls_of a) (calls_of b) ran ∙ h.2)
sends_after step refuses old mid new a b (Err x) failed free ran (inl (f, (first, d, rest, last, all, went, refused))) =
    let split = append_assoc (calls_of a) first (d ∷ rest) ∙ ap (λ es. calls_of a ++ es) all ∙ sym (calls_of_both a b free) in
    inl (f, (calls_of a ++ first, d, rest, last, split, ran_on step old mid (calls_of a) first ran ∙ went, refused))
sends_after step refuses old mid new a b (Err x) failed free ran (inr (f, inl (text, stops, is, went))) =
    inr (f, inl (text, stop_of_both a b free ∙ stops, is, ap (run step old) (calls_of_both a b free) ∙ ran_on step old mid (calls_of a) (calls_of b) ran ∙ went))
sends_after step refuses old mid new a b (Err x) failed free ran (inr (f, inr (oom, (first, rest, all, went)))) =
    inr (f, inr (oom, (calls_of a ++ first, rest, append_assoc (calls_of a) first rest ∙ ap (λ es. calls_of a ++ es) all ∙ sym (calls_of_both a b free), ran_on step old mid (calls_of a) first ran ∙ went)))

vain_after : {S : Type 0} (refuses : RefusalRule S) (old mid new : S) (a b : Script) (u : Unit {0}) (r : Answer)
    → AnswersInVain refuses old a (Ok u) mid → AnswersInVain refuses mid b r new → AnswersInVain refuses old (and_then a b) r new
vain_after refuses old mid new done b u r same h = subst (λ m. AnswersInVain refuses m b r new) same h
vain_after refuses old mid new (stop_with text) b u r none h = absurd none
vain_after refuses old mid new (call_then c a) b u r none h = absurd none

pub sends_then : {S : Type 0} {step : Step S} {refuses : RefusalRule S} {old mid new : Seen S} {a : Bool → Script} {u : Unit {0}} {b : Bool → Script} {r : Answer}
    → Sends step refuses old a (Ok u) mid → Sends step refuses mid b r new → Sends step refuses old (λ h. and_then (a h) (b h)) r new
sends_then {step} {refuses} {old} {mid} {new} {a} {u} {b} {r} t s = record {
  readable = s.readable ∙ t.readable;
  when_failed = λ h.
      let before = t.when_failed h in
      let after = s.when_failed before.0 in
      let later = subst (λ p. AnswersInVain refuses mid.state (b p) r new.state) t.readable after.1 in
      (after.0, vain_after refuses old.state mid.state new.state (a old.readable) (b old.readable) u r before.1 later);
  otherwise = λ h.
      let sent = t.otherwise h in
      let later = subst (λ p. AnswersScript step refuses mid.state (b p) r new.failed new.state) t.readable (s.otherwise sent.1) in
      sends_after step refuses old.state mid.state new.state (a old.readable) (b old.readable) r new.failed sent.0 sent.2 later;
}

sends_err_at : {S : Type 0} (step : Step S) (refuses : RefusalRule S) (old new : S) (a b : Script) (x : Error) (failed : Bool)
    → AnswersScript step refuses old a (Err x) failed new → AnswersScript step refuses old (and_then a b) (Err x) failed new
sends_err_at step refuses old new a b x failed (inl (f, (first, d, rest, last, all, ran, refused))) =
    let m = more a b in
    inl (f, (first, d, rest ++ m.0, last, sym (append_assoc first (d ∷ rest) m.0) ∙ ap (λ es. es ++ m.0) all ∙ sym m.1, ran, refused))
sends_err_at step refuses old new a b x failed (inr (f, inl (text, stops, is, went))) =
    let same = stopped_both a b text stops in
    inr (f, inl (text, ap stop_of same ∙ stops, is, ap (λ sc. run step old (calls_of sc)) same ∙ went))
sends_err_at step refuses old new a b x failed (inr (f, inr (oom, (first, rest, all, went)))) =
    let m = more a b in
    inr (f, inr (oom, (first, rest ++ m.0, sym (append_assoc first rest m.0) ∙ ap (λ es. es ++ m.0) all ∙ sym m.1, went)))

-- memory ran out before any call
vain_memory : {S : Type 0} (refuses : RefusalRule S) (old : S) (sc : Script) (x : Error) → IsOutOfMemory x → AnswersInVain refuses old sc (Err x) old
vain_memory refuses old done x oom = (oom, refl)
vain_memory refuses old (stop_with text) x oom = (inr oom, refl)
vain_memory refuses old (call_then c sc) x oom = inr (oom, refl)

vain_err : {S : Type 0} (refuses : RefusalRule S) (old new : S) (a b : Script) (x : Error)
    → AnswersInVain refuses old a (Err x) new → AnswersInVain refuses old (and_then a b) (Err x) new
vain_err refuses old new done b x (oom, same) = subst (λ s. AnswersInVain refuses old b (Err x) s) (sym same) (vain_memory refuses old b x oom)
vain_err refuses old new (stop_with text) b x h = h
vain_err refuses old new (call_then c a) b x h = h

pub sends_err : {S : Type 0} {step : Step S} {refuses : RefusalRule S} {old new : Seen S} {a : Bool → Script} {x : Error} (b : Bool → Script)
    → Sends step refuses old a (Err x) new → Sends step refuses old (λ h. and_then (a h) (b h)) (Err x) new
sends_err {step} {refuses} {old} {new} {a} {x} b t = record {
  readable = t.readable;
  when_failed = λ h. let vain = t.when_failed h in (vain.0, vain_err refuses old.state new.state (a old.readable) (b old.readable) x vain.1);
  otherwise = λ h. sends_err_at step refuses old.state new.state (a old.readable) (b old.readable) x new.failed (t.otherwise h);
}

-- an allocation failed before any call
pub ran_out : {S : Type 0} {step : Step S} {refuses : RefusalRule S} {old : Seen S} {sc : Bool → Script} {x : Error}
    → IsOutOfMemory x → Sends step refuses old sc (Err x) old
ran_out {step} {refuses} {old} {sc} {x} oom = record {
  readable = refl;
  when_failed = λ h. (h, vain_memory refuses old.state (sc old.readable) x oom);
  otherwise = λ h. inr (h, inr (oom, ([], calls_of (sc old.readable), refl, refl)));
}

-- the exit of a `?`
pub at_exit : {S : Type 0} {step : Step S} {refuses : RefusalRule S} {old new : Seen S} {sc : Bool → Script} (r : Answer) (x : Error)
    → IsErrAnd r (λ y. y ≡ x) → Sends step refuses old sc (Err x) new → Sends step refuses old sc r new
at_exit {step} {refuses} {old} {new} {sc} r x is s =
    let p = err_from_is_err_and r is in
    rw (p.1, p.2) s

-- the exit of a `?` whose error is put aside
pub at_exit_aside : {S : Type 0} {X : Type 0} {step : Step S} {refuses : RefusalRule S} {old new : Seen S} {sc : Bool → Script} {error : Error} (r : Result (Unit {0}) X) (x : X)
    → IsErrAnd r (λ y. y ≡ x) → Sends step refuses old sc (Err error) new → Sends step refuses old sc (answer_of r error) new
at_exit_aside {S} {X} {step} {refuses} {old} {new} {sc} {error} r x is s =
    let p = err_from_is_err_and r is in
    rw p.1 s

-- a call that tells a number

pub told_then : {S : Type 0} {step : Step S} {refuses : RefusalRule S} {old mid new : Seen S} {u : Unit {0}} {b : Bool → Script} {r : Answer} {n m : ℕ} (c : ℕ → Event)
    → n ≡ m → Takes step refuses old (c n) (Ok u) mid → Sends step refuses mid b r new → Sends step refuses old (λ h. call_then (c m) (b h)) r new
told_then {step} {refuses} {old} {mid} {u} c e t s = takes_then (subst (λ k. Takes step refuses old (c k) (Ok u) mid) e t) s

pub told_err : {S : Type 0} {step : Step S} {refuses : RefusalRule S} {old new : Seen S} {x : Error} {b : Bool → Script} {n m : ℕ} (c : ℕ → Event)
    → n ≡ m → Takes step refuses old (c n) (Err x) new → Sends step refuses old (λ h. call_then (c m) (b h)) (Err x) new
told_err {step} {refuses} {old} {new} {x} c e t = takes_err (subst (λ k. Takes step refuses old (c k) (Err x) new) e t)

pub ruleset sending = (takes_only, takes_then, takes_err, sends_then, sends_err, ran_out, at_exit)
