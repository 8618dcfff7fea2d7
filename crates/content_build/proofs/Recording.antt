-- The list of a recorder after a call, and after a script.
use Rattle.std.proofs.Common.{◌≡◌, Bool, true, false, List, [], ◌∷◌, ◌++◌, Some, Ok, Err, refl, sym}
use Rattle.std.proofs.Common.{ap, ◌∙◌, inl, inr, append_assoc, append-nil}
use Rattle.content_tree.specs.Errors.Kind.{kind_of}
use Rattle.content_tree.specs.declared.error.Error.{Error}
use Rattle.content_ser.specs.Calls.Event.{Event}
use Rattle.content_ser.specs.Serializers.Step.{Seen, Answer, Takes, RefusesCall, run}
use Rattle.content_ser.specs.Scripts.Script.{Script, done, stop_with, call_then, calls_of}
use Rattle.content_ser.specs.Scripts.Sends.{AnswersScript, AnswersInVain}
use Rattle.content_build.specs.Recorder.{recorded, refuses, cause, Records, Lists, SentIsListed}

-- a recorder, by its parts
made_of : (new : Seen (List Event)) (s : List Event) (f h : Bool) → new.state ≡ s → new.failed ≡ f → new.readable ≡ h → new ≡ record { state = s; failed = f; readable = h }
made_of new s f h a b c =
    ap (λ (x : List Event). record { state = x; failed = new.failed; readable = new.readable }) a
    ∙ (ap (λ (x : Bool). record { state = s; failed = x; readable = new.readable }) b
    ∙ ap (λ (x : Bool). record { state = s; failed = f; readable = x }) c)

-- the list is kept where a call is refused
kept : (old new : List Event) (c : Event) (x : Error) → RefusesCall recorded refuses old c x new → (kind_of x ≡ cause false) × (new ≡ old)
kept old new c x (inl (none, never)) = absurd never
kept old new c x (inr (some, oom, same)) = same

Some-inj : {A : Type 0} {x y : A} → Some x ≡ Some y → x ≡ y
Some-inj e = cc

-- what the trait says of a call, by cases of the answer
pub records : (old new : Seen (List Event)) (c : Event) (r : Answer) → Takes recorded refuses old c r new → Records old c r new
records old new c (Ok u) t = by_failed old.failed refl
  where
    by_failed : (b : Bool) → old.failed ≡ b → Records old c (Ok u) new
    by_failed true e = absurd (t.when_failed e)
    by_failed false e =
        let taken = t.otherwise e in
        (e, made_of new (old.state ++ c ∷ []) false old.readable (sym (Some-inj taken.1)) taken.0 t.readable)
records old new c (Err x) t = by_failed old.failed refl
  where
    by_failed : (b : Bool) → old.failed ≡ b → Records old c (Err x) new
    by_failed true e =
        let (failed, (why, same)) = t.when_failed e in
        (why ∙ ap cause (sym e), made_of new old.state true old.readable same failed t.readable)
    by_failed false e =
        let (failed, refused) = t.otherwise e in
        let (why, same) = kept old.state new.state c x refused in
        (why ∙ ap cause (sym e), made_of new old.state true old.readable same failed t.readable)

-- the list after a run
run_listed : (old : List Event) (calls : List Event) (new : List Event) → run recorded old calls ≡ Some new → new ≡ old ++ calls
run_listed old [] new e = sym (Some-inj e) ∙ sym (append-nil old)
run_listed old (c ∷ cs) new e = run_listed (old ++ c ∷ []) cs new e ∙ append_assoc old (c ∷ []) cs

-- after a script that was sent in vain
vain_listed : (old new : List Event) (sc : Script) (r : Answer) → AnswersInVain refuses old sc r new → Lists old (calls_of sc) r new
vain_listed old new done (Ok u) same = same ∙ sym (append-nil old)
vain_listed old new (stop_with message) (Ok u) none = absurd none
vain_listed old new (call_then c sc) (Ok u) none = absurd none
vain_listed old new done (Err x) (oom, same) = ([], [], refl, same ∙ sym (append-nil old))
vain_listed old new (stop_with message) (Err x) (why, same) = ([], [], refl, same ∙ sym (append-nil old))
vain_listed old new (call_then c sc) (Err x) (inl (why, same)) = ([], c ∷ calls_of sc, refl, same ∙ sym (append-nil old))
vain_listed old new (call_then c sc) (Err x) (inr (oom, same)) = ([], c ∷ calls_of sc, refl, same ∙ sym (append-nil old))

-- after a script that was sent
fresh_listed : (old new : List Event) (sc : Script) (r : Answer) (failed : Bool) → AnswersScript recorded refuses old sc r failed new → Lists old (calls_of sc) r new
fresh_listed old new sc (Ok u) failed h = run_listed old (calls_of sc) new h.2
fresh_listed old new sc (Err x) failed (inl (f, (made, c, rest, mid, all, ran, refused))) =
    (made, c ∷ rest, all, (kept mid new c x refused).1 ∙ run_listed old made mid ran)
fresh_listed old new sc (Err x) failed (inr (f, inl (text, stops, is, ran))) = (calls_of sc, [], append-nil (calls_of sc), run_listed old (calls_of sc) new ran)
fresh_listed old new sc (Err x) failed (inr (f, inr (oom, (made, rest, all, ran)))) = (made, rest, all, run_listed old made new ran)

pub sent_is_listed : SentIsListed
sent_is_listed old new sc r s = by_failed old.failed refl
  where
    by_failed : (b : Bool) → old.failed ≡ b → Lists old.state (calls_of (sc old.readable)) r new.state
    by_failed true e = vain_listed old.state new.state (sc old.readable) r (s.when_failed e).1
    by_failed false e = fresh_listed old.state new.state (sc old.readable) r new.failed (s.otherwise e)
