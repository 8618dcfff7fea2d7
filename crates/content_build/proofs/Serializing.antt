-- What is serialised to a new builder, within any limit.
use Rattle.std.proofs.Common.{◌≡◌, ℕ, suc, arith, ◌≤◌, Bool, false, List, [], ◌∷◌, ◌++◌, Option, Some}
use Rattle.std.proofs.Common.{None}
use Rattle.std.proofs.Common.{Result, Ok, Err, IsErrAnd, refl, sym, subst, ap, ◌∙◌, inl, inr}
use Rattle.std.proofs.Common.{⊎_elim}
use Rattle.std.proofs.Common.{append_assoc, append-nil}
use Rattle.content_tree.specs.declared.error.Error.{Error}
use Rattle.content_tree.specs.Values.Value.{tree_of}
use Rattle.content_tree.specs.declared.value.NamedValue.{NamedValue}
use Rattle.content_ser.specs.Calls.Event.{Event}
use Rattle.content_ser.specs.Grammar.Depth.{IsLimit, SpellsWithin, IsWholeWithin, IsViableWithin}
use Rattle.content_ser.specs.Grammar.Spells.{IsWhole, Spells}
use Rattle.content_ser.specs.Grammar.Token.{tokens}
use Rattle.content_ser.specs.Scripts.Direct as direct
use Rattle.content_ser.specs.Scripts.Direct.{Spelled, TheTree}
use Rattle.content_ser.specs.Serializers.Step.{Seen}
use Rattle.content_ser.specs.Scripts.Script.{Script, calls_of, stop_of, IsLawful}
use Rattle.content_ser.specs.Scripts.Sends.{Sends, AnswersScript, Halted, Stopped}
use Rattle.content_build.specs.Builder.{refuses, Finishes}
use Rattle.content_build.specs.Limit.{Limited, fresh_within, run, step}
use Rattle.content_build.specs.Partial.{done}
use Rattle.content_build.specs.Serializer.{Serialized, SerializedWithin}
use Rattle.content_build.proofs.Agreement.{unique_cut}
use Rattle.content_build.proofs.Headline.{beginning}
use Rattle.content_build.proofs.Limits.{limited, spelled, run_from_whole}
use Rattle.content_build.proofs.Limits.{viable_from_run, never_viable}

-- a call of viable calls is never out of place
never_misplaced : (limit : Option ℕ) → IsLimit limit → (calls made rest : List Event) (c : Event) (mid : Limited) → made ++ c ∷ rest ≡ calls
    → run (fresh_within limit) made ≡ Some mid → step mid c ≡ None → ¬ IsViableWithin limit calls
never_misplaced limit l calls made rest c mid split ran none viable =
    never_viable limit l made c mid ran none (beginning limit (made ++ c ∷ []) rest (subst (IsViableWithin limit) (sym (append_assoc made (c ∷ []) rest ∙ split)) viable))

halted : (limit : Option ℕ) → IsLimit limit → (sc : Script) (e : Error) (new : Limited) → Halted step refuses (fresh_within limit) (calls_of sc) e new → SerializedWithin limit sc (Err e)
halted limit l sc e new (made, c, rest, mid, split, ran, refused) =
    ⊎_elim
    (λ misplaced. inr (inr (misplaced.1, never_misplaced limit l (calls_of sc) made rest c mid split ran misplaced.0)))
    (λ memory. inl memory.1)
    refused

refused : (limit : Option ℕ) → IsLimit limit → (sc : Script) (e : Error) (failed : Bool) (new : Limited) → AnswersScript step refuses (fresh_within limit) sc (Err e) failed new → SerializedWithin limit sc (Err e)
refused limit l sc e failed new sent =
    ⊎_elim
    (λ f. halted limit l sc e new f.1)
    (λ k. ⊎_elim
    (λ (s : Stopped step (fresh_within limit) sc e new). inr (inl (s.0, s.1, s.2, viable_from_run limit l (calls_of sc) new s.3)))
    (λ m. inl m.0)
    k.1)
    sent

-- a whole list that is viable within a limit is whole within it
whole_within : (limit : Option ℕ) (calls : List Event) → IsWhole calls → IsViableWithin limit calls → IsWholeWithin limit calls
whole_within limit calls whole (more, (t, w)) =
    let none = unique_cut calls more whole (t, spelled limit (calls ++ more) t w) in
    (t, subst (λ l. SpellsWithin limit l t) (ap (λ m. calls ++ m) none ∙ append-nil calls) w)

-- a script that was taken whole, and then finished
finished : (limit : Option ℕ) → IsLimit limit → (sc : Script) (state : Limited) (r : Result NamedValue Error) → IsLawful sc → stop_of sc ≡ None → run (fresh_within limit) (calls_of sc) ≡ Some state → Finishes false state.tree r
    → SerializedWithin limit sc r
finished limit l sc state r lawful none ran f =
    let calls = calls_of sc in
    let whole = whole_within limit calls (lawful.whole none) (viable_from_run limit l calls state ran) in
    let same : Some (limited limit (done whole.0)) ≡ Some state = sym (run_from_whole limit l calls whole.0 whole.1) ∙ ran in
    let here : limited limit (done whole.0) ≡ state = cc in
    ends r whole.0 whole.1 (subst (λ s. Finishes false s.tree r) (sym here) f)
  where
    ends : (q : Result NamedValue Error) (t : _) → SpellsWithin limit (calls_of sc) t → Finishes false (done t) q → SerializedWithin limit sc q
    ends (Ok v) t w e = (none, subst (SpellsWithin limit (calls_of sc)) (sym e) w)
    ends (Err e) t w m = inl m

-- the exit of a `?`
exit : (limit : Option ℕ) (sc : Script) (r : Result NamedValue Error) (e : Error) → IsErrAnd r (λ x. x ≡ e) → SerializedWithin limit sc (Err e) → SerializedWithin limit sc r
exit limit sc (Ok v) e is s = absurd is
exit limit sc (Err x) e is s = subst (λ y. SerializedWithin limit sc (Err y)) (sym is) s

-- a script that a new builder refused, or that stopped
pub sends_err : (limit : Option ℕ) → IsLimit limit → (sc : Bool → Script) (readable : Bool) (old new : Seen Limited) (e : Error) (r : Result NamedValue Error) → ((b : Bool) → IsLawful (sc b))
    → old ≡ record { state = fresh_within limit; failed = false; readable = readable } → Sends step refuses old sc (Err e) new → IsErrAnd r (λ x. x ≡ e) → SerializedWithin limit (sc readable) r
sends_err limit l sc readable old new e r lawful is sent same =
    let s = subst (λ o. Sends step refuses o sc (Err e) new) is sent in
    exit limit (sc readable) r e same (refused limit l (sc readable) e new.failed new.state (s.otherwise refl))

-- a script that a new builder took whole
pub sends_ok : (limit : Option ℕ) → IsLimit limit → (sc : Bool → Script) (readable : Bool) (old new : Seen Limited) (u : Unit {0}) (r : Result NamedValue Error) → ((b : Bool) → IsLawful (sc b))
    → old ≡ record { state = fresh_within limit; failed = false; readable = readable } → Sends step refuses old sc (Ok u) new → Finishes new.failed new.state.tree r → SerializedWithin limit (sc readable) r
sends_ok limit l sc readable old new u r lawful is sent f =
    let s = subst (λ o. Sends step refuses o sc (Ok u) new) is sent in
    let t = s.otherwise refl in
    finished limit l (sc readable) new.state r (lawful readable) t.0 t.2 (subst (λ b. Finishes b new.state.tree r) t.1 f)

-- without a limit no call is out of place
pub without_limit : (sc : Script) (r : Result NamedValue Error) → IsLawful sc → SerializedWithin None sc r → Serialized sc r
without_limit sc (Ok v) lawful s = s
without_limit sc (Err e) lawful s = ⊎_elim (λ m. inl m) (λ k. ⊎_elim (λ x. inr (x.0, x.1, x.2)) (λ x. absurd (x.1 lawful.viable)) k) s

-- what is serialised without a limit
pub unlimited : (limit : Option ℕ) (sc : Script) (r : Result NamedValue Error) → IsLawful sc → (IsLimit limit → SerializedWithin limit sc r) → limit ≡ None → Serialized sc r
unlimited None sc r lawful s e = without_limit sc r lawful (s tt)
unlimited (Some n) sc r lawful s e = absurd (cc)

-- what is serialised within a limit
pub within : (limit : Option ℕ) (sc : Script) (r : Result NamedValue Error) → (IsLimit limit → SerializedWithin limit sc r) → (n : ℕ) → limit ≡ Some n → 1 ≤ n → SerializedWithin (Some n) sc r
within None sc r s n e l = absurd (cc)
within (Some m) sc r s n e l = let same : m ≡ n = cc in subst (λ k. SerializedWithin (Some k) sc r) same (s (subst (λ k. 1 ≤ k) (sym same) l))

-- what is made with no calls
pub made_whole : {room : ℕ} {sc : Script} {v : NamedValue} → Spelled room sc (Ok v) → Serialized sc (Ok v)
made_whole {room} {sc} {v} (direct.made m) = (m.0, subst (λ ks. Spells ks (tree_of v) []) (append-nil (tokens (calls_of sc))) (m.1 []).0)

-- the same within a limit
pub made_within : {room limit : ℕ} {sc : Script} {v : NamedValue} → suc room ≡ limit → Spelled room sc (Ok v) → SerializedWithin (Some limit) sc (Ok v)
made_within {room} {limit} {sc} {v} fits (direct.made m) =
    let whole = subst (λ ks. TheTree room (tree_of v) ks []) (append-nil (tokens (calls_of sc))) (m.1 []) in
    (m.0, (whole.0, whole.1 limit 1 (omega (arith, fits))))
