-- The machine and the grammar agree within any limit.
use Rattle.std.proofs.Common.{◌≡◌, ℕ, ◌+◌, nat_lt, Bool, true, false, cond, List, [], ◌∷◌, ◌++◌}
use Rattle.std.proofs.Common.{length, Option, Some, None, IfSome, IsSome, option_map, refl, sym, ap}
use Rattle.std.proofs.Common.{◌∙◌, option_and_then, add-one}
use Rattle.std.proofs.lemmas.Bool.{lt-ltb}
use Rattle.content_tree.specs.Values.Tree as tree
use Rattle.content_tree.specs.Values.Tree.{Tree}
use Rattle.content_ser.specs.Calls.Event.{Event}
use Rattle.content_ser.specs.Grammar.Depth.{IsLimit, SpellsWithin, IsViableWithin}
use Rattle.content_ser.specs.Grammar.Spells.{SpellsWhole}
use Rattle.content_ser.specs.Grammar.Token as token
use Rattle.content_ser.specs.Grammar.Token.{Token, leaf, wrap, open_series, open_map, open_record}
use Rattle.content_ser.specs.Grammar.Token.{finish, wrapped, tokens, item_call, ItemCall}
use Rattle.content_build.specs.Limit.{Limited, fits, step_within, step, fresh_within, run}
use Rattle.content_build.specs.Partial as partial
use Rattle.content_build.specs.Partial.{Partial, Slot, due, between, done, in_series, in_map}
use Rattle.content_build.specs.Partial.{in_record}
use Rattle.content_build.specs.Partial.{child, element, key, value, entry_key, entry_value}
use Rattle.content_build.specs.Partial.{field_value, fill, next_item, step_token}
use Rattle.content_build.specs.Partial.{open_count}
use Rattle.content_build.proofs.Forward.{run_tokens, run-spells}
use Rattle.content_build.proofs.Backward.{run-of_kinds, whole_from_run as spelled_from_run}
use Rattle.content_build.proofs.Agreement.{closing, closing_places, one_tree as one_whole_tree}
use Rattle.content_build.proofs.Within.{allows, has_room, roomy, step_roomy, run_roomy, room-fill}
use Rattle.content_build.proofs.Within.{pass, one-less, within-spells}
use Rattle.content_build.proofs.WithinBack.{kept_from_run}

-- this partial tree within the limit
abbrev pub limited : Option ℕ → Partial → Limited
limited limit s = record { limit = limit; tree = s }

room-none : (s : Partial) → has_room None s ≡ true
room-none (due ps) = refl
room-none (between c ps) = refl
room-none (done t) = refl

room-any : (o : Option Partial) → IfSome o (λ n. true ≡ has_room None n)
room-any None = tt
room-any (Some n) = sym (room-none n)

room-item : (limit : ℕ) (ps : List Slot) (p : Slot) (x y : ItemCall) → IfSome (next_item x y (due (p ∷ ps))) (λ n. nat_lt (length ps + 1) limit ≡ has_room (Some limit) n)
room-item limit ps p token.element token.element = ap (λ c. nat_lt c limit) (add-one (length ps))
room-item limit ps p token.tuple_field token.tuple_field = ap (λ c. nat_lt c limit) (add-one (length ps))
room-item limit ps p _ _ = tt

-- a call fits exactly if what it leads to has room
room-after : (limit : Option ℕ) (s : Partial) (call : Token) → has_room limit s ≡ true → IfSome (step_token s call) (λ n. fits limit (open_count s) call ≡ has_room limit n)
room-after None s call r = room-any (step_token s call)
room-after (Some limit) (due ps) (leaf t) r = sym (room-fill (Some limit) ps t r)
room-after (Some limit) (due ps) (wrap w) r = refl
room-after (Some limit) (due ps) (open_series a) r = sym r
room-after (Some limit) (due ps) open_map r = sym r
room-after (Some limit) (due ps) (open_record a) r = sym r
room-after (Some limit) (between (in_series a ts) ps) (token.item m) r = room-item limit ps (element a ts) (item_call a) m
room-after (Some limit) (between (in_map prs) ps) token.key r = ap (λ c. nat_lt c limit) (add-one (length ps))
room-after (Some limit) (between (in_map prs) ps) token.value r = ap (λ c. nat_lt c limit) (add-one (length ps))
room-after (Some limit) (between (in_map prs) ps) token.entry r = ap (λ c. nat_lt c limit) (add-one (length ps))
room-after (Some limit) (between (in_record a fs) ps) (token.field k) r = ap (λ c. nat_lt c limit) (add-one (length ps))
room-after (Some limit) (between (in_series a ts) ps) finish r = sym (room-fill (Some limit) ps _ r)
room-after (Some limit) (between (in_map prs) ps) finish r = sym (room-fill (Some limit) ps _ r)
room-after (Some limit) (between (in_record a fs) ps) finish r = sym (room-fill (Some limit) ps _ r)
room-after (Some limit) _ _ r = tt

cond-same : {A : Type 0} (b : Bool) (x : A) → cond b x x ≡ x
cond-same true x = refl
cond-same false x = refl

-- the limit may be looked at before a step or after it
same-step : (limit : Option ℕ) (s : Partial) (call : Token) → has_room limit s ≡ true → step_within limit s call ≡ step_roomy limit s call
same-step limit s call r = by_step (step_token s call) (room-after limit s call r)
  where
    by_step : (o : Option Partial) → IfSome o (λ n. fits limit (open_count s) call ≡ has_room limit n) → cond (fits limit (open_count s) call) o None ≡ option_and_then (roomy limit) o
    by_step None h = cond-same (fits limit (open_count s) call) None
    by_step (Some n) h = ap (λ b. cond b (Some n) None) h

-- the run within a limit, by its partial trees
pub run-is : (calls : List Event) (limit : Option ℕ) (s : Partial) → has_room limit s ≡ true → run (limited limit s) calls ≡ option_map (limited limit) (run_roomy limit s (tokens calls))
run-is [] limit s r = refl
run-is (c ∷ cs) limit s r =
    ap (λ o. option_and_then (λ n. run n cs) (option_map (limited limit) o)) (same-step limit s (token.token_of c) r) ∙ by_step (step_token s (token.token_of c)) (run-is cs limit)
  where
    Goes : Type 0
    Goes = (n : Partial) → has_room limit n ≡ true → run (limited limit n) cs ≡ option_map (limited limit) (run_roomy limit n (tokens cs))

    by_room : Goes → (n : Partial) (b : Bool) → has_room limit n ≡ b
        → option_and_then (λ n. run n cs) (option_map (limited limit) (cond b (Some n) None)) ≡ option_map (limited limit) (option_and_then (λ n. run_roomy limit n (tokens cs)) (cond b (Some n) None))
    by_room ih n true e = ih n e
    by_room ih n false e = refl

    by_step : (o : Option Partial) → Goes → option_and_then (λ n. run n cs) (option_map (limited limit) (option_and_then (roomy limit) o))
        ≡ option_map (limited limit) (option_and_then (λ n. run_roomy limit n (tokens cs)) (option_and_then (roomy limit) o))
    by_step None ih = refl
    by_step (Some n) ih = by_room ih n (has_room limit n) refl

-- what a run leads to has room
room-kept : (calls : List Token) (limit : Option ℕ) (s : Partial) → has_room limit s ≡ true → IfSome (run_roomy limit s calls) (λ n. has_room limit n ≡ true)
room-kept [] limit s r = r
room-kept (c ∷ cs) limit s r = by_step (step_token s c) (room-kept cs limit)
  where
    Goes : Type 0
    Goes = (n : Partial) → has_room limit n ≡ true → IfSome (run_roomy limit n cs) (λ n. has_room limit n ≡ true)

    by_room : Goes → (n : Partial) (b : Bool) → has_room limit n ≡ b → IfSome (option_and_then (λ n. run_roomy limit n cs) (cond b (Some n) None)) (λ n. has_room limit n ≡ true)
    by_room ih n true e = ih n e
    by_room ih n false e = tt

    by_step : (o : Option Partial) → Goes → IfSome (option_and_then (λ n. run_roomy limit n cs) (option_and_then (roomy limit) o)) (λ n. has_room limit n ≡ true)
    by_step None ih = tt
    by_step (Some n) ih = by_room ih n (has_room limit n) refl

-- the first tree fits
pub first-room : (limit : Option ℕ) → IsLimit limit → has_room limit partial.fresh ≡ true
first-room None l = refl
first-room (Some limit) l = lt-ltb 0 limit l

-- what a run within a limit leads to
pub reached : (limit : Option ℕ) → IsLimit limit → (calls : List Event) (s : Limited) → run (fresh_within limit) calls ≡ Some s
    → (n : Partial) × (run_roomy limit partial.fresh (tokens calls) ≡ Some n) × (s ≡ limited limit n) × (has_room limit n ≡ true)
reached limit l calls s e = by_run (run_roomy limit partial.fresh (tokens calls)) refl (room-kept (tokens calls) limit partial.fresh (first-room limit l)) (sym (run-is calls limit partial.fresh (first-room limit l)) ∙ e)
  where
    by_run : (o : Option Partial) → run_roomy limit partial.fresh (tokens calls) ≡ o → IfSome o (λ n. has_room limit n ≡ true) → option_map (limited limit) o ≡ Some s
        → (n : Partial) × (run_roomy limit partial.fresh (tokens calls) ≡ Some n) × (s ≡ limited limit n) × (has_room limit n ≡ true)
    by_run None o room x = cc
    by_run (Some n) o room x = (n, o, cc, room)

run_roomy-none : (calls : List Token) (s : Partial) → run_roomy None s calls ≡ run_tokens s calls
run_roomy-none [] s = refl
run_roomy-none (c ∷ cs) s = by_step (step_token s c) (run_roomy-none cs)
  where
    by_step : (o : Option Partial) → ((n : Partial) → run_roomy None n cs ≡ run_tokens n cs) → option_and_then (λ n. run_roomy None n cs) (option_and_then (roomy None) o) ≡ option_and_then (λ n. run_tokens n cs) o
    by_step None ih = refl
    by_step (Some n) ih = pass None cs n (room-none n) ∙ ih n

forward : (limit : Option ℕ) (calls : List Event) (t : Tree) → SpellsWithin limit calls t → run_roomy limit partial.fresh (tokens calls) ≡ Some (done t)
forward None calls t s = run_roomy-none (tokens calls) partial.fresh ∙ run-spells s []
forward (Some limit) calls t s = within-spells s.0 limit [] s.1

backward : (limit : Option ℕ) → IsLimit limit → (calls : List Event) (t : Tree) → run_roomy limit partial.fresh (tokens calls) ≡ Some (done t) → SpellsWithin limit calls t
backward None l calls t e = spelled_from_run calls t (sym (run-of_kinds calls partial.fresh) ∙ (sym (run_roomy-none (tokens calls) partial.fresh) ∙ e))
backward (Some limit) l calls t e = kept_from_run (tokens calls) limit t l e

-- the machine takes what spells a tree
pub run_from_whole : (limit : Option ℕ) → IsLimit limit → (calls : List Event) (t : Tree) → SpellsWithin limit calls t → run (fresh_within limit) calls ≡ Some (limited limit (done t))
run_from_whole limit l calls t s = run-is calls limit partial.fresh (first-room limit l) ∙ ap (option_map (limited limit)) (forward limit calls t s)

-- what the machine takes up to a tree spells it
pub whole_from_run : (limit : Option ℕ) → IsLimit limit → (calls : List Event) (s : Limited) (t : Tree) → run (fresh_within limit) calls ≡ Some s → s.tree ≡ done t → SpellsWithin limit calls t
whole_from_run limit l calls s t e d =
    let r = reached limit l calls s e in
    backward limit l calls t (r.1 ∙ ap (λ n. Some n) (sym (ap (λ x. x.tree) r.2) ∙ d))

-- calls that finish what is open fit
closes : (limit : Option ℕ) (ps : List Slot) (u : Tree) → allows limit (length ps) ≡ true → (t : Tree) × (run_roomy limit (fill ps u) (tokens (closing_places ps)) ≡ Some (done t))
closes limit [] u h = (u, refl)
closes limit (child w ∷ ps) u h = closes limit ps (wrapped w u) (one-less limit ps h)
closes limit (element r ts ∷ ps) u h =
    let l = one-less limit ps h in let c = closes limit ps _ l in (c.0, pass limit (tokens (closing_places ps)) (fill ps _) (room-fill limit ps _ l) ∙ c.1)
closes limit (key prs ∷ ps) u h =
    let l = one-less limit ps h in let c = closes limit ps _ l in (c.0, pass limit (tokens (closing_places ps)) (fill ps _) (room-fill limit ps _ l) ∙ c.1)
closes limit (value prs ∷ ps) u h =
    let l = one-less limit ps h in let c = closes limit ps _ l in (c.0, pass limit (tokens (closing_places ps)) (fill ps _) (room-fill limit ps _ l) ∙ c.1)
closes limit (entry_value prs k ∷ ps) u h =
    let l = one-less limit ps h in let c = closes limit ps _ l in (c.0, pass limit (tokens (closing_places ps)) (fill ps _) (room-fill limit ps _ l) ∙ c.1)
closes limit (field_value r fs k ∷ ps) u h =
    let l = one-less limit ps h in let c = closes limit ps _ l in (c.0, pass limit (tokens (closing_places ps)) (fill ps _) (room-fill limit ps _ l) ∙ c.1)
closes limit (entry_key prs ∷ ps) u h =
    let l = one-less limit ps h in
    let c = closes limit ps _ l in
    (c.0, pass limit (finish ∷ tokens (closing_places ps)) (between (in_map _) ps) l ∙ (pass limit (tokens (closing_places ps)) (fill ps _) (room-fill limit ps _ l) ∙ c.1))

completable : (limit : Option ℕ) (s : Partial) → has_room limit s ≡ true → (t : Tree) × (run_roomy limit s (tokens (closing s)) ≡ Some (done t))
completable limit (due ps) h = let c = closes limit ps tree.unit h in (c.0, pass limit (tokens (closing_places ps)) (fill ps tree.unit) (room-fill limit ps tree.unit h) ∙ c.1)
completable limit (between (in_series r ts) ps) h = let c = closes limit ps _ h in (c.0, pass limit (tokens (closing_places ps)) (fill ps _) (room-fill limit ps _ h) ∙ c.1)
completable limit (between (in_map prs) ps) h = let c = closes limit ps _ h in (c.0, pass limit (tokens (closing_places ps)) (fill ps _) (room-fill limit ps _ h) ∙ c.1)
completable limit (between (in_record r fs) ps) h = let c = closes limit ps _ h in (c.0, pass limit (tokens (closing_places ps)) (fill ps _) (room-fill limit ps _ h) ∙ c.1)
completable limit (done t) h = (t, refl)

-- the run of one list after another
pub run-append : (a b : List Event) (s : Limited) → run s (a ++ b) ≡ option_and_then (λ n. run n b) (run s a)
run-append [] b s = refl
run-append (c ∷ a) b s = by_step (step s c) (run-append a b)
  where
    by_step : (o : Option Limited) → ((n : Limited) → run n (a ++ b) ≡ option_and_then (λ m. run m b) (run n a)) → option_and_then (λ n. run n (a ++ b)) o ≡ option_and_then (λ m. run m b) (option_and_then (λ n. run n a) o)
    by_step None ih = refl
    by_step (Some n) ih = ih n

-- what the machine takes is viable
pub viable_from_run : (limit : Option ℕ) → IsLimit limit → (calls : List Event) (s : Limited) → run (fresh_within limit) calls ≡ Some s → IsViableWithin limit calls
viable_from_run limit l calls s e =
    let r = reached limit l calls s e in
    let c = completable limit r.0 r.3 in
    let more = closing r.0 in
    let ends : run (fresh_within limit) (calls ++ more) ≡ Some (limited limit (done c.0)) =
    run-append calls more (fresh_within limit) ∙ (ap (λ o. option_and_then (λ n. run n more) o) (e ∙ ap (λ x. Some x) r.2) ∙ (run-is more limit r.0 r.3 ∙ ap (option_map (limited limit)) c.1)) in
    (more, (c.0, whole_from_run limit l (calls ++ more) (limited limit (done c.0)) c.0 ends refl))

some_of : (o : Option Limited) (more : List Event) (t : Limited) → option_and_then (λ n. run n more) o ≡ Some t → (s : Limited) × (o ≡ Some s)
some_of None more t e = cc
some_of (Some s) more t e = (s, refl)

-- the machine takes what is viable
pub run_from_viable : (limit : Option ℕ) → IsLimit limit → (calls : List Event) → IsViableWithin limit calls → (s : Limited) × (run (fresh_within limit) calls ≡ Some s)
run_from_viable limit l calls (more, (t, w)) =
    some_of (run (fresh_within limit) calls) more (limited limit (done t)) (sym (run-append calls more (fresh_within limit)) ∙ run_from_whole limit l (calls ++ more) t w)

-- what spells a tree within a limit spells it
pub spelled : (limit : Option ℕ) (calls : List Event) (t : Tree) → SpellsWithin limit calls t → SpellsWhole calls t
spelled None calls t s = s
spelled (Some limit) calls t s = s.0

pub one_tree : (limit : Option ℕ) (calls : List Event) (t u : Tree) → SpellsWithin limit calls t → SpellsWithin limit calls u → t ≡ u
one_tree limit calls t u a b = one_whole_tree calls t u (spelled limit calls t a) (spelled limit calls u b)

-- the run of the calls and one more
pub one_more : (calls : List Event) (call : Event) (start s : Limited) → run start calls ≡ Some s → run start (calls ++ call ∷ []) ≡ step s call
one_more calls call start s r = run-append calls (call ∷ []) start ∙ (ap (λ o. option_and_then (λ n. run n (call ∷ [])) o) r ∙ alone (step s call))
  where
    alone : (o : Option Limited) → option_and_then (λ n. Some n) o ≡ o
    alone None = refl
    alone (Some n) = refl

-- where a call has no step, no whole list can follow
pub never_viable : (limit : Option ℕ) → IsLimit limit → (calls : List Event) (call : Event) (s : Limited) → run (fresh_within limit) calls ≡ Some s → step s call ≡ None → ¬ IsViableWithin limit (calls ++ call ∷ [])
never_viable limit l calls call s r none v =
    let n = run_from_viable limit l (calls ++ call ∷ []) v in
    let x : Some n.0 ≡ None = sym n.1 ∙ (one_more calls call (fresh_within limit) s r ∙ none) in cc

-- where a call has a step, some whole list can follow
pub still_viable : (limit : Option ℕ) → IsLimit limit → (calls : List Event) (call : Event) (s : Limited) → run (fresh_within limit) calls ≡ Some s → IsSome (step s call) → IsViableWithin limit (calls ++ call ∷ [])
still_viable limit l calls call s r some = by_step (step s call) refl some
  where
    by_step : (o : Option Limited) → step s call ≡ o → IsSome o → IsViableWithin limit (calls ++ call ∷ [])
    by_step None e some = cc
    by_step (Some n) e some = viable_from_run limit l (calls ++ call ∷ []) n (one_more calls call (fresh_within limit) s r ∙ e)
