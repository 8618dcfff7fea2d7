-- The machine and the grammar agree.
use Rattle.std.proofs.Common.{◌≡◌, List, [], ◌∷◌, ◌++◌, Option, Some, None, refl, sym, ap, ◌∙◌}
use Rattle.std.proofs.Common.{option_and_then, IsSome}
use Rattle.content_tree.specs.Values.Tree as tree
use Rattle.content_tree.specs.Values.Tree.{Tree, Trees, no_trees, tree_then, Pairs, no_pairs}
use Rattle.content_tree.specs.Values.Tree.{pair_then, Fields, no_fields, field_then}
use Rattle.content_ser.specs.Calls.Event as event
use Rattle.content_ser.specs.Calls.Event.{Event}
use Rattle.content_ser.specs.Grammar.Token.{wrapped}
use Rattle.content_ser.specs.Grammar.Spells.{SpellsWhole, IsWhole, IsViable}
use Rattle.content_build.specs.Partial.{Partial, Slot, Compound, due, between, done, in_series, in_map}
use Rattle.content_build.specs.Partial.{in_record, child, element, key, value, entry_key}
use Rattle.content_build.specs.Partial.{entry_value, field_value, fill, closed, step, run, fresh}
use Rattle.content_build.proofs.Forward.{run-spells}
use Rattle.content_build.proofs.Backward.{whole_from_run, run-of_kinds}

pub run_from_whole : (calls : List Event) {t : Tree} → SpellsWhole calls t → run fresh calls ≡ Some (done t)
run_from_whole calls s = sym (run-of_kinds calls fresh) ∙ run-spells s []

onward : {A B C : Type 0} (o : Option A) (f : A → Option B) (g : B → Option C) → option_and_then g (option_and_then f o) ≡ option_and_then (λ x. option_and_then g (f x)) o
onward None f g = refl
onward (Some x) f g = refl

pub run-append : (a b : List Event) (s : Partial) → run s (a ++ b) ≡ option_and_then (λ n. run n b) (run s a)
run-append [] b s = refl
run-append (call ∷ a) b s = next (step s call) (λ n. run-append a b n)
  where
    next : (o : Option Partial) → ((n : Partial) → run n (a ++ b) ≡ option_and_then (λ m. run m b) (run n a)) → option_and_then (λ n. run n (a ++ b)) o ≡ option_and_then (λ m. run m b) (option_and_then (λ n. run n a) o)
    next None ih = refl
    next (Some n) ih = ih n

-- calls that finish what is open
abbrev pub closing_places : List Slot → List Event
closing_places [] = []
closing_places (child w ∷ ps) = closing_places ps
closing_places (entry_key prs ∷ ps) = event.unit ∷ event.end ∷ closing_places ps
closing_places (element r ts ∷ ps) = event.end ∷ closing_places ps
closing_places (key prs ∷ ps) = event.end ∷ closing_places ps
closing_places (value prs ∷ ps) = event.end ∷ closing_places ps
closing_places (entry_value prs k ∷ ps) = event.end ∷ closing_places ps
closing_places (field_value r fs k ∷ ps) = event.end ∷ closing_places ps

abbrev pub closing : Partial → List Event
closing (due ps) = event.unit ∷ closing_places ps
closing (between c ps) = event.end ∷ closing_places ps
closing (done t) = []

follow-end : (c : Compound) (ps : List Slot) → step (between c ps) event.end ≡ Some (fill ps (closed c))
follow-end (in_series r ts) ps = refl
follow-end (in_map prs) ps = refl
follow-end (in_record r fs) ps = refl

pub closes : (ps : List Slot) (u : Tree) → (t : Tree) × (run (fill ps u) (closing_places ps) ≡ Some (done t))
closes [] u = (u, refl)
closes (child w ∷ ps) u = closes ps (wrapped w u)
closes (entry_key prs ∷ ps) u = closes ps _
closes (element r ts ∷ ps) u = closes ps _
closes (key prs ∷ ps) u = closes ps _
closes (value prs ∷ ps) u = closes ps _
closes (entry_value prs k ∷ ps) u = closes ps _
closes (field_value r fs k ∷ ps) u = closes ps _

pub completable : (s : Partial) → (t : Tree) × (run s (closing s) ≡ Some (done t))
completable (due ps) = closes ps tree.unit
completable (between (in_series r ts) ps) = closes ps _
completable (between (in_map prs) ps) = closes ps _
completable (between (in_record r fs) ps) = closes ps _
completable (done t) = (t, refl)

pub viable_from_run : (calls : List Event) (s : Partial) → run fresh calls ≡ Some s → IsViable calls
viable_from_run calls s e =
    let c = completable s in
    (closing s, (c.0, whole_from_run (calls ++ closing s) c.0 (run-append calls (closing s) fresh ∙ (ap (λ o. option_and_then (λ n. run n (closing s)) o) e ∙ c.1))))

some_of : (o : Option Partial) (more : List Event) (t : Tree) → option_and_then (λ n. run n more) o ≡ Some (done t) → (s : Partial) × (o ≡ Some s)
some_of None more t e = cc
some_of (Some s) more t e = (s, refl)

pub run_from_viable : (calls : List Event) → IsViable calls → (s : Partial) × (run fresh calls ≡ Some s)
run_from_viable calls (more, (t, w)) = some_of (run fresh calls) more t (sym (run-append calls more fresh) ∙ run_from_whole (calls ++ more) w)

done-inj : {t u : Tree} → Some (done t) ≡ Some (done u) → t ≡ u
done-inj e = cc

pub one_tree : (calls : List Event) (t u : Tree) → SpellsWhole calls t → SpellsWhole calls u → t ≡ u
one_tree calls t u a b = done-inj (sym (run_from_whole calls a) ∙ run_from_whole calls b)

stuck : (t u : Tree) (more : List Event) → run (done t) more ≡ Some (done u) → more ≡ []
stuck t u [] e = refl
stuck t u (call ∷ more) e = cc

pub unique_cut : (calls more : List Event) → IsWhole calls → IsWhole (calls ++ more) → more ≡ []
unique_cut calls more (t, a) (u, b) =
    stuck t u more (sym (run-append calls more fresh ∙ ap (λ o. option_and_then (λ n. run n more) o) (run_from_whole calls a)) ∙ run_from_whole (calls ++ more) b)

-- the run of the calls and one more
pub one_more : (calls : List Event) (call : Event) (s : Partial) → run fresh calls ≡ Some s → run fresh (calls ++ call ∷ []) ≡ step s call
one_more calls call s r = run-append calls (call ∷ []) fresh ∙ (ap (λ o. option_and_then (λ n. run n (call ∷ [])) o) r ∙ alone (step s call))
  where
    alone : (o : Option Partial) → option_and_then (λ n. Some n) o ≡ o
    alone None = refl
    alone (Some n) = refl

-- where a call has no step, no whole list can follow
pub never_viable : (calls : List Event) (call : Event) (s : Partial) → run fresh calls ≡ Some s → step s call ≡ None → ¬ IsViable (calls ++ call ∷ [])
never_viable calls call s r none v =
    let n = run_from_viable (calls ++ call ∷ []) v in
    let x : Some n.0 ≡ None = sym n.1 ∙ (one_more calls call s r ∙ none) in cc

-- where a call has a step, some whole list can follow
pub still_viable : (calls : List Event) (call : Event) (s : Partial) → run fresh calls ≡ Some s → IsSome (step s call) → IsViable (calls ++ call ∷ [])
still_viable calls call s r some = reached (step s call) refl some
  where
    reached : (o : Option Partial) → step s call ≡ o → IsSome o → IsViable (calls ++ call ∷ [])
    reached None e some = cc
    reached (Some n) e some = viable_from_run (calls ++ call ∷ []) n (one_more calls call s r ∙ e)
