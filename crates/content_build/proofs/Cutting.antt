-- The beginning that spells a tree.
use Rattle.std.proofs.Common.{◌≡◌, ℕ, ◌+◌, ◌<◌, ◌≤◌, false, List, [], ◌∷◌, ◌++◌, length}
use Rattle.std.proofs.Common.{take, drop, Option, Some, None, Result, Ok, Err, IfSome, option_map}
use Rattle.std.proofs.Common.{Bool, true, cond, refl, sym, ap, subst, ◌∙◌, arith, inl, inr, ⊎_elim}
use Rattle.std.proofs.Common.{length-append}
use Rattle.std.proofs.lemmas.List.{take-append-drop, take_all, length-take-le}
use Rattle.std.proofs.lemmas.Bool.{cases_lt}
use Rattle.content_tree.specs.Errors.Kind.{kind_of}
use Rattle.content_tree.specs.Values.Tree.{Tree}
use Rattle.content_tree.specs.Values.Value.{tree_of}
use Rattle.content_tree.specs.declared.error.Error.{Error}
use Rattle.content_tree.specs.declared.error.ErrorKind.{ErrorKind}
use Rattle.content_tree.specs.declared.error.ErrorKind.TheVariants.{Unexpected, Custom, OutOfMemory}
use Rattle.content_tree.specs.declared.error.ErrorKind.TheVariants.{Misplaced, Failed, Unfinished}
use Rattle.content_tree.specs.declared.value.NamedValue.{NamedValue}
use Rattle.content_ser.specs.Calls.Event.{Event}
use Rattle.content_ser.specs.Grammar.Token as token
use Rattle.content_ser.specs.Grammar.Token.{Token, leaf, wrap, open_series, open_map, open_record}
use Rattle.content_ser.specs.Grammar.Token.{finish, wrapped, item_call, ItemCall}
use Rattle.content_ser.specs.Grammar.Spells.{SpellsWhole, IsWhole, IsViable}
use Rattle.content_ser.specs.Serializers.Step.{Seen, Takes}
use Rattle.content_build.specs.Answers.{IsRefusal, IfRefused}
use Rattle.content_build.specs.Builder.{refuses, Finishes}
use Rattle.content_build.specs.Cuts.{SpellsFirst, OnlyCut, NoCut, IsCutRefusal, IsCut, IfCut}
use Rattle.content_build.specs.Limit.{Limited, fresh_within, step, run}
use Rattle.content_build.specs.Partial as partial
use Rattle.content_build.specs.Partial.{Partial, Slot, due, between, done, in_series, in_map}
use Rattle.content_build.specs.Partial.{in_record, child, element, key, value, entry_key}
use Rattle.content_build.specs.Partial.{entry_value, field_value, fill, next_item, step_token}
use Rattle.content_build.specs.Partial.{fresh, open_count}
use Rattle.content_build.specs.declared.calls_error.CallsError.{CallsError}
use Rattle.content_build.proofs.Agreement.{run_from_whole, unique_cut, one_tree}
use Rattle.content_build.proofs.Limits as limits
use Rattle.content_build.proofs.Limits.{limited, whole_from_run}
use Rattle.content_build.proofs.Headline.{earlier, viable_whole, take-take, same_place}
use Rattle.content_build.proofs.Headline.{beginning_take}

-- some call was made
abbrev pub IsBegun : Partial → Type 0
IsBegun (due []) = ⊥
IsBegun (due (p ∷ ps)) = Unit {0}
IsBegun (between c ps) = Unit {0}
IsBegun (done t) = Unit {0}

begun-fill : (ps : List Slot) (t : Tree) → IsBegun (fill ps t)
begun-fill [] t = tt
begun-fill (child w ∷ ps) t = begun-fill ps (wrapped w t)
begun-fill (element r ts ∷ ps) t = tt
begun-fill (key prs ∷ ps) t = tt
begun-fill (value prs ∷ ps) t = tt
begun-fill (entry_key prs ∷ ps) t = tt
begun-fill (entry_value prs k ∷ ps) t = tt
begun-fill (field_value r fs k ∷ ps) t = tt

begun-item : (a b : ItemCall) (s : Partial) → IsBegun s → IfSome (next_item a b s) IsBegun
begun-item token.element token.element s h = h
begun-item token.tuple_field token.tuple_field s h = h
begun-item _ _ s h = tt

begun : (s : Partial) (call : Token) → IfSome (step_token s call) IsBegun
begun (due ps) (leaf t) = begun-fill ps t
begun (due ps) (wrap w) = tt
begun (due ps) (open_series r) = tt
begun (due ps) open_map = tt
begun (due ps) (open_record r) = tt
begun (between (in_series r ts) ps) (token.item m) = begun-item (item_call r) m (due (element r ts ∷ ps)) tt
begun (between (in_map prs) ps) token.key = tt
begun (between (in_map prs) ps) token.value = tt
begun (between (in_map prs) ps) token.entry = tt
begun (between (in_record r fs) ps) (token.field k) = tt
begun (between (in_series r ts) ps) finish = begun-fill ps _
begun (between (in_map prs) ps) finish = begun-fill ps _
begun (between (in_record r fs) ps) finish = begun-fill ps _
begun _ _ = tt

-- the partial tree after a call
step_inside : (limit : Option ℕ) (b : Bool) (o : Option Partial) (n : Limited) → option_map (limited limit) (cond b o None) ≡ Some n → o ≡ Some n.tree
step_inside limit true (Some m) n e = let same : limited limit m ≡ n = cc in ap (λ x. Some x.tree) same
step_inside limit true None n e = absurd (cc)
step_inside limit false o n e = absurd (cc)

-- after a call no tree is open only where the whole one is done
none_open : (s : Partial) (c : Event) (n : Partial) → partial.step s c ≡ Some n → open_count n ≡ 0 → (t : Tree) × (n ≡ done t)
none_open s c n e closed = by_cases n (subst (λ o. IfSome o IsBegun) e (begun s (token.token_of c))) closed
  where
    by_cases : (m : Partial) → IsBegun m → open_count m ≡ 0 → (t : Tree) × (m ≡ done t)
    by_cases (due []) b z = absurd b
    by_cases (due (p ∷ ps)) b z = absurd (omega arith)
    by_cases (between c ps) b z = absurd (omega arith)
    by_cases (done t) b z = (t, refl)

-- the same of a call that a builder took
pub none_after : (old new : Seen Limited) (c : Event) → old.failed ≡ false → Takes step refuses old c (Ok tt) new → open_count new.state.tree ≡ 0 → (t : Tree) × (new.state.tree ≡ done t)
none_after old new c standing t closed =
    none_open old.state.tree c new.state.tree (step_inside old.state.limit _ _ new.state (t.otherwise standing).1) closed

-- no beginning up to this length spells a tree
abbrev pub NoCutTo : ℕ → List Event → Type 0
NoCutTo at calls = (n : ℕ) → n ≤ at → ¬ IsWhole (take n calls)

pub no_cut_first : (calls : List Event) → NoCutTo 0 calls
no_cut_first calls n h w =
    let none : n ≡ 0 = omega arith in
    let e : Some fresh ≡ Some (done w.0) = run_from_whole [] (subst (λ k. SpellsWhole (take k calls) w.0) none w.1) in cc

pub no_cut_more : (calls : List Event) (at : ℕ) → NoCutTo at calls → ¬ IsWhole (take (at + 1) calls) → NoCutTo (at + 1) calls
no_cut_more calls at none not n h w =
    ⊎_elim
    (λ (l : at < n). let same : n ≡ at + 1 = omega arith in not (subst (λ k. IsWhole (take k calls)) same w))
    (λ (l : n ≤ at). none n l w)
    (cases_lt at n)

-- none is longer than what is no longer viable
no_cut_beyond : (calls : List Event) (at : ℕ) → NoCutTo at calls → ¬ IsViable (take (at + 1) calls) → NoCut calls
no_cut_beyond calls at none not n w =
    ⊎_elim
    (λ (l : at < n). not (earlier None (at + 1) n calls (omega arith) (viable_whole None (take n calls) w)))
    (λ (l : n ≤ at). none n l w)
    (cases_lt at n)

-- a call that is refused where no beginning up to it spells a tree
pub cut_refused : (calls : List Event) (at : ℕ) (cause : ErrorKind) → at < length calls → NoCutTo at calls → IsRefusal calls at cause → IsCutRefusal calls at cause
cut_refused calls at Misplaced h none r = (no_cut_beyond calls at none r.2, r)
cut_refused calls at Unfinished h none r = let end = r.0 in absurd (omega arith)
cut_refused calls at OutOfMemory h none r = ⊎_elim (λ here. inl here) (λ (x : (at ≡ length calls) × IsWhole calls). let end = x.0 in absurd (omega arith)) r
cut_refused calls at Failed h none r = absurd r
cut_refused calls at (Unexpected found expected) h none r = absurd r
cut_refused calls at (Custom message) h none r = absurd r

-- of two beginnings that spell trees neither is shorter
no_shorter : (calls : List Event) (n m : ℕ) → n ≤ length calls → m ≤ length calls → n < m → IsWhole (take n calls) → ¬ IsWhole (take m calls)
no_shorter calls n m ln lm less wn wm =
    let rest = drop n (take m calls) in
    let split : take n calls ++ rest ≡ take m calls = ap (λ l. l ++ rest) (sym (take-take n m calls (omega arith))) ∙ take-append-drop n (take m calls) in
    let none = unique_cut (take n calls) rest wn (subst IsWhole (sym split) wm) in
    let a = length-take-le n calls ln in
    let b = length-take-le m calls lm in
    let c : length (take m calls) ≡ length (take n calls) = ap length (sym split) ∙ (length-append (take n calls) rest ∙ (ap (λ l. length (take n calls) + length l) none ∙ omega arith)) in
    omega (arith, a, b, c)

-- the beginnings that spell trees are one
pub only_cut : (calls : List Event) (n : ℕ) → n ≤ length calls → IsWhole (take n calls) → OnlyCut calls n
only_cut calls n l w m lm wm =
    ⊎_elim
    (λ (x : m < n). absurd (no_shorter calls m n lm l x wm w))
    (λ (x : n ≤ m). ⊎_elim (λ (y : n < m). absurd (no_shorter calls n m l lm y w wm)) (λ (y : m ≤ n). omega arith) (cases_lt n m))
    (cases_lt m n)

-- the tree of a beginning
pub cut_here : (calls : List Event) (n : ℕ) (s : Limited) (v : NamedValue) → n ≤ length calls → run (fresh_within None) (take n calls) ≡ Some s → (t : Tree) × (s.tree ≡ done t) → Finishes false s.tree (Ok v)
    → SpellsFirst calls n (tree_of v) × OnlyCut calls n
cut_here calls n s v l r d f =
    let same : tree_of v ≡ d.0 = subst (λ x. Finishes false x (Ok v)) d.1 f in
    let spelled : SpellsWhole (take n calls) (tree_of v) = whole_from_run None tt (take n calls) s (tree_of v) r (d.1 ∙ ap done (sym same)) in
    ((l, spelled), only_cut calls n l (tree_of v, spelled))

-- a beginning that spells a tree, for which memory ran out
pub cut_unmade : (calls : List Event) (n : ℕ) (s : Limited) (e : Error) → n ≤ length calls → run (fresh_within None) (take n calls) ≡ Some s → (t : Tree) × (s.tree ≡ done t) → Finishes false s.tree (Err e)
    → IsCutRefusal calls n (kind_of e)
cut_unmade calls n s e l r d f =
    let memory : kind_of e ≡ OutOfMemory = subst (λ x. Finishes false x (Err e)) d.1 f in
    subst (IsCutRefusal calls n) (sym memory) (inr (l, (d.0, whole_from_run None tt (take n calls) s d.0 r d.1)))

-- the calls so far spell no tree where some is open
pub open_not_whole : (calls : List Event) (s : Limited) → run (fresh_within None) calls ≡ Some s → ¬ (open_count s.tree ≡ 0) → ¬ IsWhole calls
open_not_whole calls s r some w =
    let e : Some s ≡ Some (limited None (done w.0)) = sym r ∙ limits.run_from_whole None tt calls w.0 w.1 in
    let same : s ≡ limited None (done w.0) = cc in
    some (ap (λ x. open_count x.tree) same)

-- the end of a list of which no beginning spells a tree
pub never_cut : (calls : List Event) (at : ℕ) → length calls ≤ at → NoCutTo at calls → IsViable (take at calls) → IsCutRefusal calls (length calls) Unfinished
never_cut calls at h none v =
    let all : take at calls ≡ calls = take_all at calls h in
    let no : ¬ IsWhole calls = λ w. none at (omega arith) (subst IsWhole (sym all) w) in (
      λ n w. ⊎_elim (λ (l : at < n). no (subst IsWhole (take_all n calls (omega arith)) w)) (λ (l : n ≤ at). none n l w) (cases_lt at n),
      (refl, subst IsViable all v, no),
    )

pub cut_only : (calls : List Event) (r : Result (NamedValue × ℕ) CallsError) (n : ℕ) (t : Tree) → IsCut calls r → SpellsFirst calls n t → IfCut r n t
cut_only calls (Ok found) n t a s =
    let same : n ≡ found.1 = a.1 n s.0 (t, s.1) in
    (sym same, one_tree (take found.1 calls) (tree_of found.0) t a.0.1 (subst (λ k. SpellsWhole (take k calls) t) same s.1))
cut_only calls (Err e) n t a s = by_cause (kind_of e.error) a
  where
    by_cause : (k : ErrorKind) → IsCutRefusal calls e.at k → k ≡ OutOfMemory
    by_cause OutOfMemory h = refl
    by_cause (Unexpected found expected) h = absurd h
    by_cause (Custom message) h = absurd h
    by_cause Failed h = absurd h
    by_cause Misplaced h = absurd (h.0 n (t, s.1))
    by_cause Unfinished h = absurd (h.0 n (t, s.1))

pub cut_misplaced_only : (calls : List Event) (r : Result (NamedValue × ℕ) CallsError) (i : ℕ) → IsCut calls r → NoCut calls → IsRefusal calls i Misplaced → IfRefused r Misplaced i
cut_misplaced_only calls (Ok found) i a none m = absurd (none found.1 (tree_of found.0, a.0.1))
cut_misplaced_only calls (Err e) i a none m = by_cause (kind_of e.error) refl a
  where
    by_cause : (k : ErrorKind) → kind_of e.error ≡ k → IsCutRefusal calls e.at k → IfRefused {A = NamedValue × ℕ} (Err e) Misplaced i
    by_cause OutOfMemory x h = inr x
    by_cause (Unexpected found expected) x h = absurd h
    by_cause (Custom message) x h = absurd h
    by_cause Failed x h = absurd h
    by_cause Misplaced x h = inl (x, same_place None calls e.at i h.1.1 h.1.2 m.1 m.2)
    by_cause Unfinished x h = absurd (m.2 (beginning_take None (i + 1) calls h.1.1))

pub cut_unfinished_only : (calls : List Event) (r : Result (NamedValue × ℕ) CallsError) → IsCut calls r → NoCut calls → IsViable calls → IfRefused r Unfinished (length calls)
cut_unfinished_only calls (Ok found) a none v = absurd (none found.1 (tree_of found.0, a.0.1))
cut_unfinished_only calls (Err e) a none v = by_cause (kind_of e.error) refl a
  where
    by_cause : (k : ErrorKind) → kind_of e.error ≡ k → IsCutRefusal calls e.at k → IfRefused {A = NamedValue × ℕ} (Err e) Unfinished (length calls)
    by_cause OutOfMemory x h = inr x
    by_cause (Unexpected found expected) x h = absurd h
    by_cause (Custom message) x h = absurd h
    by_cause Failed x h = absurd h
    by_cause Misplaced x h = absurd (h.1.2 (beginning_take None (e.at + 1) calls v))
    by_cause Unfinished x h = inl (x, h.1.0)

pub ruleset only = (cut_only, cut_misplaced_only, cut_unfinished_only)
