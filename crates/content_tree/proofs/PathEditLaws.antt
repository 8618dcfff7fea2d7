-- Laws of edits by a path.
use Rattle.std.proofs.Common.{◌≡◌, ◌∙◌, ap, sym, refl, arith, ℕ, zero, suc, Bool, true, false, nat_eq, eq-eqb, eqb-true, ◌||◌}
use Rattle.std.proofs.Common.{List, [], ◌∷◌, ◌++◌, ◌⊎◌, inl, inr, ⊎_elim, if◌then◌else◌, codes}
use Rattle.std.proofs.Common.{Option, Some, None, option_map, option_and_then, unwrap_or}
use Rattle.std.specs.Str.{bytes_eq}
use Rattle.std.proofs.lemmas.Bool.{cases_Bool}
use Rattle.std.proofs.lemmas.Option.{some_pair_parts, same_Some}
use Rattle.std.proofs.lemmas.Slice.Eq.{bytes_eq-Decides}
use Rattle.content_tree.proofs.Cuts.{apart_last}
use Rattle.content_tree.proofs.EditLaws.{got_added}
use Rattle.content_tree.proofs.PathLaws.{went_on, follow_joined, value_place}
use Rattle.content_tree.proofs.Sights.{Sight, Seen, Unseen, found, sights, led}
use Rattle.content_tree.specs.Laws.PathEdits.{SetGivesFound, PutIsFound, SetIsFound, RemovedIsFound}
use Rattle.content_tree.specs.Values.Edits.{item_added, pair_added, pair_removed}
use Rattle.content_tree.specs.Values.Lookups.{is_text, last_value, or_else}
use Rattle.content_tree.specs.Values.PathEdits.{Edited, around, at_parts, last_apart, at_last, replaced, item_removed}
use Rattle.content_tree.specs.Values.PathEdits.{part_removed, part_added, names_end, removed_at, set_at}
use Rattle.content_tree.specs.Values.Paths.{index_of, parts_of}
use Rattle.content_tree.specs.Values.Pointers.{Place, at, item_of, part_of, follow, value_at, pointer}
use Rattle.content_tree.specs.Values.Text.{owned_text}
use Rattle.content_tree.specs.Values.Tree.{Tree, text, seq, map, Trees, no_trees, tree_then, Pairs, count}

-- the value that a path leads to by its parts
pointer_by : (path : List ℕ) (parts : List (List ℕ)) (t : Tree) → parts_of path ≡ Some parts → pointer path t ≡ found parts (at t)
pointer_by path parts t is = ap (λ os. option_and_then value_at (option_and_then (λ ps. follow ps (at t)) os)) is

-- one more part before
abbrev before_last : List ℕ → List (List ℕ) × List ℕ → List (List ℕ) × List ℕ
before_last part r = (part ∷ r.0, r.1)

-- the parts before the last and that one are all
apart_more : (part next : List ℕ) (parts front : List (List ℕ)) (last : List ℕ) (o : Option (List (List ℕ) × List ℕ)) → last_apart (next ∷ parts) ≡ o
    → ((f : List (List ℕ)) (l : List ℕ) → o ≡ Some (f, l) → next ∷ parts ≡ f ++ l ∷ [])
    → option_map (before_last part) o ≡ Some (front, last) → part ∷ next ∷ parts ≡ front ++ last ∷ []
apart_more part next parts front last None is ih h = absurd (cc h)
apart_more part next parts front last (Some r) is ih h =
    let ends = some_pair_parts (part ∷ r.0) front r.1 last h in
    ap (λ l. part ∷ l) (ih r.0 r.1 refl) ∙ (λ i. ends.0 i ++ ends.1 i ∷ [])

apart_is : (parts front : List (List ℕ)) (last : List ℕ) → last_apart parts ≡ Some (front, last) → parts ≡ front ++ last ∷ []
apart_is [] front last h = absurd (cc h)
apart_is (part ∷ []) front last h = let ends = some_pair_parts [] front part last h in λ i. ends.0 i ++ ends.1 i ∷ []
apart_is (part ∷ next ∷ parts) front last h = apart_more part next parts front last (last_apart (next ∷ parts)) refl (λ f l e. apart_is (next ∷ parts) f l e) h

-- the last part leads on from the value that the others lead to
found_last : (front : List (List ℕ)) (last : List ℕ) (t u : Tree) → found front (at t) ≡ Some u → found (front ++ last ∷ []) (at t) ≡ found (last ∷ []) (at u)
found_last front last t u h =
    let place = went_on value_at (follow front (at t)) u h in
    ap (option_and_then value_at) (follow_joined front (last ∷ []) (at t)
    ∙ ap (option_and_then (follow (last ∷ []))) (place.1 ∙ ap Some (value_place place.0 u place.2)))

-- what an edit of a part gives, the edit of the whole gives
around_is : {A B : Type 0} (f : A → B) (e : Edited A) (g : Option Tree) (b : B) → around f e ≡ Some (g, b) → (a : A) × (e ≡ Some (g, a)) × (f a ≡ b)
around_is f None g b h = absurd (cc h)
around_is f (Some e) g b h = let ends = some_pair_parts e.0 g (f e.1) b h in (e.1, ap (λ o. Some (o, e.1)) ends.0, ends.1)

-- ---- setting

-- adding takes nothing out
added_gives : (v : Tree) (part : List ℕ) (t u : Tree) (g : Option Tree) → part_added v part t ≡ Some (g, u) → g ≡ None
added_gives v part (seq ts) u g h =
    ⊎_elim (λ (t : names_end part ts ≡ true).
    let made = sym (ap (λ b. if b then Some (None, seq (item_added v ts)) else None) t) ∙ h in sym (some_pair_parts None g (seq (item_added v ts)) u made).0)
    (λ (f : names_end part ts ≡ false). let none = sym (ap (λ b. if b then Some (None, seq (item_added v ts)) else None) f) ∙ h in absurd (cc none))
    (cases_Bool (names_end part ts))
added_gives v part (map ps) u g h = sym (some_pair_parts None g (map (pair_added (text (owned_text part)) v ps)) u h).0
added_gives v part t u g h = absurd (cc h)

-- what is set at parts: put in place of another, or added
pub record Put (parts : List (List ℕ)) (v t u : Tree) (before : Option Tree) : Type 0 where
  pub old : Tree
  pub given : before ≡ Some old
  pub was : found parts (at t) ≡ Some old
  pub is : found parts (at u) ≡ Some v

pub record Added (parts : List (List ℕ)) (v t u : Tree) (before : Option Tree) : Type 0 where
  pub given : before ≡ None
  pub was : found parts (at t) ≡ None
  pub front : List (List ℕ)
  pub last : List ℕ
  pub apart : last_apart parts ≡ Some (front, last)
  pub holder : Tree
  pub after : Tree
  pub made : part_added v last holder ≡ Some (None, after)
  pub is : found front (at u) ≡ Some after

put_seen : (parts : List (List ℕ)) (v t u w : Tree) (k : Tree → Tree) (before : Option Tree) (s : Seen (λ edit. (at_parts edit parts).0) (λ y. found parts (at y)) t w k)
    → (at_parts (replaced v) parts).0 t ≡ Some (before, u) → Put parts v t u before
put_seen parts v t u w k before s h =
    let ends = some_pair_parts (Some w) before (k v) u (sym (s.made (replaced v)) ∙ h) in
    record { old = w; given = sym ends.0; was = s.found; is = ap (λ y. found parts (at y)) (sym ends.1) ∙ s.put v }

added_seen : (parts front : List (List ℕ)) (last : List ℕ) (v t u : Tree) (before : Option Tree) → last_apart parts ≡ Some (front, last) → found parts (at t) ≡ None
    → Sight (λ edit. (at_parts edit front).0) (λ y. found front (at y)) t → (at_parts (part_added v last) front).0 t ≡ Some (before, u) → Added parts v t u before
added_seen parts front last v t u before apart was (inl (w, k, s)) h =
    let made = around_is k (part_added v last w) before u (sym (s.made (part_added v last)) ∙ h) in
    let none = added_gives v last w made.0 before made.1 in
    record {
      given = none;
      was = was;
      front = front;
      last = last;
      apart = apart;
      holder = w;
      after = made.0;
      made = made.1 ∙ ap (λ o. Some (o, made.0)) none;
      is = ap (λ y. found front (at y)) (sym made.2) ∙ s.put made.0;
    }
added_seen parts front last v t u before apart was (inr s) h = let none = s.unmade (part_added v last) in absurd (cc (none, h))

added_last : (parts : List (List ℕ)) (v t u : Tree) (before : Option Tree) (o : Option (List (List ℕ) × List ℕ)) → last_apart parts ≡ o → found parts (at t) ≡ None
    → option_and_then (λ r. (at_parts (part_added v r.1) r.0).0 t) o ≡ Some (before, u) → Added parts v t u before
added_last parts v t u before None apart was h = absurd (cc h)
added_last parts v t u before (Some r) apart was h = added_seen parts r.0 r.1 v t u before apart was ((sights r.0).value t) h

set_seen : (parts : List (List ℕ)) (v t u : Tree) (before : Option Tree) → Sight (λ edit. (at_parts edit parts).0) (λ y. found parts (at y)) t
    → or_else ((at_parts (replaced v) parts).0 t) (at_last (part_added v) parts t) ≡ Some (before, u) → Put parts v t u before ⊎ Added parts v t u before
set_seen parts v t u before (inl (w, k, s)) h =
    let made = s.made (replaced v) in
    inl (put_seen parts v t u w k before s (made ∙ (sym (ap (λ o. or_else o (at_last (part_added v) parts t)) made) ∙ h)))
set_seen parts v t u before (inr s) h =
    inr (added_last parts v t u before (last_apart parts) refl s.missing (sym (ap (λ o. or_else o (at_last (part_added v) parts t)) (s.unmade (replaced v))) ∙ h))

set_parts : (path : List ℕ) (v t u : Tree) (before : Option Tree) → set_at path v t ≡ Some (before, u)
    → (parts : List (List ℕ)) × (parts_of path ≡ Some parts) × (Put parts v t u before ⊎ Added parts v t u before)
set_parts path v t u before h =
    let by = went_on (λ parts. or_else ((at_parts (replaced v) parts).0 t) (at_last (part_added v) parts t)) (parts_of path) (before, u) h in
    (by.0, by.1, set_seen by.0 v t u before ((sights by.0).value t) by.2)

pub set_gives_found : SetGivesFound
set_gives_found path v t u before h =
    let by = set_parts path v t u before h in
    let whole = pointer_by path by.0 t by.1 in
    ⊎_elim (λ (s : Put by.0 v t u before). s.given ∙ sym (whole ∙ s.was)) (λ (s : Added by.0 v t u before). s.given ∙ sym (whole ∙ s.was)) by.2

pub put_is_found : PutIsFound
put_is_found path v t u before h =
    let by = set_parts path v t u (Some before) h in
    ⊎_elim (λ (s : Put by.0 v t u (Some before)). pointer_by path by.0 u by.1 ∙ s.is)
    (λ (s : Added by.0 v t u (Some before)). let given = s.given in absurd (cc given))
    by.2

-- the item after the last is found by their number
end_found : (v : Tree) (ts : Trees) → item_of (count ts) (item_added v ts) ≡ Some v
end_found v no_trees = refl
end_found v (tree_then t ts) = end_found v ts

end_by : (v : Tree) (ts : Trees) (o : Option ℕ) → unwrap_or (option_map (λ n. nat_eq n (count ts)) o) false ≡ true → option_and_then (λ n. item_of n (item_added v ts)) o ≡ Some v
end_by v ts None h = absurd (cc h)
end_by v ts (Some n) h = ap (λ k. item_of k (item_added v ts)) (eqb-true n (count ts) h) ∙ end_found v ts

seq_end : (v : Tree) (part : List ℕ) (ts : Trees) → bytes_eq part (codes "-") ≡ false → names_end part ts ≡ true → part_of part (item_added v ts) ≡ Some v
seq_end v part ts other ends = end_by v ts (index_of part) (sym (ap (λ b. b || unwrap_or (option_map (λ n. nat_eq n (count ts)) (index_of part)) false) other) ∙ ends)

-- what was added is found
added_found : (v : Tree) (part : List ℕ) (t after : Tree) → bytes_eq part (codes "-") ≡ false → part_added v part t ≡ Some (None, after) → found (part ∷ []) (at after) ≡ Some v
added_found v part (seq ts) after other h =
    ⊎_elim (λ (t : names_end part ts ≡ true).
    let made = sym (ap (λ b. if b then Some (None, seq (item_added v ts)) else None) t) ∙ h in
    let is = (some_pair_parts None None (seq (item_added v ts)) after made).1 in
    ap (λ y. found (part ∷ []) (at y)) (sym is)
    ∙ (led [] (part_of part (item_added v ts)) ∙ ap (option_and_then (λ u. found [] (at u))) (seq_end v part ts other t)))
    (λ (f : names_end part ts ≡ false). let none = sym (ap (λ b. if b then Some (None, seq (item_added v ts)) else None) f) ∙ h in absurd (cc none))
    (cases_Bool (names_end part ts))
added_found v part (map ps) after other h =
    let key : Tree = text (owned_text part) in
    let is = (some_pair_parts None None (map (pair_added key v ps)) after h).1 in
    let own : is_text part key ≡ true = (bytes_eq-Decides part part).1 refl in
    ap (λ y. found (part ∷ []) (at y)) (sym is)
    ∙ (led [] (last_value (is_text part) (pair_added key v ps)) ∙ ap (option_and_then (λ u. found [] (at u))) (got_added (is_text part) key v ps own))
added_found v part t after other h = absurd (cc h)

pub set_is_found : SetIsFound
set_is_found path parts part v t u before is other h =
    let by = set_parts path v t u before h in
    let same : by.0 ≡ parts ++ part ∷ [] = same_Some by.0 (parts ++ part ∷ []) (sym by.1 ∙ is) in
    ⊎_elim (λ (s : Put by.0 v t u before). pointer_by path by.0 u by.1 ∙ s.is)
    (λ (s : Added by.0 v t u before).
    let ends = some_pair_parts s.front parts s.last part (sym s.apart ∙ (ap last_apart same ∙ apart_last parts part)) in
    pointer_by path by.0 u by.1
    ∙ (ap (λ ps. found ps (at u)) (apart_is by.0 s.front s.last s.apart)
    ∙ (found_last s.front s.last u s.after s.is ∙ added_found v s.last s.holder s.after (ap (λ l. bytes_eq l (codes "-")) ends.1 ∙ other) s.made)))
    by.2

-- ---- removing

item_given : (n : ℕ) (ts us : Trees) (g : Option Tree) → item_removed n ts ≡ Some (g, us) → g ≡ item_of n ts
item_given n no_trees us g h = absurd (cc h)
item_given zero (tree_then t ts) us g h = sym (some_pair_parts (Some t) g ts us h).0
item_given (suc n) (tree_then t ts) us g h = let e = around_is (tree_then t) (item_removed n ts) g us h in item_given n ts e.0 g e.1

index_given : (o : Option ℕ) (ts us : Trees) (g : Option Tree) → option_and_then (λ n. item_removed n ts) o ≡ Some (g, us) → g ≡ option_and_then (λ n. item_of n ts) o
index_given None ts us g h = absurd (cc h)
index_given (Some n) ts us g h = item_given n ts us g h

-- the value by the last part
found_one : (o : Option Tree) → option_and_then (λ u. found [] (at u)) o ≡ o
found_one None = refl
found_one (Some u) = refl

-- what is left of a map
abbrev with_given : Option Tree → Pairs → Option Tree × Tree
with_given x rest = (x, map rest)

entry_given : (o : Option Pairs) (x g : Option Tree) (u : Tree) → option_map (with_given x) o ≡ Some (g, u) → g ≡ x
entry_given None x g u h = absurd (cc h)
entry_given (Some ps) x g u h = sym (some_pair_parts x g (map ps) u h).0

part_given : (part : List ℕ) (t u : Tree) (g : Option Tree) → part_removed part t ≡ Some (g, u) → g ≡ found (part ∷ []) (at t)
part_given part (seq ts) u g h =
    let e = around_is seq (option_and_then (λ n. item_removed n ts) (index_of part)) g u h in
    index_given (index_of part) ts e.0 g e.1 ∙ sym (led [] (part_of part ts) ∙ found_one (part_of part ts))
part_given part (map ps) u g h =
    entry_given (pair_removed (is_text part) ps) (last_value (is_text part) ps) g u h ∙ sym (led [] (last_value (is_text part) ps) ∙ found_one (last_value (is_text part) ps))
part_given part t u g h = absurd (cc h)

removed_seen : (parts front : List (List ℕ)) (last : List ℕ) (t u : Tree) (g : Option Tree) → parts ≡ front ++ last ∷ []
    → Sight (λ edit. (at_parts edit front).0) (λ y. found front (at y)) t → (at_parts (part_removed last) front).0 t ≡ Some (g, u) → g ≡ found parts (at t)
removed_seen parts front last t u g all (inl (w, k, s)) h =
    let made = around_is k (part_removed last w) g u (sym (s.made (part_removed last)) ∙ h) in
    part_given last w made.0 g made.1 ∙ sym (ap (λ ps. found ps (at t)) all ∙ found_last front last t w s.found)
removed_seen parts front last t u g all (inr s) h = let none = s.unmade (part_removed last) in absurd (cc (none, h))

removed_last : (parts : List (List ℕ)) (t u : Tree) (g : Option Tree) (o : Option (List (List ℕ) × List ℕ)) → last_apart parts ≡ o
    → option_and_then (λ r. (at_parts (part_removed r.1) r.0).0 t) o ≡ Some (g, u) → g ≡ found parts (at t)
removed_last parts t u g None apart h = absurd (cc h)
removed_last parts t u g (Some r) apart h = removed_seen parts r.0 r.1 t u g (apart_is parts r.0 r.1 apart) ((sights r.0).value t) h

pub removed_is_found : RemovedIsFound
removed_is_found path t u given h =
    let by = went_on (λ parts. at_last part_removed parts t) (parts_of path) (given, u) h in
    removed_last by.0 t u given (last_apart by.0) refl by.2 ∙ sym (pointer_by path by.0 t by.1)
