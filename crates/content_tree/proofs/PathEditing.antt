-- What removing and adding parts does to trees.
use Rattle.std.proofs.Common.{◌≡◌, ◌≢◌, ◌<◌, ◌≤◌, ◌+◌, ◌^◌, ◌∙◌, ap, sym, refl, subst, arith, ℕ, zero, suc, add-one, Bool, true, false, nat_eq, ◌||◌}
use Rattle.std.proofs.Common.{List, [], ◌∷◌, ◌++◌, length, get_or, take, drop, append_assoc, ne_eqb, ⊎_elim, if◌then◌else◌}
use Rattle.std.proofs.Common.{Option, Some, None, option_map, option_and_then, unwrap_or, IfSome, IsSome, Result, Ok, Err, Vec, Global}
use Rattle.std.specs.Option.{is_some, MatchOption}
use Rattle.std.specs.Str.{bytes_eq}
use Rattle.std.specs.Prelude.{string_bytes}
use Rattle.std.specs.declared.string.String.{String}
use Rattle.std.proofs.lemmas.Bool.{cases_Bool, false_from_ne_true}
use Rattle.std.proofs.lemmas.Option.{some_pair_parts}
use Rattle.std.proofs.lemmas.Slice.Eq.{bytes_eq-Decides}
use Rattle.content_tree.proofs.Cuts.{last_edited, none_last}
use Rattle.content_tree.proofs.Editing.{here, last_at, none_removed, removed_at as entry_removed_at, seen_added, pair_seen}
use Rattle.content_tree.proofs.Following.{key_is, no_key}
use Rattle.content_tree.proofs.Indexes.{same_index}
use Rattle.content_tree.proofs.Pieces.{spelled, unescape-escape, read_plain}
use Rattle.content_tree.proofs.Sights.{found, Traded, traded_seen, Untraded, untraded_seen}
use Rattle.content_tree.proofs.Views.{tree_of-Seq, tree_of-Map, tree_of-String}
use Rattle.content_tree.specs.Values.Edits.{IsLastKey, IsRefused, pair_removed, item_added, pair_added}
use Rattle.content_tree.specs.Values.Lookups.{is_text, last_value, or_else}
use Rattle.content_tree.specs.Values.PathEdits.{Edited, around, at_parts, at_last, replaced, item_removed, part_removed}
use Rattle.content_tree.specs.Values.PathEdits.{part_added, names_end, removed_at, set_at, IsTakenOut}
use Rattle.content_tree.specs.Values.Paths.{escape, unescape, parts_of, index_of}
use Rattle.content_tree.specs.Values.Places.{is_key}
use Rattle.content_tree.specs.Values.Pointers.{pointer, at, follow, value_at}
use Rattle.content_tree.specs.Values.Trades.{IsTraded, traded, IsAdded, HasNoSlash, piece_removed, piece_added, added_at}
use Rattle.content_tree.specs.Values.Tree.{Tree, seq, map, tree_then, count}
use Rattle.content_tree.specs.Values.Value.{tree_of, trees_view, pairs_view}
use Rattle.content_tree.specs.declared.edits.InsertError.{InsertError}
use Rattle.content_tree.specs.declared.edits.InsertError.TheVariants.{NoPlace, OutOfMemory}
use Rattle.content_tree.specs.declared.cow.CowStr.TheVariants as cow
use Rattle.content_tree.specs.declared.value.NamedValue as value
use Rattle.content_tree.specs.declared.value.NamedValue.{NamedValue}

-- ---- removing from what holds a part

item_gone : (vs : List NamedValue) (n : ℕ) (d : NamedValue) → n < length vs
    → item_removed n (trees_view vs) ≡ Some (Some (tree_of (get_or vs n d)), trees_view (take n vs ++ drop (suc n) vs))
item_gone [] n d less = absurd (omega arith)
item_gone (v ∷ vs) zero d less = refl
item_gone (v ∷ vs) (suc n) d less = ap (around (tree_then (tree_of v))) (item_gone vs n d (omega arith))

no_item : (vs : List NamedValue) (n : ℕ) → length vs ≤ n → item_removed n (trees_view vs) ≡ None
no_item [] n past = refl
no_item (v ∷ vs) zero past = absurd (omega arith)
no_item (v ∷ vs) (suc n) past = ap (around (tree_then (tree_of v))) (no_item vs n (omega arith))

item_out_by : (o : Option (List ℕ)) (vs : List NamedValue) (n : ℕ) (d : NamedValue) → option_and_then index_of o ≡ Some n → n < length vs
    → option_and_then (λ part. part_removed part (seq (trees_view vs))) o
    ≡ Some (Some (tree_of (get_or vs n d)), seq (trees_view (take n vs ++ drop (suc n) vs)))
item_out_by None vs n d e less = absurd (cc e)
item_out_by (Some part) vs n d e less =
    ap (λ i. around seq (option_and_then (λ k. item_removed k (trees_view vs)) i)) e ∙ ap (around seq) (item_gone vs n d less)

pub item_out : (piece : List ℕ) (vs rest : List NamedValue) (n : ℕ) (w : NamedValue) → index_of piece ≡ Some n → n < length vs
    → w ≡ get_or vs n w → rest ≡ take n vs ++ drop (suc n) vs
    → piece_removed piece (seq (trees_view vs)) ≡ Some (Some (tree_of w), seq (trees_view rest))
item_out piece vs rest n w e less is left =
    item_out_by (unescape piece) vs n w (same_index piece (unescape piece) _ refl refl ∙ e) less
    ∙ (λ i. Some (Some (tree_of (sym is i)), seq (trees_view (sym left i))))

past_out : (vs : List NamedValue) (o : Option ℕ) → IfSome o (λ n. length vs ≤ n) → option_and_then (λ n. item_removed n (trees_view vs)) o ≡ None
past_out vs None past = refl
past_out vs (Some n) past = no_item vs n past

item_stays_by : (o : Option (List ℕ)) (vs : List NamedValue) → IfSome (option_and_then index_of o) (λ n. length vs ≤ n)
    → option_and_then (λ part. part_removed part (seq (trees_view vs))) o ≡ None
item_stays_by None vs past = refl
item_stays_by (Some part) vs past = ap (around seq) (past_out vs (index_of part) past)

pub item_stays : (piece : List ℕ) (vs : List NamedValue) → IfSome (index_of piece) (λ n. length vs ≤ n) → piece_removed piece (seq (trees_view vs)) ≡ None
item_stays piece vs past =
    item_stays_by (unescape piece) vs (subst (λ o. IfSome o (λ n. length vs ≤ n)) (sym (same_index piece (unescape piece) _ refl refl)) past)

key_same : (part : List ℕ) → is_key (Some part) ≡ is_text part
key_same part = λ i k. key_is part k i

entry_out_by : (o : Option (List ℕ)) (ps : List (NamedValue × NamedValue)) (n : ℕ) → IsLastKey (is_key o) ps (Some n)
    → option_and_then (λ part. part_removed part (map (pairs_view ps))) o
    ≡ Some (Some (tree_of (get_or ps n here).1), map (pairs_view (take n ps ++ drop (suc n) ps)))
entry_out_by None ps n last = let is = last.1 here in let not = no_key (tree_of (get_or ps n here).0) in absurd (cc (is, not))
entry_out_by (Some part) ps n last =
    let own : IsLastKey (is_text part) ps (Some n) = subst (λ test. IsLastKey test ps (Some n)) (key_same part) last in
    let after = rw add-one at own.2 in
    ap (option_map (λ rest. (last_value (is_text part) (pairs_view ps), map rest))) (entry_removed_at (is_text part) ps n here own.0 (own.1 here) after)
    ∙ ap (λ o. Some (o, map (pairs_view (take n ps ++ drop (suc n) ps)))) (last_at (is_text part) ps n here own)

pub entry_out : (piece : List ℕ) (ps rest : List (NamedValue × NamedValue)) (n : ℕ) (w : NamedValue) → IsLastKey (is_key (unescape piece)) ps (Some n)
    → w ≡ (get_or ps n here).1 → rest ≡ take n ps ++ drop (suc n) ps
    → piece_removed piece (map (pairs_view ps)) ≡ Some (Some (tree_of w), map (pairs_view rest))
entry_out piece ps rest n w last is left =
    entry_out_by (unescape piece) ps n last ∙ (λ i. Some (Some (tree_of (sym is i)), map (pairs_view (sym left i))))

entry_stays_by : (o : Option (List ℕ)) (ps : List (NamedValue × NamedValue)) → last_value (is_key o) (pairs_view ps) ≡ None
    → option_and_then (λ part. part_removed part (map (pairs_view ps))) o ≡ None
entry_stays_by None ps none = refl
entry_stays_by (Some part) ps none =
    ap (option_map (λ rest. (last_value (is_text part) (pairs_view ps), map rest)))
    (none_removed (is_text part) (pairs_view ps) (subst (λ test. last_value test (pairs_view ps) ≡ None) (key_same part) none))

pub entry_stays : (piece : List ℕ) (ps : List (NamedValue × NamedValue)) → IsLastKey (is_key (unescape piece)) ps None → piece_removed piece (map (pairs_view ps)) ≡ None
entry_stays piece ps none = entry_stays_by (unescape piece) ps none

pub seq_out : (piece : List ℕ) (before after : Vec NamedValue Global) (given : Option NamedValue)
    → IsTakenOut (piece_removed piece (seq (trees_view before.items))) (seq (trees_view before.items)) given (seq (trees_view after.items))
    → IsTakenOut (piece_removed piece (tree_of (value.Seq before))) (tree_of (value.Seq before)) given (tree_of (value.Seq after))
seq_out piece before after given h = rw (tree_of-Seq before, tree_of-Seq after) h

pub map_out : (piece : List ℕ) (before after : Vec (NamedValue × NamedValue) Global) (given : Option NamedValue)
    → IsTakenOut (piece_removed piece (map (pairs_view before.items))) (map (pairs_view before.items)) given (map (pairs_view after.items))
    → IsTakenOut (piece_removed piece (tree_of (value.Map before))) (tree_of (value.Map before)) given (tree_of (value.Map after))
map_out piece before after given h = rw (tree_of-Map before, tree_of-Map after) h

-- a map with an entry under an owned text
pub entry_in : (piece : List ℕ) (t : String Global) (v : NamedValue) (ps after : List (NamedValue × NamedValue)) → Some (string_bytes t) ≡ unescape piece
    → after ≡ ps ++ (value.String (cow.Owned t), v) ∷ [] → piece_added piece (tree_of v) (map (pairs_view ps)) ≡ Some (None, map (pairs_view after))
entry_in piece t v ps after h more =
    ap (option_and_then (λ part. part_added (tree_of v) part (map (pairs_view ps)))) (sym h)
    ∙ ap (λ qs. Some (None, map qs)) (sym (ap pairs_view more ∙ (pair_seen ps (value.String (cow.Owned t)) v
    ∙ ap (λ k. pair_added k (tree_of v) (pairs_view ps)) (tree_of-String (cow.Owned t)))))

fits_by : (v : Tree) (ps : List (NamedValue × NamedValue)) (o : Option (List ℕ)) → IsSome o → is_some (option_and_then (λ part. part_added v part (map (pairs_view ps))) o) ≡ true
fits_by v ps None h = absurd (cc h)
fits_by v ps (Some part) h = refl

pub entry_fits : (piece : List ℕ) (v : Tree) (ps : List (NamedValue × NamedValue)) → IsSome (unescape piece) → is_some (piece_added piece v (map (pairs_view ps))) ≡ true
entry_fits piece v ps h = fits_by v ps (unescape piece) h

-- nothing comes of a part where nothing can
pub nothing_out : {A : Type 0} (o : Option (List ℕ)) → ◌≡◌ {A = Edited A} (option_and_then (λ part. None) o) None
nothing_out None = refl
nothing_out (Some part) = refl

-- ---- adding to what holds parts

added_by : (o : Option (List ℕ)) (ends : Bool) (v : Tree) (vs : List NamedValue) → MatchOption o (ends ≡ false) (λ part. ends ≡ names_end part (trees_view vs))
    → option_and_then (λ part. part_added v part (seq (trees_view vs))) o ≡ (if ends then Some (None, seq (item_added v (trees_view vs))) else None)
added_by None ends v vs h = sym (ap (λ b. if b then Some (None, seq (item_added v (trees_view vs))) else None) h)
added_by (Some part) ends v vs h = ap (λ b. if b then Some (None, seq (item_added v (trees_view vs))) else None) (sym h)

pub item_in : (piece : List ℕ) (ends : Bool) (v : NamedValue) (vs after : List NamedValue)
    → MatchOption (unescape piece) (ends ≡ false) (λ part. ends ≡ names_end part (trees_view vs)) → ends ≡ true → after ≡ vs ++ v ∷ []
    → piece_added piece (tree_of v) (seq (trees_view vs)) ≡ Some (None, seq (trees_view after))
item_in piece ends v vs after h is more =
    added_by (unescape piece) ends (tree_of v) vs h
    ∙ (ap (λ b. if b then Some (None, seq (item_added (tree_of v) (trees_view vs))) else None) is
    ∙ ap (λ ts. Some (None, seq ts)) (sym (seen_added vs v) ∙ ap trees_view (sym more)))

pub item_fits : (piece : List ℕ) (ends : Bool) (v : NamedValue) (vs : List NamedValue)
    → MatchOption (unescape piece) (ends ≡ false) (λ part. ends ≡ names_end part (trees_view vs))
    → is_some (piece_added piece (tree_of v) (seq (trees_view vs))) ≡ ends
item_fits piece true v vs h = ap is_some (added_by (unescape piece) true (tree_of v) vs h)
item_fits piece false v vs h = ap is_some (added_by (unescape piece) false (tree_of v) vs h)

pub seq_in : {T : Type 0} (piece : List ℕ) (v : NamedValue) (before after : Vec NamedValue Global) (r : Result T (InsertError NamedValue))
    → IsAdded (piece_added piece (tree_of v) (seq (trees_view before.items))) (seq (trees_view before.items)) v (seq (trees_view after.items)) r
    → IsAdded (piece_added piece (tree_of v) (tree_of (value.Seq before))) (tree_of (value.Seq before)) v (tree_of (value.Seq after)) r
seq_in piece v before after r h = rw (tree_of-Seq before, tree_of-Seq after) h

pub map_in : {T : Type 0} (piece : List ℕ) (v : NamedValue) (before after : Vec (NamedValue × NamedValue) Global) (r : Result T (InsertError NamedValue))
    → IsAdded (piece_added piece (tree_of v) (map (pairs_view before.items))) (map (pairs_view before.items)) v (map (pairs_view after.items)) r
    → IsAdded (piece_added piece (tree_of v) (tree_of (value.Map before))) (tree_of (value.Map before)) v (tree_of (value.Map after)) r
map_in piece v before after r h = rw (tree_of-Map before, tree_of-Map after) h

-- ---- taken out, changed and put back

removed_is : (piece : List ℕ) (t : Tree) → option_and_then (λ part. part_removed part t) (unescape piece) ≡ piece_removed piece t
removed_is piece (seq ts) = refl
removed_is piece (map ps) = refl
removed_is piece t = nothing_out (unescape piece)

added_is : (piece : List ℕ) (v t : Tree) → option_and_then (λ part. part_added v part t) (unescape piece) ≡ piece_added piece v t
added_is piece v (seq ts) = refl
added_is piece v (map ps) = refl
added_is piece v t = nothing_out (unescape piece)

-- the edit at the last part, where the others lead to a value that was taken out
module _ (edit : List ℕ → Tree → Edited Tree) (parts : List (List ℕ)) (old mid x u : Tree) (s : Traded parts old mid x u) where
  -- what is put back is what is left
  left_is : (v new : Tree) (g : Option Tree) → (at_parts (replaced v) parts).0 mid ≡ Some (g, new) → s.rest v ≡ new
  left_is v new g h = (some_pair_parts (Some x) g (s.rest v) new (sym (s.again v) ∙ h)).1

  made_last : (o : Option (List ℕ)) (v new : Tree) (h g : Option Tree) → (at_parts (replaced v) parts).0 mid ≡ Some (h, new)
      → option_and_then (λ part. edit part u) o ≡ Some (g, v) → option_and_then (λ part. (at_parts (edit part) parts).0 old) o ≡ Some (g, new)
  made_last None v new h g put made = absurd (cc made)
  made_last (Some part) v new h g put made =
      s.edited (edit part) ∙ (ap (around s.rest) made ∙ ap (λ t. Some (g, t)) (left_is v new h put))

  unmade_last : (o : Option (List ℕ)) → option_and_then (λ part. edit part u) o ≡ None → option_and_then (λ part. (at_parts (edit part) parts).0 old) o ≡ None
  unmade_last None none = refl
  unmade_last (Some part) none = s.edited (edit part) ∙ ap (around s.rest) none

  -- what was not changed is back
  back : (v new : Tree) (h : Option Tree) → (at_parts (replaced v) parts).0 mid ≡ Some (h, new) → v ≡ u → new ≡ old
  back v new h put same = sym (left_is v new h put) ∙ (ap s.rest same ∙ s.same)

-- a trade by a path is one by its parts
traded_by : (os : Option (List (List ℕ))) (v t : Tree) (e : Option Tree × Tree)
    → option_and_then (λ parts. (at_parts (replaced v) parts).0 t) os ≡ Some e → (parts : List (List ℕ)) × (os ≡ Some parts) × ((at_parts (replaced v) parts).0 t ≡ Some e)
traded_by None v t e h = absurd (cc h)
traded_by (Some parts) v t e h = (parts, refl, h)

-- where it led to a value, it does again
traded_again : (front : List ℕ) (parts : List (List ℕ)) (old mid x u : Tree) (v : NamedValue) (new : Tree) (r : Result NamedValue NamedValue) → parts_of front ≡ Some parts
    → Traded parts old mid x u → IsTraded (traded front (tree_of v) mid) mid v new r → (h : Option Tree) × ((at_parts (replaced (tree_of v)) parts).0 mid ≡ Some (h, new))
traded_again front parts old mid x u v new (Ok back) is s h =
    (Some (tree_of back), sym (ap (option_and_then (λ ps. (at_parts (replaced (tree_of v)) ps).0 mid)) is) ∙ h)
traded_again front parts old mid x u v new (Err back) is s h =
    let none = sym (ap (option_and_then (λ ps. (at_parts (replaced (tree_of v)) ps).0 mid)) is) ∙ h.0 in
    let some = s.again (tree_of v) in absurd (cc (none, some))

pub removed_back : (path front last : List ℕ) (old mid new : Tree) (x parent changed : NamedValue) (given : Option NamedValue) (r : Result NamedValue NamedValue)
    → path ≡ front ++ 47 ∷ last → HasNoSlash last
    → IsTraded (traded front (tree_of x) old) old x mid (Ok parent)
    → IsTakenOut (piece_removed last (tree_of parent)) (tree_of parent) given (tree_of changed)
    → IsTraded (traded front (tree_of changed) mid) mid changed new r
    → IsTakenOut (removed_at path old) old given new
removed_back path front last old mid new x parent changed (Some w) r e slash out h put =
    let by = traded_by (parts_of front) (tree_of x) old (Some (tree_of parent), mid) out in
    let s = traded_seen by.0 old mid (tree_of x) (tree_of parent) by.2 in
    let again = traded_again front by.0 old mid (tree_of x) (tree_of parent) changed new r by.1 s put in
    last_edited part_removed path front last old e slash
    ∙ (ap (option_and_then (λ parts. option_and_then (λ part. (at_parts (part_removed part) parts).0 old) (unescape last))) by.1
    ∙ made_last part_removed by.0 old mid (tree_of x) (tree_of parent) s (unescape last) (tree_of changed) new again.0 (Some (tree_of w)) again.1 (removed_is last (tree_of parent) ∙ h))
removed_back path front last old mid new x parent changed None r e slash out h put =
    let by = traded_by (parts_of front) (tree_of x) old (Some (tree_of parent), mid) out in
    let s = traded_seen by.0 old mid (tree_of x) (tree_of parent) by.2 in
    let again = traded_again front by.0 old mid (tree_of x) (tree_of parent) changed new r by.1 s put in (
      last_edited part_removed path front last old e slash
          ∙ (ap (option_and_then (λ parts. option_and_then (λ part. (at_parts (part_removed part) parts).0 old) (unescape last))) by.1
          ∙ unmade_last part_removed by.0 old mid (tree_of x) (tree_of parent) s (unescape last) (removed_is last (tree_of parent) ∙ h.0)),
      back part_removed by.0 old mid (tree_of x) (tree_of parent) s (tree_of changed) new again.0 again.1 h.1,
    )

-- where nothing can be traded, nothing is edited by a last part
nowhere : (edit : List ℕ → Tree → Edited Tree) (o : Option (List ℕ)) (os : Option (List (List ℕ))) (x t : Tree)
    → option_and_then (λ parts. (at_parts (replaced x) parts).0 t) os ≡ None
    → option_and_then (λ parts. option_and_then (λ part. (at_parts (edit part) parts).0 t) o) os ≡ None
nowhere edit o None x t h = refl
nowhere edit None (Some parts) x t h = refl
nowhere edit (Some part) (Some parts) x t h = let s = untraded_seen parts t x h in s.unmade (edit part)

pub not_removed : (path front last : List ℕ) (old mid : Tree) (x own : NamedValue) → path ≡ front ++ 47 ∷ last → HasNoSlash last
    → IsTraded (traded front (tree_of x) old) old x mid (Err own) → (removed_at path old ≡ None) × (mid ≡ old)
not_removed path front last old mid x own e slash h = (
  last_edited part_removed path front last old e slash ∙ nowhere part_removed (unescape last) (parts_of front) (tree_of x) old h.0,
  h.1,
)

some_around : {A B : Type 0} (f : A → B) (e : Edited A) → is_some (around f e) ≡ is_some e
some_around f None = refl
some_around f (Some e) = refl

fits_last : (edit : List ℕ → Tree → Edited Tree) (parts : List (List ℕ)) (old mid x u : Tree) → Traded parts old mid x u → (o : Option (List ℕ))
    → is_some (option_and_then (λ part. (at_parts (edit part) parts).0 old) o) ≡ is_some (option_and_then (λ part. edit part u) o)
fits_last edit parts old mid x u s None = refl
fits_last edit parts old mid x u s (Some part) = ap is_some (s.edited (edit part)) ∙ some_around s.rest (edit part u)

pub added_back : {T : Type 0} (path front last : List ℕ) (old mid new : Tree) (x parent changed v : NamedValue) (a : Result T (InsertError NamedValue)) (r : Result NamedValue NamedValue)
    → path ≡ front ++ 47 ∷ last → HasNoSlash last
    → IsTraded (traded front (tree_of x) old) old x mid (Ok parent)
    → IsAdded (piece_added last (tree_of v) (tree_of parent)) (tree_of parent) v (tree_of changed) a
    → IsTraded (traded front (tree_of changed) mid) mid changed new r
    → IsAdded (added_at path (tree_of v) old) old v new a
added_back path front last old mid new x parent changed v (Ok done) r e slash out h put =
    let by = traded_by (parts_of front) (tree_of x) old (Some (tree_of parent), mid) out in
    let s = traded_seen by.0 old mid (tree_of x) (tree_of parent) by.2 in
    let again = traded_again front by.0 old mid (tree_of x) (tree_of parent) changed new r by.1 s put in
    last_edited (part_added (tree_of v)) path front last old e slash
    ∙ (ap (option_and_then (λ parts. option_and_then (λ part. (at_parts (part_added (tree_of v) part) parts).0 old) (unescape last))) by.1
    ∙ made_last (part_added (tree_of v)) by.0 old mid (tree_of x) (tree_of parent) s (unescape last) (tree_of changed) new again.0 None again.1 (added_is last (tree_of v) (tree_of parent) ∙ h))
added_back path front last old mid new x parent changed v (Err f) r e slash out h put =
    let by = traded_by (parts_of front) (tree_of x) old (Some (tree_of parent), mid) out in
    let s = traded_seen by.0 old mid (tree_of x) (tree_of parent) by.2 in
    let again = traded_again front by.0 old mid (tree_of x) (tree_of parent) changed new r by.1 s put in
    let whole = last_edited (part_added (tree_of v)) path front last old e slash
    ∙ ap (option_and_then (λ parts. option_and_then (λ part. (at_parts (part_added (tree_of v) part) parts).0 old) (unescape last))) by.1 in
    let fits : is_some (added_at path (tree_of v) old) ≡ is_some (piece_added last (tree_of v) (tree_of parent)) =
    ap is_some whole ∙ fits_last (part_added (tree_of v)) by.0 old mid (tree_of x) (tree_of parent) s (unescape last)
    ∙ ap is_some (added_is last (tree_of v) (tree_of parent)) in (
      back (part_added (tree_of v)) by.0 old mid (tree_of x) (tree_of parent) s (tree_of changed) new again.0 again.1 h.0,
      subst (λ b. IsRefused b v f) (sym fits) h.1,
    )

pub not_added : (T : Type 0) (path front last : List ℕ) (old mid : Tree) (x own v : NamedValue) → path ≡ front ++ 47 ∷ last → HasNoSlash last
    → IsTraded (traded front (tree_of x) old) old x mid (Err own) → IsAdded {T = T} (added_at path (tree_of v) old) old v mid (Err (NoPlace v))
not_added T path front last old mid x own v e slash h = (
  h.1,
  (
    refl,
    ap is_some (last_edited (part_added (tree_of v)) path front last old e slash
        ∙ nowhere (part_added (tree_of v)) (unescape last) (parts_of front) (tree_of x) old h.0),
  ),
)

-- ---- setting

set_by : (os : Option (List (List ℕ))) (a b : List (List ℕ) → Edited Tree) (e : Option Tree × Tree) → option_and_then a os ≡ Some e
    → option_and_then (λ parts. or_else (a parts) (b parts)) os ≡ Some e
set_by None a b e h = absurd (cc h)
set_by (Some parts) a b e h = ap (λ o. or_else o (b parts)) h

pub set_made : (path : List ℕ) (v before : NamedValue) (old new : Tree) → IsTraded (traded path (tree_of v) old) old v new (Ok before)
    → set_at path (tree_of v) old ≡ Some (Some (tree_of before), new)
set_made path v before old new h =
    set_by (parts_of path) (λ parts. (at_parts (replaced (tree_of v)) parts).0 old) (λ parts. at_last (part_added (tree_of v)) parts old) (Some (tree_of before), new) h

unset_by : (os : Option (List (List ℕ))) (a b : List (List ℕ) → Edited Tree) → option_and_then a os ≡ None
    → option_and_then (λ parts. or_else (a parts) (b parts)) os ≡ option_and_then b os
unset_by None a b h = refl
unset_by (Some parts) a b h = ap (λ o. or_else o (b parts)) h

pub set_added : (path : List ℕ) (v t : Tree) → traded path v t ≡ None → set_at path v t ≡ added_at path v t
set_added path v t h =
    unset_by (parts_of path) (λ parts. (at_parts (replaced v) parts).0 t) (λ parts. at_last (part_added v) parts t) h

found_by : (os : Option (List (List ℕ))) (v t before new : Tree) → option_and_then (λ parts. (at_parts (replaced v) parts).0 t) os ≡ Some (Some before, new)
    → option_and_then value_at (option_and_then (λ parts. follow parts (at t)) os) ≡ Some before
found_by None v t before new h = absurd (cc h)
found_by (Some parts) v t before new h = let s = traded_seen parts t new v before h in s.seen

pub set_found : (path : List ℕ) (v before : NamedValue) (old new : Tree) → IsTraded (traded path (tree_of v) old) old v new (Ok before)
    → pointer path old ≡ Some (tree_of before)
set_found path v before old new h = found_by (parts_of path) (tree_of v) old (tree_of before) new h

missing_by : (os : Option (List (List ℕ))) (v t : Tree) → option_and_then (λ parts. (at_parts (replaced v) parts).0 t) os ≡ None
    → option_and_then value_at (option_and_then (λ parts. follow parts (at t)) os) ≡ None
missing_by None v t h = refl
missing_by (Some parts) v t h = let s = untraded_seen parts t v h in s.missing

pub set_missing : (path : List ℕ) (v t : Tree) → traded path v t ≡ None → pointer path t ≡ None
set_missing path v t h = missing_by (parts_of path) v t h

-- ---- the end of the items

counted : (vs : List NamedValue) → count (trees_view vs) ≡ length vs
counted [] = refl
counted (v ∷ vs) = ap suc (counted vs)

no_dash : (piece part : List ℕ) → unescape piece ≡ Some part → false ≡ bytes_eq piece (45 ∷ []) → bytes_eq part (45 ∷ []) ≡ false
no_dash piece part e other =
    false_from_ne_true _ (λ t.
    let same : part ≡ 45 ∷ [] = (bytes_eq-Decides part (45 ∷ [])).0 t in
    let own : piece ≡ 45 ∷ [] = spelled piece part e ∙ ap escape same in
    let is : bytes_eq piece (45 ∷ []) ≡ true = (bytes_eq-Decides piece (45 ∷ [])).1 own in absurd (cc (other, is)))

ends_by : (piece : List ℕ) (o : Option (List ℕ)) (vs : List NamedValue) (b : Bool) → unescape piece ≡ o → false ≡ bytes_eq piece (45 ∷ [])
    → b ≡ unwrap_or (option_map (λ n. nat_eq n (length vs)) (index_of piece)) false → MatchOption o (b ≡ false) (λ part. b ≡ names_end part (trees_view vs))
ends_by piece None vs b e other is =
    is ∙ ap (λ i. unwrap_or (option_map (λ n. nat_eq n (length vs)) i) false) (sym (same_index piece None _ e refl))
ends_by piece (Some part) vs b e other is =
    is ∙ (ap (λ i. unwrap_or (option_map (λ n. nat_eq n (length vs)) i) false) (sym (same_index piece (Some part) _ e refl))
    ∙ (λ i. sym (no_dash piece part e other) i || unwrap_or (option_map (λ n. nat_eq n (sym (counted vs) i)) (index_of part)) false))

pub ends_index : (piece : List ℕ) (vs : List NamedValue) (index : ℕ) → false ≡ bytes_eq piece (45 ∷ []) → index_of piece ≡ Some index
    → MatchOption (unescape piece) (nat_eq index (length vs) ≡ false) (λ part. nat_eq index (length vs) ≡ names_end part (trees_view vs))
ends_index piece vs index other e =
    ends_by piece (unescape piece) vs (nat_eq index (length vs)) refl other (sym (ap (λ i. unwrap_or (option_map (λ n. nat_eq n (length vs)) i) false) e))

not_end : (vs : List NamedValue) (o : Option ℕ) → length vs < 2 ^ 64 → IfSome o (λ n. 2 ^ 64 ≤ n) → false ≡ unwrap_or (option_map (λ n. nat_eq n (length vs)) o) false
not_end vs None small large = refl
not_end vs (Some n) small large = sym (ne_eqb n (length vs) (λ e. omega arith))

pub ends_none : (piece : List ℕ) (vs : List NamedValue) → length vs < 2 ^ 64 → false ≡ bytes_eq piece (45 ∷ []) → IfSome (index_of piece) (λ n. 2 ^ 64 ≤ n)
    → MatchOption (unescape piece) (false ≡ false) (λ part. false ≡ names_end part (trees_view vs))
ends_none piece vs small other large = ends_by piece (unescape piece) vs false refl other (not_end vs (index_of piece) small large)

pub ruleset path_editing = (seq_out, map_out, seq_in, map_in)
