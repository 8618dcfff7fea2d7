-- What trading a value along a path does to trees.
use Rattle.std.proofs.Common.{◌≡◌, ◌<◌, ◌≤◌, ◌+◌, ◌∙◌, ap, sym, refl, subst, ℕ, zero, suc, arith, add-one, length, get_or, drop, set}
use Rattle.std.proofs.Common.{Bool, true, false, List, [], ◌∷◌, Option, Some, None, option_map, option_and_then, if◌then◌else◌}
use Rattle.std.proofs.Common.{Result, Ok, Err, Vec, Box, Global, IfSome}
use Rattle.std.specs.Option.{is_some}
use Rattle.std.specs.Str.{bytes_eq}
use Rattle.content_tree.proofs.Editing.{or_none, if_none}
use Rattle.content_tree.proofs.Following.{key_is, no_key, field_is as fields_same}
use Rattle.content_tree.proofs.Indexes.{same_index}
use Rattle.content_tree.proofs.Views.{tree_of-Seq, tree_of-Tuple, tree_of-Map, tree_data_of-Tuple, tree_data_of-Struct}
use Rattle.content_tree.specs.Values.Edits.{IsLastKey}
use Rattle.content_tree.specs.Values.Lookups.{is_text, last_field, last_value, or_else}
use Rattle.content_tree.specs.Values.PathEdits.{Edited, around, at_item, at_part_of, at_value, at_field, at_part}
use Rattle.content_tree.specs.Values.PathEdits.{at_entered, at_step, at_parts, replaced}
use Rattle.content_tree.specs.Values.Paths.{unescape, parts_of, index_of}
use Rattle.content_tree.specs.Values.Places.{is_key, is_part, found_field}
use Rattle.content_tree.specs.Values.Text.{Text, text_of}
use Rattle.content_tree.specs.Values.Trades.{IsTraded, traded, traded_inside, traded_in, traded_part}
use Rattle.content_tree.specs.Values.Trades.{traded_item, traded_entry, traded_field, IsLastField, first_parts, is_one}
use Rattle.content_tree.specs.Values.Tree.{Tree, seq, map, tuple, structure, enumeration, TreeData, one, many, named}
use Rattle.content_tree.specs.Values.Tree.{Trees, tree_then, Pairs, no_pairs, pair_then, Fields, no_fields, field_then}
use Rattle.content_tree.specs.Values.Value.{tree_of, tree_data_of, trees_view, pairs_view, fields_view}
use Rattle.content_tree.specs.declared.cow.CowStr.{CowStr}
use Rattle.content_tree.specs.declared.value.NamedValue as value
use Rattle.content_tree.specs.declared.value.NamedData as held
use Rattle.content_tree.specs.declared.value.NamedValue.{NamedValue}

-- ---- an item

item_made : (edit : Tree → Edited Tree) (vs : List NamedValue) (n : ℕ) (d w : NamedValue) (g : Option Tree) → n < length vs
    → edit (tree_of (get_or vs n d)) ≡ Some (g, tree_of w) → at_item edit n (trees_view vs) ≡ Some (g, trees_view (set vs n w))
item_made edit [] n d w g less h = absurd (omega arith)
item_made edit (v ∷ vs) zero d w g less h = ap (around (λ u. tree_then u (trees_view vs))) h
item_made edit (v ∷ vs) (suc n) d w g less h = ap (around (tree_then (tree_of v))) (item_made edit vs n d w g (omega arith) h)

item_unmade : (edit : Tree → Edited Tree) (vs : List NamedValue) (n : ℕ) (d : NamedValue) → n < length vs
    → edit (tree_of (get_or vs n d)) ≡ None → at_item edit n (trees_view vs) ≡ None
item_unmade edit [] n d less h = absurd (omega arith)
item_unmade edit (v ∷ vs) zero d less h = ap (around (λ u. tree_then u (trees_view vs))) h
item_unmade edit (v ∷ vs) (suc n) d less h = ap (around (tree_then (tree_of v))) (item_unmade edit vs n d (omega arith) h)

item_kept : (vs : List NamedValue) (n : ℕ) (d w : NamedValue) → n < length vs → tree_of w ≡ tree_of (get_or vs n d) → trees_view (set vs n w) ≡ trees_view vs
item_kept [] n d w less h = absurd (omega arith)
item_kept (v ∷ vs) zero d w less h = ap (λ t. tree_then t (trees_view vs)) h
item_kept (v ∷ vs) (suc n) d w less h = ap (tree_then (tree_of v)) (item_kept vs n d w (omega arith) h)

-- there is none past the end
pub item_past : (edit : Tree → Edited Tree) (vs : List NamedValue) (n : ℕ) → length vs ≤ n → at_item edit n (trees_view vs) ≡ None
item_past edit [] n past = refl
item_past edit (v ∷ vs) zero past = absurd (omega arith)
item_past edit (v ∷ vs) (suc n) past = ap (around (tree_then (tree_of v))) (item_past edit vs n (omega arith))

-- ---- an entry

-- the last key that passes
last_is : (test : Tree → Bool) (ps : List (NamedValue × NamedValue)) (i : ℕ) (d : NamedValue × NamedValue) → i < length ps
    → test (tree_of (get_or ps i d).0) ≡ true → last_value test (pairs_view (drop (suc i) ps)) ≡ None
    → last_value test (pairs_view ps) ≡ Some (tree_of (get_or ps i d).1)
last_is test [] i d less is none = absurd (omega arith)
last_is test (p ∷ ps) zero d less is none =
    ap (λ o. or_else o (if test (tree_of p.0) then Some (tree_of p.1) else None)) none ∙ ap (λ b. if b then Some (tree_of p.1) else None) is
last_is test (p ∷ ps) (suc i) d less is none =
    ap (λ o. or_else o (if test (tree_of p.0) then Some (tree_of p.1) else None)) (last_is test ps i d (omega arith) is none)

-- the value at the last key, where none after it passes
entry_here : (edit : Tree → Edited Tree) (test : Tree → Bool) (k t : Tree) (ps : Pairs) → test k ≡ true → last_value test ps ≡ None
    → at_value edit test (pair_then k t ps) ≡ around (λ u. pair_then k u ps) (edit t)
entry_here edit test k t ps is none =
    ap (λ o. if is_some o then around (pair_then k t) (at_value edit test ps) else (if test k then around (λ u. pair_then k u ps) (edit t) else None)) none
    ∙ ap (λ b. if b then around (λ u. pair_then k u ps) (edit t) else None) is

-- or further on
entry_later : (edit : Tree → Edited Tree) (test : Tree → Bool) (k t found : Tree) (ps : Pairs) → last_value test ps ≡ Some found
    → at_value edit test (pair_then k t ps) ≡ around (pair_then k t) (at_value edit test ps)
entry_later edit test k t found ps some =
    ap (λ o. if is_some o then around (pair_then k t) (at_value edit test ps) else (if test k then around (λ u. pair_then k u ps) (edit t) else None)) some

-- there is none where no key passes
pub entry_missing : (edit : Tree → Edited Tree) (test : Tree → Bool) (ps : Pairs) → last_value test ps ≡ None → at_value edit test ps ≡ None
entry_missing edit test no_pairs h = refl
entry_missing edit test (pair_then k t ps) h =
    let parts = or_none (last_value test ps) (if test k then Some t else None) h in
    ap (λ o. if is_some o then around (pair_then k t) (at_value edit test ps) else (if test k then around (λ u. pair_then k u ps) (edit t) else None)) parts.0
    ∙ ap (λ b. if b then around (λ u. pair_then k u ps) (edit t) else None) (if_none (test k) t parts.1)

entry_made : (edit : Tree → Edited Tree) (test : Tree → Bool) (ps : List (NamedValue × NamedValue)) (i : ℕ) (d : NamedValue × NamedValue) (w : NamedValue) (g : Option Tree)
    → i < length ps → test (tree_of (get_or ps i d).0) ≡ true → last_value test (pairs_view (drop (suc i) ps)) ≡ None
    → edit (tree_of (get_or ps i d).1) ≡ Some (g, tree_of w) → at_value edit test (pairs_view ps) ≡ Some (g, pairs_view (set ps i ((get_or ps i d).0, w)))
entry_made edit test [] i d w g less is none h = absurd (omega arith)
entry_made edit test (p ∷ ps) zero d w g less is none h =
    entry_here edit test (tree_of p.0) (tree_of p.1) (pairs_view ps) is none ∙ ap (around (λ u. pair_then (tree_of p.0) u (pairs_view ps))) h
entry_made edit test (p ∷ ps) (suc i) d w g less is none h =
    entry_later edit test (tree_of p.0) (tree_of p.1) (tree_of (get_or ps i d).1) (pairs_view ps) (last_is test ps i d (omega arith) is none)
    ∙ ap (around (pair_then (tree_of p.0) (tree_of p.1))) (entry_made edit test ps i d w g (omega arith) is none h)

entry_unmade : (edit : Tree → Edited Tree) (test : Tree → Bool) (ps : List (NamedValue × NamedValue)) (i : ℕ) (d : NamedValue × NamedValue)
    → i < length ps → test (tree_of (get_or ps i d).0) ≡ true → last_value test (pairs_view (drop (suc i) ps)) ≡ None
    → edit (tree_of (get_or ps i d).1) ≡ None → at_value edit test (pairs_view ps) ≡ None
entry_unmade edit test [] i d less is none h = absurd (omega arith)
entry_unmade edit test (p ∷ ps) zero d less is none h =
    entry_here edit test (tree_of p.0) (tree_of p.1) (pairs_view ps) is none ∙ ap (around (λ u. pair_then (tree_of p.0) u (pairs_view ps))) h
entry_unmade edit test (p ∷ ps) (suc i) d less is none h =
    entry_later edit test (tree_of p.0) (tree_of p.1) (tree_of (get_or ps i d).1) (pairs_view ps) (last_is test ps i d (omega arith) is none)
    ∙ ap (around (pair_then (tree_of p.0) (tree_of p.1))) (entry_unmade edit test ps i d (omega arith) is none h)

entry_kept : (ps : List (NamedValue × NamedValue)) (i : ℕ) (d : NamedValue × NamedValue) (w : NamedValue) → i < length ps
    → tree_of w ≡ tree_of (get_or ps i d).1 → pairs_view (set ps i ((get_or ps i d).0, w)) ≡ pairs_view ps
entry_kept [] i d w less h = absurd (omega arith)
entry_kept (p ∷ ps) zero d w less h = ap (λ t. pair_then (tree_of p.0) t (pairs_view ps)) h
entry_kept (p ∷ ps) (suc i) d w less h = ap (pair_then (tree_of p.0) (tree_of p.1)) (entry_kept ps i d w (omega arith) h)

-- ---- a field

field_is : (key : List ℕ) (fs : List (CowStr × NamedValue)) (i : ℕ) (d : CowStr × NamedValue) → i < length fs
    → bytes_eq (text_of (get_or fs i d).0).content key ≡ true → last_field key (fields_view (drop (suc i) fs)) ≡ None
    → last_field key (fields_view fs) ≡ Some (tree_of (get_or fs i d).1)
field_is key [] i d less is none = absurd (omega arith)
field_is key (f ∷ fs) zero d less is none =
    ap (λ o. or_else o (if bytes_eq (text_of f.0).content key then Some (tree_of f.1) else None)) none ∙ ap (λ b. if b then Some (tree_of f.1) else None) is
field_is key (f ∷ fs) (suc i) d less is none =
    ap (λ o. or_else o (if bytes_eq (text_of f.0).content key then Some (tree_of f.1) else None)) (field_is key fs i d (omega arith) is none)

field_here : (edit : Tree → Edited Tree) (key : List ℕ) (k : Text) (t : Tree) (fs : Fields) → bytes_eq k.content key ≡ true → last_field key fs ≡ None
    → at_field edit key (field_then k t fs) ≡ around (λ u. field_then k u fs) (edit t)
field_here edit key k t fs is none =
    ap (λ o. if is_some o then around (field_then k t) (at_field edit key fs) else (if bytes_eq k.content key then around (λ u. field_then k u fs) (edit t) else None)) none
    ∙ ap (λ b. if b then around (λ u. field_then k u fs) (edit t) else None) is

field_later : (edit : Tree → Edited Tree) (key : List ℕ) (k : Text) (t found : Tree) (fs : Fields) → last_field key fs ≡ Some found
    → at_field edit key (field_then k t fs) ≡ around (field_then k t) (at_field edit key fs)
field_later edit key k t found fs some =
    ap (λ o. if is_some o then around (field_then k t) (at_field edit key fs) else (if bytes_eq k.content key then around (λ u. field_then k u fs) (edit t) else None)) some

pub field_missing : (edit : Tree → Edited Tree) (key : List ℕ) (fs : Fields) → last_field key fs ≡ None → at_field edit key fs ≡ None
field_missing edit key no_fields h = refl
field_missing edit key (field_then k t fs) h =
    let parts = or_none (last_field key fs) (if bytes_eq k.content key then Some t else None) h in
    ap (λ o. if is_some o then around (field_then k t) (at_field edit key fs) else (if bytes_eq k.content key then around (λ u. field_then k u fs) (edit t) else None)) parts.0
    ∙ ap (λ b. if b then around (λ u. field_then k u fs) (edit t) else None) (if_none (bytes_eq k.content key) t parts.1)

field_made : (edit : Tree → Edited Tree) (key : List ℕ) (fs : List (CowStr × NamedValue)) (i : ℕ) (d : CowStr × NamedValue) (w : NamedValue) (g : Option Tree)
    → i < length fs → bytes_eq (text_of (get_or fs i d).0).content key ≡ true → last_field key (fields_view (drop (suc i) fs)) ≡ None
    → edit (tree_of (get_or fs i d).1) ≡ Some (g, tree_of w) → at_field edit key (fields_view fs) ≡ Some (g, fields_view (set fs i ((get_or fs i d).0, w)))
field_made edit key [] i d w g less is none h = absurd (omega arith)
field_made edit key (f ∷ fs) zero d w g less is none h =
    field_here edit key (text_of f.0) (tree_of f.1) (fields_view fs) is none ∙ ap (around (λ u. field_then (text_of f.0) u (fields_view fs))) h
field_made edit key (f ∷ fs) (suc i) d w g less is none h =
    field_later edit key (text_of f.0) (tree_of f.1) (tree_of (get_or fs i d).1) (fields_view fs) (field_is key fs i d (omega arith) is none)
    ∙ ap (around (field_then (text_of f.0) (tree_of f.1))) (field_made edit key fs i d w g (omega arith) is none h)

field_unmade : (edit : Tree → Edited Tree) (key : List ℕ) (fs : List (CowStr × NamedValue)) (i : ℕ) (d : CowStr × NamedValue)
    → i < length fs → bytes_eq (text_of (get_or fs i d).0).content key ≡ true → last_field key (fields_view (drop (suc i) fs)) ≡ None
    → edit (tree_of (get_or fs i d).1) ≡ None → at_field edit key (fields_view fs) ≡ None
field_unmade edit key [] i d less is none h = absurd (omega arith)
field_unmade edit key (f ∷ fs) zero d less is none h =
    field_here edit key (text_of f.0) (tree_of f.1) (fields_view fs) is none ∙ ap (around (λ u. field_then (text_of f.0) u (fields_view fs))) h
field_unmade edit key (f ∷ fs) (suc i) d less is none h =
    field_later edit key (text_of f.0) (tree_of f.1) (tree_of (get_or fs i d).1) (fields_view fs) (field_is key fs i d (omega arith) is none)
    ∙ ap (around (field_then (text_of f.0) (tree_of f.1))) (field_unmade edit key fs i d (omega arith) is none h)

field_kept : (fs : List (CowStr × NamedValue)) (i : ℕ) (d : CowStr × NamedValue) (w : NamedValue) → i < length fs
    → tree_of w ≡ tree_of (get_or fs i d).1 → fields_view (set fs i ((get_or fs i d).0, w)) ≡ fields_view fs
field_kept [] i d w less h = absurd (omega arith)
field_kept (f ∷ fs) zero d w less h = ap (λ t. field_then (text_of f.0) t (fields_view fs)) h
field_kept (f ∷ fs) (suc i) d w less h = ap (field_then (text_of f.0) (tree_of f.1)) (field_kept fs i d w (omega arith) h)

-- ---- what a trade of a part is of the whole

-- a trade of a part is one of the whole
lifted : {A B : Type 0} (e : Edited A) (e' : Edited B) (a a' : A) (b b' : B) (v : NamedValue) (r : Result NamedValue NamedValue)
    → ((g : Option Tree) → e ≡ Some (g, a') → e' ≡ Some (g, b')) → (e ≡ None → e' ≡ None) → (a' ≡ a → b' ≡ b)
    → IsTraded e a v a' r → IsTraded e' b v b' r
lifted e e' a a' b b' v (Ok before) made unmade kept h = made (Some (tree_of before)) h
lifted e e' a a' b b' v (Err back) made unmade kept h = (unmade h.0, kept h.1, h.2)

pub traded_whole : {A B : Type 0} (whole : A → B) (e : Edited A) (e' : Edited B) (a a' : A) (v : NamedValue) (r : Result NamedValue NamedValue)
    → e' ≡ around whole e → IsTraded e a v a' r → IsTraded e' (whole a) v (whole a') r
traded_whole whole e e' a a' v r is h =
    lifted e e' a a' (whole a) (whole a') v r (λ g some. is ∙ ap (around whole) some) (λ none. is ∙ ap (around whole) none) (ap whole) h

-- nothing was traded
pub untraded : {A : Type 0} (e : Edited A) (a : A) (v : NamedValue) → e ≡ None → IsTraded e a v a (Err v)
untraded e a v none = (none, refl, refl)

-- ---- by a piece

item_by_made : (o : Option (List ℕ)) (os : Option (List (List ℕ))) (v : Tree) (vs : List NamedValue) (n : ℕ) (d w : NamedValue) (g : Option Tree)
    → option_and_then index_of o ≡ Some n → n < length vs
    → option_and_then (λ parts. (at_parts (replaced v) parts).0 (tree_of (get_or vs n d))) os ≡ Some (g, tree_of w)
    → option_and_then (λ parts. option_and_then (λ part. at_part_of (at_parts (replaced v) parts).0 part (trees_view vs)) o) os ≡ Some (g, trees_view (set vs n w))
item_by_made o None v vs n d w g e less h = absurd (cc h)
item_by_made None (Some parts) v vs n d w g e less h = absurd (cc e)
item_by_made (Some part) (Some parts) v vs n d w g e less h =
    ap (option_and_then (λ k. at_item (at_parts (replaced v) parts).0 k (trees_view vs))) e ∙ item_made (at_parts (replaced v) parts).0 vs n d w g less h

item_by_unmade : (o : Option (List ℕ)) (os : Option (List (List ℕ))) (v : Tree) (vs : List NamedValue) (n : ℕ) (d : NamedValue)
    → option_and_then index_of o ≡ Some n → n < length vs
    → option_and_then (λ parts. (at_parts (replaced v) parts).0 (tree_of (get_or vs n d))) os ≡ None
    → option_and_then (λ parts. option_and_then (λ part. at_part_of (at_parts (replaced v) parts).0 part (trees_view vs)) o) os ≡ None
item_by_unmade o None v vs n d e less h = refl
item_by_unmade None (Some parts) v vs n d e less h = refl
item_by_unmade (Some part) (Some parts) v vs n d e less h =
    ap (option_and_then (λ k. at_item (at_parts (replaced v) parts).0 k (trees_view vs))) e ∙ item_unmade (at_parts (replaced v) parts).0 vs n d less h

pub item_traded : (piece rest : List ℕ) (v : NamedValue) (vs : List NamedValue) (n : ℕ) (d w : NamedValue) (r : Result NamedValue NamedValue)
    → index_of piece ≡ Some n → n < length vs
    → IsTraded (traded rest (tree_of v) (tree_of (get_or vs n d))) (tree_of (get_or vs n d)) v (tree_of w) r
    → IsTraded (traded_item piece rest (tree_of v) (trees_view vs)) (trees_view vs) v (trees_view (set vs n w)) r
item_traded piece rest v vs n d w r e less h =
    let index = same_index piece (unescape piece) _ refl refl ∙ e in
    lifted _ _ _ _ _ _ v r
    (λ g some. item_by_made (unescape piece) (parts_of rest) (tree_of v) vs n d w g index less some)
    (λ none. item_by_unmade (unescape piece) (parts_of rest) (tree_of v) vs n d index less none)
    (λ same. item_kept vs n d w less same) h

-- an index that no item has
beyond : (edit : Tree → Edited Tree) (vs : List NamedValue) (o : Option ℕ) → IfSome o (λ n. length vs ≤ n)
    → option_and_then (λ n. at_item edit n (trees_view vs)) o ≡ None
beyond edit vs None past = refl
beyond edit vs (Some n) past = item_past edit vs n past

item_by_missing : (o : Option (List ℕ)) (os : Option (List (List ℕ))) (v : Tree) (vs : List NamedValue) → IfSome (option_and_then index_of o) (λ n. length vs ≤ n)
    → option_and_then (λ parts. option_and_then (λ part. at_part_of (at_parts (replaced v) parts).0 part (trees_view vs)) o) os ≡ None
item_by_missing o None v vs past = refl
item_by_missing None (Some parts) v vs past = refl
item_by_missing (Some part) (Some parts) v vs past = beyond (at_parts (replaced v) parts).0 vs (index_of part) past

pub item_untraded : (piece rest : List ℕ) (v : NamedValue) (vs : List NamedValue) → IfSome (index_of piece) (λ n. length vs ≤ n)
    → IsTraded (traded_item piece rest (tree_of v) (trees_view vs)) (trees_view vs) v (trees_view vs) (Err v)
item_untraded piece rest v vs past =
    untraded _ (trees_view vs) v (item_by_missing (unescape piece) (parts_of rest) (tree_of v) vs
    (subst (λ o. IfSome o (λ n. length vs ≤ n)) (sym (same_index piece (unescape piece) _ refl refl)) past))

-- where a part is spelled, the key that passes is its text
key_same : (part : List ℕ) → is_key (Some part) ≡ is_text part
key_same part = λ i k. key_is part k i

entry_by_made : (o : Option (List ℕ)) (os : Option (List (List ℕ))) (v : Tree) (ps : List (NamedValue × NamedValue)) (n : ℕ) (d : NamedValue × NamedValue) (w : NamedValue) (g : Option Tree)
    → IsLastKey (is_key o) ps (Some n)
    → option_and_then (λ parts. (at_parts (replaced v) parts).0 (tree_of (get_or ps n d).1)) os ≡ Some (g, tree_of w)
    → option_and_then (λ parts. option_and_then (λ part. at_value (at_parts (replaced v) parts).0 (is_text part) (pairs_view ps)) o) os
    ≡ Some (g, pairs_view (set ps n ((get_or ps n d).0, w)))
entry_by_made o None v ps n d w g last h = absurd (cc h)
entry_by_made None (Some parts) v ps n d w g last h = let is = last.1 d in let not = no_key (tree_of (get_or ps n d).0) in absurd (cc (is, not))
entry_by_made (Some part) (Some parts) v ps n d w g last h =
    let last' : IsLastKey (is_text part) ps (Some n) = subst (λ test. IsLastKey test ps (Some n)) (key_same part) last in
    let after = rw add-one at last'.2 in
    entry_made (at_parts (replaced v) parts).0 (is_text part) ps n d w g last'.0 (last'.1 d) after h

entry_by_unmade : (o : Option (List ℕ)) (os : Option (List (List ℕ))) (v : Tree) (ps : List (NamedValue × NamedValue)) (n : ℕ) (d : NamedValue × NamedValue)
    → IsLastKey (is_key o) ps (Some n)
    → option_and_then (λ parts. (at_parts (replaced v) parts).0 (tree_of (get_or ps n d).1)) os ≡ None
    → option_and_then (λ parts. option_and_then (λ part. at_value (at_parts (replaced v) parts).0 (is_text part) (pairs_view ps)) o) os ≡ None
entry_by_unmade o None v ps n d last h = refl
entry_by_unmade None (Some parts) v ps n d last h = refl
entry_by_unmade (Some part) (Some parts) v ps n d last h =
    let last' : IsLastKey (is_text part) ps (Some n) = subst (λ test. IsLastKey test ps (Some n)) (key_same part) last in
    let after = rw add-one at last'.2 in
    entry_unmade (at_parts (replaced v) parts).0 (is_text part) ps n d last'.0 (last'.1 d) after h

pub entry_traded : (piece rest : List ℕ) (v : NamedValue) (ps : List (NamedValue × NamedValue)) (n : ℕ) (d : NamedValue × NamedValue) (w : NamedValue) (r : Result NamedValue NamedValue)
    → IsLastKey (is_key (unescape piece)) ps (Some n)
    → IsTraded (traded rest (tree_of v) (tree_of (get_or ps n d).1)) (tree_of (get_or ps n d).1) v (tree_of w) r
    → IsTraded (traded_entry piece rest (tree_of v) (pairs_view ps)) (pairs_view ps) v (pairs_view (set ps n ((get_or ps n d).0, w))) r
entry_traded piece rest v ps n d w r last h =
    lifted _ _ _ _ _ _ v r
    (λ g some. entry_by_made (unescape piece) (parts_of rest) (tree_of v) ps n d w g last some)
    (λ none. entry_by_unmade (unescape piece) (parts_of rest) (tree_of v) ps n d last none)
    (λ same. entry_kept ps n d w last.0 same) h

entry_by_missing : (o : Option (List ℕ)) (os : Option (List (List ℕ))) (v : Tree) (ps : Pairs) → last_value (is_key o) ps ≡ None
    → option_and_then (λ parts. option_and_then (λ part. at_value (at_parts (replaced v) parts).0 (is_text part) ps) o) os ≡ None
entry_by_missing o None v ps none = refl
entry_by_missing None (Some parts) v ps none = refl
entry_by_missing (Some part) (Some parts) v ps none =
    entry_missing (at_parts (replaced v) parts).0 (is_text part) ps (subst (λ test. last_value test ps ≡ None) (key_same part) none)

pub entry_untraded : (piece rest : List ℕ) (v : NamedValue) (ps : List (NamedValue × NamedValue)) → IsLastKey (is_key (unescape piece)) ps None
    → IsTraded (traded_entry piece rest (tree_of v) (pairs_view ps)) (pairs_view ps) v (pairs_view ps) (Err v)
entry_untraded piece rest v ps none =
    untraded _ (pairs_view ps) v (entry_by_missing (unescape piece) (parts_of rest) (tree_of v) (pairs_view ps) none)

field_by_made : (o : Option (List ℕ)) (os : Option (List (List ℕ))) (v : Tree) (fs : List (CowStr × NamedValue)) (n : ℕ) (d : CowStr × NamedValue) (w : NamedValue) (g : Option Tree)
    → IsLastField o fs (Some n)
    → option_and_then (λ parts. (at_parts (replaced v) parts).0 (tree_of (get_or fs n d).1)) os ≡ Some (g, tree_of w)
    → option_and_then (λ parts. option_and_then (λ part. at_field (at_parts (replaced v) parts).0 part (fields_view fs)) o) os
    ≡ Some (g, fields_view (set fs n ((get_or fs n d).0, w)))
field_by_made o None v fs n d w g last h = absurd (cc h)
field_by_made None (Some parts) v fs n d w g last h = let is = last.1 d in absurd (cc is)
field_by_made (Some part) (Some parts) v fs n d w g last h =
    let after = rw add-one at last.2 in
    field_made (at_parts (replaced v) parts).0 part fs n d w g last.0 (last.1 d) (sym (fields_same part (fields_view (drop (suc n) fs))) ∙ after) h

field_by_unmade : (o : Option (List ℕ)) (os : Option (List (List ℕ))) (v : Tree) (fs : List (CowStr × NamedValue)) (n : ℕ) (d : CowStr × NamedValue)
    → IsLastField o fs (Some n)
    → option_and_then (λ parts. (at_parts (replaced v) parts).0 (tree_of (get_or fs n d).1)) os ≡ None
    → option_and_then (λ parts. option_and_then (λ part. at_field (at_parts (replaced v) parts).0 part (fields_view fs)) o) os ≡ None
field_by_unmade o None v fs n d last h = refl
field_by_unmade None (Some parts) v fs n d last h = refl
field_by_unmade (Some part) (Some parts) v fs n d last h =
    let after = rw add-one at last.2 in
    field_unmade (at_parts (replaced v) parts).0 part fs n d last.0 (last.1 d) (sym (fields_same part (fields_view (drop (suc n) fs))) ∙ after) h

pub field_traded : (piece rest : List ℕ) (v : NamedValue) (fs : List (CowStr × NamedValue)) (n : ℕ) (d : CowStr × NamedValue) (w : NamedValue) (r : Result NamedValue NamedValue)
    → IsLastField (unescape piece) fs (Some n)
    → IsTraded (traded rest (tree_of v) (tree_of (get_or fs n d).1)) (tree_of (get_or fs n d).1) v (tree_of w) r
    → IsTraded (traded_field piece rest (tree_of v) (fields_view fs)) (fields_view fs) v (fields_view (set fs n ((get_or fs n d).0, w))) r
field_traded piece rest v fs n d w r last h =
    lifted _ _ _ _ _ _ v r
    (λ g some. field_by_made (unescape piece) (parts_of rest) (tree_of v) fs n d w g last some)
    (λ none. field_by_unmade (unescape piece) (parts_of rest) (tree_of v) fs n d last none)
    (λ same. field_kept fs n d w last.0 same) h

field_by_missing : (o : Option (List ℕ)) (os : Option (List (List ℕ))) (v : Tree) (fs : Fields) → found_field o fs ≡ None
    → option_and_then (λ parts. option_and_then (λ part. at_field (at_parts (replaced v) parts).0 part fs) o) os ≡ None
field_by_missing o None v fs none = refl
field_by_missing None (Some parts) v fs none = refl
field_by_missing (Some part) (Some parts) v fs none = field_missing (at_parts (replaced v) parts).0 part fs (sym (fields_same part fs) ∙ none)

pub field_untraded : (piece rest : List ℕ) (v : NamedValue) (fs : List (CowStr × NamedValue)) → IsLastField (unescape piece) fs None
    → IsTraded (traded_field piece rest (tree_of v) (fields_view fs)) (fields_view fs) v (fields_view fs) (Err v)
field_untraded piece rest v fs none =
    untraded _ (fields_view fs) v (field_by_missing (unescape piece) (parts_of rest) (tree_of v) (fields_view fs) none)

-- ---- in a value and in what is inside one

-- what is spelled around a whole is around what is spelled
pub wrapped : {A B : Type 0} (whole : A → B) (o : Option (List ℕ)) (os : Option (List (List ℕ))) (edit : List ℕ → List (List ℕ) → Edited A)
    → option_and_then (λ parts. option_and_then (λ part. around whole (edit part parts)) o) os
    ≡ around whole (option_and_then (λ parts. option_and_then (λ part. edit part parts) o) os)
wrapped whole o None edit = refl
wrapped whole None (Some parts) edit = refl
wrapped whole (Some part) (Some parts) edit = refl

-- nothing is spelled where nothing can be edited
pub nothing_spelled : {A : Type 0} (o : Option (List ℕ)) (os : Option (List (List ℕ)))
    → ◌≡◌ {A = Edited A} (option_and_then (λ parts. option_and_then (λ part. None) o) os) None
nothing_spelled o None = refl
nothing_spelled None (Some parts) = refl
nothing_spelled (Some part) (Some parts) = refl

pub seq_traded : (piece rest : List ℕ) (v : NamedValue) (before after : Vec NamedValue Global) (r : Result NamedValue NamedValue)
    → IsTraded (traded_item piece rest (tree_of v) (trees_view before.items)) (trees_view before.items) v (trees_view after.items) r
    → IsTraded (traded_in piece rest (tree_of v) (tree_of (value.Seq before))) (tree_of (value.Seq before)) v (tree_of (value.Seq after)) r
seq_traded piece rest v before after r h =
    rw (tree_of-Seq before, tree_of-Seq after)
    (traded_whole seq _ _ (trees_view before.items) (trees_view after.items) v r refl h)

pub tuple_traded : (piece rest : List ℕ) (v : NamedValue) (before after : Vec NamedValue Global) (r : Result NamedValue NamedValue)
    → IsTraded (traded_item piece rest (tree_of v) (trees_view before.items)) (trees_view before.items) v (trees_view after.items) r
    → IsTraded (traded_in piece rest (tree_of v) (tree_of (value.Tuple before))) (tree_of (value.Tuple before)) v (tree_of (value.Tuple after)) r
tuple_traded piece rest v before after r h =
    rw (tree_of-Tuple before, tree_of-Tuple after)
    (traded_whole tuple _ _ (trees_view before.items) (trees_view after.items) v r refl h)

pub map_traded : (piece rest : List ℕ) (v : NamedValue) (before after : Vec (NamedValue × NamedValue) Global) (r : Result NamedValue NamedValue)
    → IsTraded (traded_entry piece rest (tree_of v) (pairs_view before.items)) (pairs_view before.items) v (pairs_view after.items) r
    → IsTraded (traded_in piece rest (tree_of v) (tree_of (value.Map before))) (tree_of (value.Map before)) v (tree_of (value.Map after)) r
map_traded piece rest v before after r h =
    rw (tree_of-Map before, tree_of-Map after)
    (traded_whole map _ _ (pairs_view before.items) (pairs_view after.items) v r refl h)

pub values_traded : (piece rest : List ℕ) (v : NamedValue) (before after : Vec NamedValue Global) (r : Result NamedValue NamedValue)
    → IsTraded (traded_item piece rest (tree_of v) (trees_view before.items)) (trees_view before.items) v (trees_view after.items) r
    → IsTraded (traded_part piece rest (tree_of v) (tree_data_of (held.Tuple before))) (tree_data_of (held.Tuple before)) v (tree_data_of (held.Tuple after)) r
values_traded piece rest v before after r h =
    rw (tree_data_of-Tuple before, tree_data_of-Tuple after)
    (traded_whole many _ _ (trees_view before.items) (trees_view after.items) v r refl h)

pub fields_traded : (piece rest : List ℕ) (v : NamedValue) (before after : Vec (CowStr × NamedValue) Global) (r : Result NamedValue NamedValue)
    → IsTraded (traded_field piece rest (tree_of v) (fields_view before.items)) (fields_view before.items) v (fields_view after.items) r
    → IsTraded (traded_part piece rest (tree_of v) (tree_data_of (held.Struct before))) (tree_data_of (held.Struct before)) v (tree_data_of (held.Struct after)) r
fields_traded piece rest v before after r h =
    rw (tree_data_of-Struct before, tree_data_of-Struct after)
    (traded_whole named _ _ (fields_view before.items) (fields_view after.items) v r refl h)

-- a struct
pub struct_traded : (piece rest : List ℕ) (v : NamedValue) (name : Text) (d d' : TreeData) (r : Result NamedValue NamedValue)
    → IsTraded (traded_part piece rest (tree_of v) d) d v d' r
    → IsTraded (traded_in piece rest (tree_of v) (structure name d)) (structure name d) v (structure name d') r
struct_traded piece rest v name d d' r h =
    traded_whole (structure name) _ _ d d' v r refl h

-- a variant whose name the piece spells
entered_by : (o : Option (List ℕ)) (os : Option (List (List ℕ))) (v : Tree) (name : Text) (i : ℕ) (variant : Text) (d : TreeData) → is_part o variant.content ≡ true
    → option_and_then (λ parts. option_and_then (λ part. at_step (at_parts (replaced v) parts) part (enumeration name i variant d)) o) os
    ≡ around (enumeration name i variant) (option_and_then (λ parts. at_entered (at_parts (replaced v) parts) d) os)
entered_by o None v name i variant d is = refl
entered_by None (Some parts) v name i variant d is = absurd (cc is)
entered_by (Some part) (Some parts) v name i variant d is =
    ap (λ b. if b then around (enumeration name i variant) (at_entered (at_parts (replaced v) parts) d) else None) is

pub variant_traded : (piece rest : List ℕ) (v : NamedValue) (name : Text) (i : ℕ) (variant : Text) (d d' : TreeData) (r : Result NamedValue NamedValue)
    → is_part (unescape piece) variant.content ≡ true → IsTraded (traded_inside rest (tree_of v) d) d v d' r
    → IsTraded (traded_in piece rest (tree_of v) (enumeration name i variant d)) (enumeration name i variant d) v (enumeration name i variant d') r
variant_traded piece rest v name i variant d d' r is h =
    traded_whole (enumeration name i variant) _ _ d d' v r (ap (λ b. if b then around (enumeration name i variant) (traded_inside rest (tree_of v) d) else None) is) h

passed_by : (o : Option (List ℕ)) (os : Option (List (List ℕ))) (v : Tree) (name : Text) (i : ℕ) (variant : Text) (d : TreeData) → is_part o variant.content ≡ false
    → option_and_then (λ parts. option_and_then (λ part. at_step (at_parts (replaced v) parts) part (enumeration name i variant d)) o) os ≡ None
passed_by o None v name i variant d other = refl
passed_by None (Some parts) v name i variant d other = refl
passed_by (Some part) (Some parts) v name i variant d other =
    ap (λ b. if b then around (enumeration name i variant) (at_entered (at_parts (replaced v) parts) d) else None) other

pub variant_untraded : (piece rest : List ℕ) (v : NamedValue) (name : Text) (i : ℕ) (variant : Text) (d : TreeData)
    → is_part (unescape piece) variant.content ≡ false
    → IsTraded (traded_in piece rest (tree_of v) (enumeration name i variant d)) (enumeration name i variant d) v (enumeration name i variant d) (Err v)
variant_untraded piece rest v name i variant d other =
    untraded _ (enumeration name i variant d) v (ap (λ b. if b then around (enumeration name i variant) (traded_inside rest (tree_of v) d) else None) other)

-- ---- by a path

-- parts are those of the first piece and of the rest
parts_by : {A : Type 0} (o : Option (List ℕ)) (os : Option (List (List ℕ))) (edit : List (List ℕ) → Edited A)
    → option_and_then edit (first_parts o os) ≡ option_and_then (λ parts. option_and_then (λ part. edit (part ∷ parts)) o) os
parts_by None None edit = refl
parts_by None (Some parts) edit = refl
parts_by (Some part) None edit = refl
parts_by (Some part) (Some parts) edit = refl

-- by the next piece, in what a struct or a variant holds
part_is : (piece rest : List ℕ) (v : Tree) (d : TreeData)
    → option_and_then (λ parts. option_and_then (λ part. at_part (at_parts (replaced v) parts).0 part d) (unescape piece)) (parts_of rest) ≡ traded_part piece rest v d
part_is piece rest v (many ts) = wrapped many (unescape piece) (parts_of rest) (λ part parts. at_part_of (at_parts (replaced v) parts).0 part ts)
part_is piece rest v (named fs) = wrapped named (unescape piece) (parts_of rest) (λ part parts. at_field (at_parts (replaced v) parts).0 part fs)
part_is piece rest v d = nothing_spelled (unescape piece) (parts_of rest)

variant_is : (piece rest : List ℕ) (v : Tree) (name : Text) (i : ℕ) (variant : Text) (d : TreeData) (b : Bool) → is_part (unescape piece) variant.content ≡ b
    → option_and_then (λ parts. option_and_then (λ part. at_step (at_parts (replaced v) parts) part (enumeration name i variant d)) (unescape piece)) (parts_of rest)
    ≡ (if b then around (enumeration name i variant) (traded_inside rest v d) else None)
variant_is piece rest v name i variant d true is = entered_by (unescape piece) (parts_of rest) v name i variant d is
variant_is piece rest v name i variant d false is = passed_by (unescape piece) (parts_of rest) v name i variant d is

-- and in a value
step_is : (piece rest : List ℕ) (v t : Tree)
    → option_and_then (λ parts. option_and_then (λ part. at_step (at_parts (replaced v) parts) part t) (unescape piece)) (parts_of rest) ≡ traded_in piece rest v t
step_is piece rest v (seq ts) = wrapped seq (unescape piece) (parts_of rest) (λ part parts. at_part_of (at_parts (replaced v) parts).0 part ts)
step_is piece rest v (tuple ts) = wrapped tuple (unescape piece) (parts_of rest) (λ part parts. at_part_of (at_parts (replaced v) parts).0 part ts)
step_is piece rest v (map ps) = wrapped map (unescape piece) (parts_of rest) (λ part parts. at_value (at_parts (replaced v) parts).0 (is_text part) ps)
step_is piece rest v (structure n d) =
    wrapped (structure n) (unescape piece) (parts_of rest) (λ part parts. at_part (at_parts (replaced v) parts).0 part d)
    ∙ ap (around (structure n)) (part_is piece rest v d)
step_is piece rest v (enumeration n i s d) = variant_is piece rest v n i s d (is_part (unescape piece) s.content) refl
step_is piece rest v t = nothing_spelled (unescape piece) (parts_of rest)

pub trade_cut : (path piece rest : List ℕ) (v t : Tree) → parts_of path ≡ first_parts (unescape piece) (parts_of rest)
    → traded path v t ≡ traded_in piece rest v t
trade_cut path piece rest v t cut =
    ap (option_and_then (λ parts. (at_parts (replaced v) parts).0 t)) cut
    ∙ (parts_by (unescape piece) (parts_of rest) (λ parts. (at_parts (replaced v) parts).0 t) ∙ step_is piece rest v t)

-- the same inside a variant that doesn't hold one value
further : (path piece rest : List ℕ) (v : Tree) (d : TreeData) → parts_of path ≡ first_parts (unescape piece) (parts_of rest)
    → option_and_then (λ parts. (at_parts (replaced v) parts).1 d) (parts_of path) ≡ traded_part piece rest v d
further path piece rest v d cut =
    ap (option_and_then (λ parts. (at_parts (replaced v) parts).1 d)) cut
    ∙ (parts_by (unescape piece) (parts_of rest) (λ parts. (at_parts (replaced v) parts).1 d) ∙ part_is piece rest v d)

pub cut_inside : (path piece rest : List ℕ) (v : Tree) (d : TreeData) → is_one d ≡ false
    → parts_of path ≡ first_parts (unescape piece) (parts_of rest) → traded_inside path v d ≡ traded_part piece rest v d
cut_inside path piece rest v (one t) other cut = absurd (cc other)
cut_inside path piece rest v d other cut = further path piece rest v d cut

-- and where there is no next piece
pub end_inside : (path : List ℕ) (v : Tree) (d : TreeData) → is_one d ≡ false → (0 < length path → parts_of path ≡ None) → traded_inside path v d ≡ None
end_inside path v (one t) other h = absurd (cc other)
end_inside [] v d other h = refl
end_inside (x ∷ path) v d other h = ap (option_and_then (λ parts. (at_parts (replaced v) parts).1 d)) (h (omega arith))

pub ruleset trading = (seq_traded, tuple_traded, map_traded, values_traded, fields_traded)
