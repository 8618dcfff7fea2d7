-- What editing items and pairs does to their trees.
use Rattle.std.proofs.Common.{◌≡◌, ◌<◌, ◌+◌, ◌∙◌, ap, sym, refl, ℕ, zero, suc, arith, add-one, length, get_or, drop, take, set}
use Rattle.std.proofs.Common.{Bool, true, false, List, [], ◌∷◌, ◌++◌, Option, Some, None, option_map, unwrap_or, if◌then◌else◌}
use Rattle.std.proofs.Common.{Vec, Global}
use Rattle.content_tree.proofs.Looking.{value_found}
use Rattle.content_tree.proofs.Views.{tree_of-Seq, tree_of-Map}
use Rattle.content_tree.specs.Values.Edits.{item_added, pushed, pair_added, value_replaced, pair_removed, value_put}
use Rattle.content_tree.specs.Values.Edits.{inserted, removed, entry_value, IsLastKey}
use Rattle.content_tree.specs.Orders.Trees.{same_tree}
use Rattle.content_tree.specs.Values.Lookups.{last_value, or_else}
use Rattle.content_tree.specs.Values.Tree.{Tree, seq, map, tree_then, Pairs, no_pairs, pair_then}
use Rattle.content_tree.specs.Values.Value.{tree_of, trees_view, pairs_view}
use Rattle.content_tree.specs.declared.value.NamedValue as value
use Rattle.content_tree.specs.declared.value.NamedValue.{NamedValue}

-- one more item
pub seen_added : (vs : List NamedValue) (v : NamedValue) → trees_view (vs ++ v ∷ []) ≡ item_added (tree_of v) (trees_view vs)
seen_added [] v = refl
seen_added (u ∷ vs) v = ap (tree_then (tree_of u)) (seen_added vs v)

-- one more pair
pub pair_seen : (ps : List (NamedValue × NamedValue)) (k v : NamedValue) → pairs_view (ps ++ (k, v) ∷ []) ≡ pair_added (tree_of k) (tree_of v) (pairs_view ps)
pair_seen [] k v = refl
pair_seen (p ∷ ps) k v = ap (pair_then (tree_of p.0) (tree_of p.1)) (pair_seen ps k v)

-- neither of two is there
pub or_none : {A : Type 0} (a b : Option A) → or_else a b ≡ None → (a ≡ None) × (b ≡ None)
or_none None b h = (refl, h)
or_none (Some x) b h = absurd (cc h)

-- a test that gives nothing
pub if_none : {A : Type 0} (b : Bool) (x : A) → (if b then Some x else None) ≡ None → b ≡ false
if_none true x h = absurd (cc h)
if_none false x h = refl

-- where no key passes, none gets another value
pub none_replaced : (test : Tree → Bool) (v : Tree) (ps : Pairs) → last_value test ps ≡ None → value_replaced test v ps ≡ None
none_replaced test v no_pairs h = refl
none_replaced test v (pair_then k t ps) h =
    let parts = or_none (last_value test ps) (if test k then Some t else None) h in
    ap (λ o. or_else (option_map (pair_then k t) o) (if test k then Some (pair_then k v ps) else None)) (none_replaced test v ps parts.0)
    ∙ ap (λ b. if b then Some (pair_then k v ps) else None) (if_none (test k) t parts.1)

-- nor is one removed
pub none_removed : (test : Tree → Bool) (ps : Pairs) → last_value test ps ≡ None → pair_removed test ps ≡ None
none_removed test no_pairs h = refl
none_removed test (pair_then k t ps) h =
    let parts = or_none (last_value test ps) (if test k then Some t else None) h in
    ap (λ o. or_else (option_map (pair_then k t) o) (if test k then Some ps else None)) (none_removed test ps parts.0)
    ∙ ap (λ b. if b then Some ps else None) (if_none (test k) t parts.1)

-- a pair whose key passes, after which none does, is the one that gets the value
pub replaced_at : (test : Tree → Bool) (v : NamedValue) (ps : List (NamedValue × NamedValue)) (i : ℕ) (d : NamedValue × NamedValue) → i < length ps
    → test (tree_of (get_or ps i d).0) ≡ true → last_value test (pairs_view (drop (suc i) ps)) ≡ None
    → value_replaced test (tree_of v) (pairs_view ps) ≡ Some (pairs_view (set ps i ((get_or ps i d).0, v)))
replaced_at test v [] i d less is none = absurd (omega arith)
replaced_at test v (p ∷ ps) zero d less is none =
    let here = pair_then (tree_of p.0) (tree_of v) (pairs_view ps) in
    ap (λ o. or_else (option_map (pair_then (tree_of p.0) (tree_of p.1)) o) (if test (tree_of p.0) then Some here else None)) (none_replaced test (tree_of v) (pairs_view ps) none)
    ∙ ap (λ b. if b then Some here else None) is
replaced_at test v (p ∷ ps) (suc i) d less is none =
    ap (λ o. or_else (option_map (pair_then (tree_of p.0) (tree_of p.1)) o) (if test (tree_of p.0) then Some (pair_then (tree_of p.0) (tree_of v) (pairs_view ps)) else None))
    (replaced_at test v ps i d (omega arith) is none)

-- and the one that is removed
pub removed_at : (test : Tree → Bool) (ps : List (NamedValue × NamedValue)) (i : ℕ) (d : NamedValue × NamedValue) → i < length ps
    → test (tree_of (get_or ps i d).0) ≡ true → last_value test (pairs_view (drop (suc i) ps)) ≡ None
    → pair_removed test (pairs_view ps) ≡ Some (pairs_view (take i ps ++ drop (suc i) ps))
removed_at test [] i d less is none = absurd (omega arith)
removed_at test (p ∷ ps) zero d less is none =
    ap (λ o. or_else (option_map (pair_then (tree_of p.0) (tree_of p.1)) o) (if test (tree_of p.0) then Some (pairs_view ps) else None)) (none_removed test (pairs_view ps) none)
    ∙ ap (λ b. if b then Some (pairs_view ps) else None) is
removed_at test (p ∷ ps) (suc i) d less is none =
    ap (λ o. or_else (option_map (pair_then (tree_of p.0) (tree_of p.1)) o) (if test (tree_of p.0) then Some (pairs_view ps) else None))
    (removed_at test ps i d (omega arith) is none)

-- the pair at the index of a key, at any default
pub here : NamedValue × NamedValue
here = (value.Unit, value.Unit)

-- the value of the last key
pub last_at : (test : Tree → Bool) (ps : List (NamedValue × NamedValue)) (i : ℕ) (d : NamedValue × NamedValue) → IsLastKey test ps (Some i)
    → last_value test (pairs_view ps) ≡ Some (tree_of (get_or ps i d).1)
last_at test ps i d h = sym (value_found test ps i d h.0 (h.1 d) h.2)

-- the pairs with another value at the last key
pub put_at : (key : NamedValue) (v : NamedValue) (ps : List (NamedValue × NamedValue)) (i : ℕ) (d : NamedValue × NamedValue)
    → IsLastKey (λ k. same_tree k (tree_of key)) ps (Some i)
    → pairs_view (set ps i ((get_or ps i d).0, v)) ≡ value_put (tree_of key) (tree_of v) (pairs_view ps)
put_at key v ps i d h =
    let test : Tree → Bool = λ k. same_tree k (tree_of key) in
    let after = rw add-one at h.2 in
    sym (ap (λ o. unwrap_or o (pair_added (tree_of key) (tree_of v) (pairs_view ps))) (replaced_at test v ps i d h.0 (h.1 d) after))

-- the pairs with one more, of a new key
pub put_last : (key : NamedValue) (v : NamedValue) (ps : List (NamedValue × NamedValue))
    → last_value (λ k. same_tree k (tree_of key)) (pairs_view ps) ≡ None
    → pairs_view (ps ++ (key, v) ∷ []) ≡ value_put (tree_of key) (tree_of v) (pairs_view ps)
put_last key v ps none =
    let test : Tree → Bool = λ k. same_tree k (tree_of key) in
    pair_seen ps key v
    ∙ sym (ap (λ o. unwrap_or o (pair_added (tree_of key) (tree_of v) (pairs_view ps))) (none_replaced test (tree_of v) (pairs_view ps) none))

-- a sequence with one more item
pub pushed_tree : (t : NamedValue) (before after : Vec NamedValue Global) → after.items ≡ before.items ++ t ∷ []
    → pushed (tree_of t) (tree_of (value.Seq before)) ≡ Some (tree_of (value.Seq after))
pushed_tree t before after h =
    ap (pushed (tree_of t)) (tree_of-Seq before)
    ∙ (ap (λ ts. Some (seq ts)) (sym (seen_added before.items t) ∙ ap trees_view (sym h)) ∙ sym (ap Some (tree_of-Seq after)))

-- a map with a value put
pub inserted_tree : (key v : Tree) (before after : Vec (NamedValue × NamedValue) Global) → pairs_view after.items ≡ value_put key v (pairs_view before.items)
    → inserted key v (tree_of (value.Map before)) ≡ Some (tree_of (value.Map after))
inserted_tree key v before after h =
    ap (inserted key v) (tree_of-Map before) ∙ (ap (λ ps. Some (map ps)) (sym h) ∙ sym (ap Some (tree_of-Map after)))

-- the pairs without the last one of a key
pub removed_pairs : (test : Tree → Bool) (ps rest : List (NamedValue × NamedValue)) (i : ℕ) → IsLastKey test ps (Some i)
    → rest ≡ take i ps ++ drop (suc i) ps → pairs_view rest ≡ unwrap_or (pair_removed test (pairs_view ps)) (pairs_view ps)
removed_pairs test ps rest i h left =
    let after = rw add-one at h.2 in
    ap pairs_view left ∙ sym (ap (λ o. unwrap_or o (pairs_view ps)) (removed_at test ps i here h.0 (h.1 here) after))

-- the pairs where none has the key
pub unremoved_pairs : (test : Tree → Bool) (ps : List (NamedValue × NamedValue)) → last_value test (pairs_view ps) ≡ None
    → pairs_view ps ≡ unwrap_or (pair_removed test (pairs_view ps)) (pairs_view ps)
unremoved_pairs test ps none = sym (ap (λ o. unwrap_or o (pairs_view ps)) (none_removed test (pairs_view ps) none))

-- a map without the last entry of a key
pub removed_tree : (test : Tree → Bool) (before after : Vec (NamedValue × NamedValue) Global)
    → pairs_view after.items ≡ unwrap_or (pair_removed test (pairs_view before.items)) (pairs_view before.items)
    → tree_of (value.Map after) ≡ removed test (tree_of (value.Map before))
removed_tree test before after h = tree_of-Map after ∙ (ap map h ∙ sym (ap (removed test) (tree_of-Map before)))

-- what an entry of a map has
pub entry_tree : (test : Tree → Bool) (before : Vec (NamedValue × NamedValue) Global) → entry_value test (tree_of (value.Map before)) ≡ last_value test (pairs_view before.items)
entry_tree test before = ap (entry_value test) (tree_of-Map before)

pub ruleset editing = (pushed_tree, inserted_tree, removed_tree, entry_tree)
