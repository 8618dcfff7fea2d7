-- Pairs put among others: where each goes, and what changes.
use Rattle.std.proofs.Common.{◌≡◌, ℕ, ◌+◌, zero, suc, Bool, true, false, List, [], ◌∷◌, ◌++◌, length, take, Option, Some, None, option_map}
use Rattle.std.proofs.Common.{refl, ap, map, sym, ◌∙◌, ◌<◌, ◌≤◌, cond, arith, get_or, set, if◌then◌else◌}
use Rattle.std.proofs.lemmas.List.{take_more, length-take-le}
use Rattle.serde_content.specs.Names.Words.{same_tree, last_value, or_else, Tree, tree_of}
use Rattle.serde_content.specs.Names.Words.{NamedValue}
use Rattle.serde_content.specs.Names.Tree.{Pairs, no_pairs, pair_then}
use Rattle.content_uses.specs.Merged.{has_key, is_last, put, merged, merged_pairs}
use Rattle.content_uses.specs.Places.{place, places, value_at, with_value, keyed}

-- where the last pair of this key is
abbrev pub known : Tree → Pairs → Option ℕ
known k ps = if has_key k ps then Some (place k ps) else None

-- how many pairs
abbrev pub count : Pairs → ℕ
count no_pairs = 0
count (pair_then k t ps) = suc (count ps)

-- the last value of a key, or none
abbrev at : Tree → Pairs → Option Tree
at k ps = last_value (λ j. same_tree j k) ps

-- the same with one more pair before the others, of this key
abbrev then_at : (q j : Tree) → Option ℕ → Option ℕ
then_at q j o = or_else (option_map suc o) (if same_tree j q then Some 0 else None)

known_then : (q j t : Tree) (ps : Pairs) → known q (pair_then j t ps) ≡ then_at q j (known q ps)
known_then q j t ps = by (at q ps) refl (same_tree j q) refl
  where
    by : (o : Option Tree) → at q ps ≡ o → (b : Bool) → same_tree j q ≡ b
        → known q (pair_then j t ps) ≡ then_at q j (known q ps)
    by (Some s) e b f = rw e refl
    by None e true f = rw (e, f) refl
    by None e false f = rw (e, f) refl

-- a pair that is put
put_known : (k q new j t : Tree) (f : Tree → Tree) (ps : Pairs) → (o : Option Tree) → at k ps ≡ o → (b : Bool) → same_tree j k ≡ b → (d : Bool) → same_tree k q ≡ d
    → known q (put k new f ps) ≡ (if has_key k ps then known q ps else (if same_tree k q then Some (count ps) else known q ps))
    → known q (put k new f (pair_then j t ps))
    ≡ (if has_key k (pair_then j t ps) then known q (pair_then j t ps) else (if same_tree k q then Some (suc (count ps)) else known q (pair_then j t ps)))
put_known k q new j t f ps (Some s) e b g d h rest =
    rw e (known_then q j t (put k new f ps) ∙ ap (then_at q j) (rw e at rest) ∙ sym (known_then q j t ps))
put_known k q new j t f ps None e true g d h rest = rw (e, g) (known_then q j (f t) ps ∙ sym (known_then q j t ps))
put_known k q new j t f ps None e false g true h rest =
    rw (e, g, h) (known_then q j t (put k new f ps) ∙ ap (then_at q j) (rw (e, h) at rest))
put_known k q new j t f ps None e false g false h rest =
    rw (e, g, h) (known_then q j t (put k new f ps) ∙ ap (then_at q j) (rw (e, h) at rest) ∙ sym (known_then q j t ps))

pub known_put : (k q new : Tree) (f : Tree → Tree) (ps : Pairs)
    → known q (put k new f ps) ≡ (if has_key k ps then known q ps else (if same_tree k q then Some (count ps) else known q ps))
known_put k q new f no_pairs = known_then q k new no_pairs
known_put k q new f (pair_then j t ps) = put_known k q new j t f ps (at k ps) refl (same_tree j k) refl (same_tree k q) refl (known_put k q new f ps)

put_count : (k new j t : Tree) (f : Tree → Tree) (ps : Pairs) → (o : Option Tree) → at k ps ≡ o → (b : Bool) → same_tree j k ≡ b
    → count (put k new f ps) ≡ (if has_key k ps then count ps else suc (count ps))
    → count (put k new f (pair_then j t ps)) ≡ (if has_key k (pair_then j t ps) then suc (count ps) else suc (suc (count ps)))
put_count k new j t f ps (Some s) e b g rest = rw e (ap suc (rw e at rest))
put_count k new j t f ps None e true g rest = rw (e, g) refl
put_count k new j t f ps None e false g rest = rw (e, g) (ap suc (rw e at rest))

pub count_put : (k new : Tree) (f : Tree → Tree) (ps : Pairs) → count (put k new f ps) ≡ (if has_key k ps then count ps else suc (count ps))
count_put k new f no_pairs = refl
count_put k new f (pair_then j t ps) = put_count k new j t f ps (at k ps) refl (same_tree j k) refl (count_put k new f ps)

-- a new key goes after all
new_place : (k j t : Tree) (ps : Pairs) → (o : Option Tree) → at k ps ≡ o → (b : Bool) → same_tree j k ≡ b → (known k ps ≡ None → place k ps ≡ count ps)
    → known k (pair_then j t ps) ≡ None → place k (pair_then j t ps) ≡ suc (count ps)
new_place k j t ps (Some s) f b g rest e = absurd (cc (rw f at e))
new_place k j t ps None f true g rest e = absurd (cc (rw (f, g) at e))
new_place k j t ps None f false g rest e = rw (f, g) (ap suc (rest (rw f refl)))

pub place_new : (k : Tree) (ps : Pairs) → known k ps ≡ None → place k ps ≡ count ps
place_new k no_pairs e = refl
place_new k (pair_then j t ps) e = new_place k j t ps (at k ps) refl (same_tree j k) refl (place_new k ps) e

-- one more pair at the end
more_known : {K : Type 0} (key : K → Tree) (q : Tree) (x : K × NamedValue) (xs : List (K × NamedValue)) (p : K × NamedValue) (b : Bool) → same_tree (key p.0) q ≡ b
    → known q (keyed key (xs ++ p ∷ [])) ≡ (if b then Some (length xs) else known q (keyed key xs))
    → known q (keyed key (x ∷ (xs ++ p ∷ []))) ≡ (if b then Some (suc (length xs)) else known q (keyed key (x ∷ xs)))
more_known key q x xs p true g rest = known_then q (key x.0) (tree_of x.1) (keyed key (xs ++ p ∷ [])) ∙ ap (then_at q (key x.0)) rest
more_known key q x xs p false g rest =
    known_then q (key x.0) (tree_of x.1) (keyed key (xs ++ p ∷ [])) ∙ ap (then_at q (key x.0)) rest
    ∙ sym (known_then q (key x.0) (tree_of x.1) (keyed key xs))

pub known_more : {K : Type 0} (key : K → Tree) (q : Tree) (xs : List (K × NamedValue)) (p : K × NamedValue)
    → known q (keyed key (xs ++ p ∷ [])) ≡ (if same_tree (key p.0) q then Some (length xs) else known q (keyed key xs))
known_more key q [] p = known_then q (key p.0) (tree_of p.1) no_pairs
known_more key q (x ∷ xs) p = more_known key q x xs p (same_tree (key p.0) q) refl (known_more key q xs p)

pub count_view : {K : Type 0} (key : K → Tree) (xs : List (K × NamedValue)) → count (keyed key xs) ≡ length xs
count_view key [] = refl
count_view key (x ∷ xs) = ap suc (count_view key xs)

-- the last of the pairs is put last
pub merged_more : {K : Type 0} (key : K → Tree) (xs : List (K × NamedValue)) (p : K × NamedValue) (ps : Pairs)
    → merged_pairs (keyed key (xs ++ p ∷ [])) ps ≡ put (key p.0) (tree_of p.1) (merged (tree_of p.1)) (merged_pairs (keyed key xs) ps)
merged_more key [] p ps = refl
merged_more key (x ∷ xs) p ps = merged_more key xs p (put (key x.0) (tree_of x.1) (merged (tree_of x.1)) ps)

pub places_more : {K : Type 0} (key : K → Tree) (xs : List (K × NamedValue)) (p : K × NamedValue) (ps : Pairs)
    → places (keyed key (xs ++ p ∷ [])) ps ≡ places (keyed key xs) ps ++ place (key p.0) (merged_pairs (keyed key xs) ps) ∷ []
places_more key [] p ps = refl
places_more key (x ∷ xs) p ps = ap (λ is. place (key x.0) ps ∷ is) (places_more key xs p (put (key x.0) (tree_of x.1) (merged (tree_of x.1)) ps))

-- what is found is changed
found_put : (k new x j u : Tree) (f : Tree → Tree) (t : Tree) (ps : Pairs)
    → (value_at (place k ps) ps ≡ Some t → with_value (place k ps) (f t) (with_value (place k ps) x ps) ≡ put k new f ps)
    → (b : Bool) → value_at (if b then 0 else suc (place k ps)) (pair_then j u ps) ≡ Some t
    → with_value (if b then 0 else suc (place k ps)) (f t) (with_value (if b then 0 else suc (place k ps)) x (pair_then j u ps))
    ≡ (if b then pair_then j (f u) ps else pair_then j u (put k new f ps))
found_put k new x j u f t ps rest true e = let same : u ≡ t = cc e in ap (λ v. pair_then j (f v) ps) (sym same)
found_put k new x j u f t ps rest false e = ap (pair_then j u) (rest e)

pub put_found : (k new x : Tree) (f : Tree → Tree) (t : Tree) (ps : Pairs) → value_at (place k ps) ps ≡ Some t
    → with_value (place k ps) (f t) (with_value (place k ps) x ps) ≡ put k new f ps
put_found k new x f t no_pairs e = absurd (cc e)
put_found k new x f t (pair_then j u ps) e = found_put k new x j u f t ps (put_found k new x f t ps) (is_last k j ps) e

-- what isn't found is put at the end
new_put : {K : Type 0} (key : K → Tree) (f : Tree → Tree) (x : K × NamedValue) (xs : List (K × NamedValue)) (p : K × NamedValue)
    → (value_at (place (key p.0) (keyed key xs)) (keyed key xs) ≡ None → keyed key (xs ++ p ∷ []) ≡ put (key p.0) (tree_of p.1) f (keyed key xs))
    → (b : Bool) → value_at (if b then 0 else suc (place (key p.0) (keyed key xs))) (keyed key (x ∷ xs)) ≡ None
    → keyed key (x ∷ (xs ++ p ∷ []))
    ≡ (if b then pair_then (key x.0) (f (tree_of x.1)) (keyed key xs) else pair_then (key x.0) (tree_of x.1) (put (key p.0) (tree_of p.1) f (keyed key xs)))
new_put key f x xs p rest true e = absurd (cc e)
new_put key f x xs p rest false e = ap (pair_then (key x.0) (tree_of x.1)) (rest e)

pub put_new : {K : Type 0} (key : K → Tree) (f : Tree → Tree) (xs : List (K × NamedValue)) (p : K × NamedValue)
    → value_at (place (key p.0) (keyed key xs)) (keyed key xs) ≡ None → keyed key (xs ++ p ∷ []) ≡ put (key p.0) (tree_of p.1) f (keyed key xs)
put_new key f [] p e = refl
put_new key f (x ∷ xs) p e = new_put key f x xs p (put_new key f xs p) (is_last (key p.0) (key x.0) (keyed key xs)) e

-- one more pair of the base in the index
pub base_index : {K : Type 0} (key : K → Tree) (m n : Option ℕ) (q : Tree) (xs : List (K × NamedValue)) (i : ℕ) (p : K × NamedValue) → i < length xs → p ≡ get_or xs i p
    → m ≡ known q (keyed key (take i xs)) → n ≡ cond (same_tree (key p.0) q) (Some i) m
    → n ≡ known q (keyed key (take (i + 1) xs))
base_index key m n q xs i p small is before after =
    let more : take (i + 1) xs ≡ take i xs ++ p ∷ [] = take_more xs i p small ∙ ap (λ y. take i xs ++ y ∷ []) (sym is) in
    let long : length (take i xs) ≡ i = length-take-le i xs (omega (arith, small)) in
    after ∙ ap (λ o. cond (same_tree (key p.0) q) (Some i) o) before
    ∙ sym (ap (λ ys. known q (keyed key ys)) more ∙ known_more key q (take i xs) p
    ∙ ap (λ a. if same_tree (key p.0) q then Some a else known q (keyed key (take i xs))) long)

-- what the pairs so far have come to, and one more
pub step_of : {K : Type 0} (key : K → Tree) (xs : List (K × NamedValue)) (i : ℕ) (p : K × NamedValue) (ps : Pairs) → i < length xs → p ≡ get_or xs i p
    → merged_pairs (keyed key (take (i + 1) xs)) ps ≡ put (key p.0) (tree_of p.1) (merged (tree_of p.1)) (merged_pairs (keyed key (take i xs)) ps)
step_of key xs i p ps small is =
    ap (λ ys. merged_pairs (keyed key ys) ps) (take_more xs i p small ∙ ap (λ y. take i xs ++ y ∷ []) (sym is)) ∙ merged_more key (take i xs) p ps

pub places_step : {K : Type 0} (key : K → Tree) (xs : List (K × NamedValue)) (i : ℕ) (p : K × NamedValue) (ps : Pairs) → i < length xs → p ≡ get_or xs i p
    → places (keyed key (take (i + 1) xs)) ps ≡ places (keyed key (take i xs)) ps ++ place (key p.0) (merged_pairs (keyed key (take i xs)) ps) ∷ []
places_step key xs i p ps small is =
    ap (λ ys. places (keyed key ys) ps) (take_more xs i p small ∙ ap (λ y. take i xs ++ y ∷ []) (sym is)) ∙ places_more key (take i xs) p ps

-- a key that is known
known_some : (b : Bool) (a i : ℕ) → (if b then Some a else None) ≡ Some i → (b ≡ true) × (a ≡ i)
known_some true a i e = (refl, cc e)
known_some false a i e = absurd (cc e)

known_none : (b : Bool) (a : ℕ) → (if b then Some a else None) ≡ None → b ≡ false
known_none true a e = absurd (cc e)
known_none false a e = refl

pub is_known : (k : Tree) (ps : Pairs) (i : ℕ) → known k ps ≡ Some i → (has_key k ps ≡ true) × (place k ps ≡ i)
is_known k ps i e = known_some (has_key k ps) (place k ps) i e

pub is_new : (k : Tree) (ps : Pairs) → known k ps ≡ None → has_key k ps ≡ false
is_new k ps e = known_none (has_key k ps) (place k ps) e

-- one more pair in the index, where its key is known
pub found_index : (k u q : Tree) (ps next : Pairs) (i : ℕ) (m : Option ℕ) → next ≡ put k u (merged u) ps → known k ps ≡ Some i → m ≡ known q ps → m ≡ known q next
found_index k u q ps next i m step is before =
    before ∙ sym (ap (known q) step ∙ known_put k q u (merged u) ps
    ∙ ap (λ b. if b then known q ps else (if same_tree k q then Some (count ps) else known q ps)) (is_known k ps i is).0)

pub found_count : (k u : Tree) (ps next : Pairs) (i n : ℕ) → next ≡ put k u (merged u) ps → known k ps ≡ Some i → n ≡ count ps → n ≡ count next
found_count k u ps next i n step is before =
    before ∙ sym (ap count step ∙ count_put k u (merged u) ps ∙ ap (λ b. if b then count ps else suc (count ps)) (is_known k ps i is).0)

-- and where it is new
pub new_index : (k u q : Tree) (ps next : Pairs) (n : ℕ) (m a : Option ℕ) → next ≡ put k u (merged u) ps → known k ps ≡ None → n ≡ count ps → m ≡ known q ps
    → a ≡ cond (same_tree k q) (Some n) m → a ≡ known q next
new_index k u q ps next n m a step is long before after =
    after ∙ ap (λ o. cond (same_tree k q) (Some n) o) before ∙ ap (λ l. cond (same_tree k q) (Some l) (known q ps)) long
    ∙ sym (ap (known q) step ∙ known_put k q u (merged u) ps
    ∙ ap (λ b. if b then known q ps else (if same_tree k q then Some (count ps) else known q ps)) (is_new k ps is))

pub new_count : (k u : Tree) (ps next : Pairs) (n : ℕ) → next ≡ put k u (merged u) ps → known k ps ≡ None → n ≡ count ps → n + 1 ≡ count next
new_count k u ps next n step is before =
    let more : count next ≡ suc (count ps) = ap count step ∙ count_put k u (merged u) ps ∙ ap (λ b. if b then count ps else suc (count ps)) (is_new k ps is) in
    omega (arith, more, before)

-- one more place
pub place_pushed : (is js all so_far : List ℕ) (i p : ℕ) → js ≡ is ++ i ∷ [] → is ≡ so_far → p ≡ i → all ≡ so_far ++ p ∷ [] → js ≡ all
place_pushed is js all so_far i p pushed before same whole =
    pushed ∙ ap (λ ks. ks ++ i ∷ []) before ∙ ap (λ a. so_far ++ a ∷ []) (sym same) ∙ sym whole

-- another value in one pair
pub set_view : {K : Type 0} (key : K → Tree) (xs : List (K × NamedValue)) (i : ℕ) (x : K × NamedValue) (v : NamedValue) → i < length xs → x ≡ get_or xs i x
    → keyed key (set xs i (x.0, v)) ≡ with_value i (tree_of v) (keyed key xs)
set_view key [] i x v h e = absurd (omega (arith, h))
set_view key (y ∷ ys) zero x v h e = ap (λ q. pair_then (key q.0) (tree_of v) (keyed key ys)) e
set_view key (y ∷ ys) (suc i) x v h e = ap (pair_then (key y.0) (tree_of y.1)) (set_view key ys i x v (omega (arith, h)) e)

-- the value of one pair
pub value_view : {K : Type 0} (key : K → Tree) (xs : List (K × NamedValue)) (i : ℕ) (x : K × NamedValue) → i < length xs → x ≡ get_or xs i x
    → Some (tree_of x.1) ≡ value_at i (keyed key xs)
value_view key [] i x h e = absurd (omega (arith, h))
value_view key (y ∷ ys) zero x h e = ap (λ q. Some (tree_of q.1)) e
value_view key (y ∷ ys) (suc i) x h e = value_view key ys i x (omega (arith, h)) e

past : {K : Type 0} (key : K → Tree) (xs : List (K × NamedValue)) (i : ℕ) → length xs ≤ i → value_at i (keyed key xs) ≡ None
past key [] i h = refl
past key (y ∷ ys) zero h = absurd (omega (arith, h))
past key (y ∷ ys) (suc i) h = past key ys i (omega (arith, h))

-- one more pair put, where its key is found
pub changed : (k u x old m : Tree) (ps half next : Pairs) (i : ℕ) → Some old ≡ value_at i ps → half ≡ with_value i x ps → next ≡ with_value i m half
    → m ≡ merged u old → i ≡ place k ps → next ≡ put k u (merged u) ps
changed k u x old m ps half next i found taken set_in is_merged at_place =
    set_in ∙ ap (with_value i m) taken ∙ ap (λ v. with_value i v (with_value i x ps)) is_merged
    ∙ ap (λ n. with_value n (merged u old) (with_value n x ps)) at_place
    ∙ put_found k u x (merged u) old ps (ap (λ n. value_at n ps) (sym at_place) ∙ sym found)

-- and where it is new
pub added : {K : Type 0} (key : K → Tree) (p : K × NamedValue) (xs ys : List (K × NamedValue)) (i : ℕ) → length xs ≤ i → ys ≡ xs ++ p ∷ [] → i ≡ place (key p.0) (keyed key xs)
    → keyed key ys ≡ put (key p.0) (tree_of p.1) (merged (tree_of p.1)) (keyed key xs)
added key p xs ys i none pushed at_place =
    ap (keyed key) pushed ∙ put_new key (merged (tree_of p.1)) xs p (ap (λ n. value_at n (keyed key xs)) (sym at_place) ∙ past key xs i none)

-- what is left to put, after one pair of it
pub put_step : {K : Type 0} (key : K → Tree) (p : K × NamedValue) (rest left : List (K × NamedValue)) (is js : List ℕ) (i : ℕ) (ps next whole : Pairs)
    → rest ≡ p ∷ left → is ≡ i ∷ js → is ≡ places (keyed key rest) ps → merged_pairs (keyed key rest) ps ≡ whole
    → (i ≡ place (key p.0) ps → next ≡ put (key p.0) (tree_of p.1) (merged (tree_of p.1)) ps)
    → (js ≡ places (keyed key left) next) × (merged_pairs (keyed key left) next ≡ whole)
put_step key p rest left is js i ps next whole first first_place all so_far is_put =
    let after : Pairs = put (key p.0) (tree_of p.1) (merged (tree_of p.1)) ps in
    let both : i ∷ js ≡ place (key p.0) ps ∷ places (keyed key left) after = sym first_place ∙ all ∙ ap (λ r. places (keyed key r) ps) first in
    let head : i ≡ place (key p.0) ps = cc both in
    let tail : js ≡ places (keyed key left) after = cc both in
    let same : next ≡ after = is_put head in (
      tail ∙ ap (places (keyed key left)) (sym same),
      ap (merged_pairs (keyed key left)) same ∙ sym (ap (λ r. merged_pairs (keyed key r) ps) first) ∙ so_far,
    )

-- nothing is left to put, where there is no place left or no pair
pub no_place_left : {K : Type 0} (key : K → Tree) (rest : List (K × NamedValue)) (is : List ℕ)
    (ps whole : Pairs) → is ≡ places (keyed key rest) ps → merged_pairs (keyed key rest) ps ≡ whole
    → length is ≡ 0 → ps ≡ whole
no_place_left key [] is ps whole all so_far none = so_far
no_place_left key (x ∷ rest) is ps whole all so_far none =
    let after : Pairs = put (key x.0) (tree_of x.1) (merged (tree_of x.1)) ps in
    let long : length is ≡ suc (length (places (keyed key rest) after)) = ap length all in
    absurd (omega (arith, long, none))

pub no_pair_left : {K : Type 0} (key : K → Tree) (rest : List (K × NamedValue)) (ps whole : Pairs)
    → merged_pairs (keyed key rest) ps ≡ whole → length rest ≡ 0 → ps ≡ whole
no_pair_left key [] ps whole so_far none = so_far
no_pair_left key (x ∷ rest) ps whole so_far none = absurd (omega (arith, none))

-- one more of the items that an iterator gave
shifted : {A B : Type 0} (f : A → B) (ys : List A) (y : A) (left : List B) → map f ys ++ (f y ∷ left) ≡ map f (ys ++ y ∷ []) ++ left
shifted f [] y left = refl
shifted f (x ∷ ys) y left = ap (λ r. f x ∷ r) (shifted f ys y left)

pub yielded_more : {A B : Type 0} (f : A → B) (all : List B) (ys : List A) (y : A) (rest left : List B)
    → all ≡ map f ys ++ rest → rest ≡ f y ∷ left → all ≡ map f (ys ++ y ∷ []) ++ left
yielded_more f all ys y rest left so_far next = so_far ∙ ap (λ r. map f ys ++ r) next ∙ shifted f ys y left
