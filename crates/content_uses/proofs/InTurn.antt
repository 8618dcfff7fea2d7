-- Three lists of pairs merged, of which two have each key once: which two first doesn't matter where
-- it doesn't for the values of one key.
use Rattle.std.proofs.Common.{◌≡◌, Bool, true, false, Option, Some, None, is_some, option_map}
use Rattle.std.proofs.Common.{refl, ap, sym, ◌∙◌, if◌then◌else◌}
use Rattle.std.specs.Prelude.{IfSome}
use Rattle.serde_content.proofs.Names.{tree_equiv}
use Rattle.serde_content.specs.Names.Words.{same_tree, Tree}
use Rattle.serde_content.specs.Names.Tree.{Pairs, no_pairs, pair_then}
use Rattle.content_uses.specs.Merged.{has_key, is_last, put, merged, merged_pairs}
use Rattle.content_uses.specs.MergingLaws.{PairsOnce}
use Rattle.content_uses.proofs.Changes.{none_at, put_other, put_there, put_twice, put_agree}
use Rattle.content_uses.proofs.Changes.{merged_swap}
use Rattle.content_uses.proofs.MergingLaws.{at, at_alike}

-- the last value of the key in the middle, and the one it is put over in the base
abbrev pub both_at : (key : Tree) → (middle base : Pairs) → Option (Tree × Tree)
both_at k no_pairs ss = None
both_at k (pair_then j t ts) ss =
    if is_last k j ts then option_map (λ s. (t, s)) (at k ss)
    else both_at k ts (put j t (merged t) ss)

-- one pair of the first, before the middle is put over the base or after it
merged_put : (k u : Tree) (P : Tree → Tree → Type 0) (ts ss : Pairs)
    → ((t s : Tree) → P t s → merged (merged u t) s ≡ merged u (merged t s))
    → IfSome (both_at k ts ss) (λ b. P b.0 b.1)
    → merged_pairs (put k u (merged u) ts) ss ≡ put k u (merged u) (merged_pairs ts ss)
merged_put k u P no_pairs ss each both = refl
merged_put k u P (pair_then j t ts) ss each both =
    by (at k ts) refl (same_tree j k) refl (merged_put k u P ts (put j t (merged t) ss) each)
  where
    by : (o : Option Tree) → at k ts ≡ o → (b : Bool) → same_tree j k ≡ b
        → (IfSome (both_at k ts (put j t (merged t) ss)) (λ b. P b.0 b.1)
        → merged_pairs (put k u (merged u) ts) (put j t (merged t) ss)
        ≡ put k u (merged u) (merged_pairs ts (put j t (merged t) ss)))
        → merged_pairs (put k u (merged u) (pair_then j t ts)) ss
        ≡ put k u (merged u) (merged_pairs (pair_then j t ts) ss)
    by (Some v) m b n rest = rw m (rest (rw m at both))
    by None m false n rest = rw (m, n) (rest (rw (m, n) at both))
    by None m true n rest =
        let found : IfSome (option_map (λ s. (t, s)) (at k ss)) (λ b. P b.0 b.1)
        = rw (m, n) at both in
        let one : put j (merged u t) (merged (merged u t)) ss
        ≡ put j (merged u t) (λ s. merged u (merged t s)) ss
        = put_agree j (merged u t) (merged (merged u t)) (λ s. merged u (merged t s)) ss
        (λ s e. each t s (rw (sym (at_alike j k ss n) ∙ e) at found)) in
        let two : put k u (merged u) (put j t (merged t) ss)
        ≡ put j (merged u t) (λ s. merged u (merged t s)) ss
        = put_twice j k u t (merged u) (merged t) ss n in
        rw (m, n) (ap (merged_pairs ts) (one ∙ sym two)
        ∙ merged_swap k u (merged u) ts (put j t (merged t) ss) (rw m refl)
        (put_there j k t (merged t) ss n))

-- a change leaves each key once
once_put : (k x : Tree) (f : Tree → Tree) (ps : Pairs) → PairsOnce ps → PairsOnce (put k x f ps)
once_put k x f no_pairs h = (refl, tt)
once_put k x f (pair_then j t ps) h =
    by (at k ps) refl (same_tree j k) refl (once_put k x f ps h.1)
  where
    new : same_tree j k ≡ false → has_key j (put k x f ps) ≡ false
    new n = ap is_some (put_other k j x f ps (tree_equiv.symm k j ∙ n)) ∙ h.0

    by : (o : Option Tree) → at k ps ≡ o → (b : Bool) → same_tree j k ≡ b → PairsOnce (put k x f ps)
        → PairsOnce (put k x f (pair_then j t ps))
    by (Some s) m true n rest = absurd (cc (m, none_at j k ps h.0 n))
    by (Some s) m false n rest = rw m (new n, rest)
    by None m true n rest = rw (m, n) h
    by None m false n rest = rw (m, n) (new n, rest)

-- the first pair's key finds its value
found_first : (k u : Tree) (us : Pairs) → has_key k us ≡ false → at k (pair_then k u us) ≡ Some u
found_first k u us e =
    let none : at k us ≡ None = none_at k k us e (tree_equiv.refl k) in
    rw (none, tree_equiv.refl k) refl

-- what is found among pairs of other keys has another key
other_key : (k j v : Tree) (us : Pairs) → has_key k us ≡ false → at j us ≡ Some v
    → same_tree k j ≡ false
other_key k j v us e d = by (same_tree k j) refl
  where
    by : (b : Bool) → same_tree k j ≡ b → same_tree k j ≡ false
    by true n = absurd (cc (d, none_at k j us e n))
    by false n = n

-- what the key finds in the middle is put over what it finds in the base
both_once : (k : Tree) (P : Tree → Tree → Type 0) (ts ss : Pairs) → PairsOnce ts
    → ((t s : Tree) → at k ts ≡ Some t → at k ss ≡ Some s → P t s)
    → IfSome (both_at k ts ss) (λ b. P b.0 b.1)
both_once k P no_pairs ss h each = tt
both_once k P (pair_then j t ts) ss h each =
    by (at k ts) refl (same_tree j k) refl (both_once k P ts (put j t (merged t) ss) h.1)
  where
    here : at k (pair_then j t ts) ≡ Some t → (o : Option Tree) → at k ss ≡ o
        → IfSome {T = Tree × Tree} (option_map (λ s. (t, s)) o) (λ b. P b.0 b.1)
    here e (Some s) f = each t s e f
    here e None f = tt

    by : (o : Option Tree) → at k ts ≡ o → (b : Bool) → same_tree j k ≡ b
        → (((u s : Tree) → at k ts ≡ Some u → at k (put j t (merged t) ss) ≡ Some s → P u s)
        → IfSome (both_at k ts (put j t (merged t) ss)) (λ b. P b.0 b.1))
        → IfSome (both_at k (pair_then j t ts) ss) (λ b. P b.0 b.1)
    by (Some u) m true n rest = absurd (cc (m, none_at j k ts h.0 n))
    by (Some u) m false n rest =
        rw m (rest (λ v s e f. each v s (rw e refl) (sym (put_other j k t (merged t) ss n) ∙ f)))
    by None m true n rest = rw (m, n) (here (rw (m, n) refl) (at k ss) refl)
    by None m false n rest =
        rw (m, n)
        (rest (λ v s e f. each v s (rw e refl) (sym (put_other j k t (merged t) ss n) ∙ f)))

-- it doesn't matter which two of the three are merged first
abbrev pub InTurn : (over middle base : Tree) → Type 0
InTurn u t s = merged (merged u t) s ≡ merged u (merged t s)

pub pairs_in_turn : (us : Pairs) → PairsOnce us → (ts ss : Pairs) → PairsOnce ts
    → ((k u t s : Tree) → at k us ≡ Some u → at k ts ≡ Some t → at k ss ≡ Some s → InTurn u t s)
    → merged_pairs (merged_pairs us ts) ss ≡ merged_pairs us (merged_pairs ts ss)
pairs_in_turn no_pairs a ts ss b each = refl
pairs_in_turn (pair_then k u us) a ts ss b each =
    pairs_in_turn us a.1 (put k u (merged u) ts) ss (once_put k u (merged u) ts b) (λ j v t s d e f.
    let stays = put_other k j u (merged u) ts (other_key k j v us a.0 d) in
    each j v t s (rw d refl) (sym stays ∙ e) f)
    ∙ ap (merged_pairs us) (merged_put k u (InTurn u) ts ss (λ t s h. h)
    (both_once k (InTurn u) ts ss b (λ t s e f. each k u t s (found_first k u us a.0) e f)))
