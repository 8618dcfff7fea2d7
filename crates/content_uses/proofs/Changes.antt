-- What a change of a key's value leaves as it was, and changes one after another.
use Rattle.std.proofs.Common.{◌≡◌, Bool, true, false, Option, Some, None, is_some}
use Rattle.std.proofs.Common.{refl, ap, sym, ◌∙◌}
use Rattle.serde_content.proofs.Names.{tree_equiv}
use Rattle.serde_content.specs.Names.Words.{same_tree, or_else, Tree}
use Rattle.serde_content.specs.Names.Tree.{Pairs, no_pairs, pair_then}
use Rattle.content_uses.specs.Merged.{has_key, put, merged, merged_pairs}
use Rattle.content_uses.proofs.MergingLaws.{at, then_at, at_alike}

-- where none has a key, none has an equal one
pub none_at : (k j : Tree) (ps : Pairs) → has_key k ps ≡ false → same_tree k j ≡ true
    → at j ps ≡ None
none_at k j ps e same = by (at j ps) refl
  where
    by : (o : Option Tree) → at j ps ≡ o → at j ps ≡ None
    by (Some t) m = absurd (cc (rw (at_alike k j ps same, m) at e))
    by None m = m

-- what another key finds stays
pub put_other : (k q x : Tree) (f : Tree → Tree) (ps : Pairs) → same_tree k q ≡ false
    → at q (put k x f ps) ≡ at q ps
put_other k q x f no_pairs e = rw e refl
put_other k q x f (pair_then j t ps) e =
    by (at k ps) refl (same_tree j k) refl (put_other k q x f ps e)
  where
    by : (o : Option Tree) → at k ps ≡ o → (b : Bool) → same_tree j k ≡ b
        → at q (put k x f ps) ≡ at q ps
        → at q (put k x f (pair_then j t ps)) ≡ at q (pair_then j t ps)
    by (Some s) m b n rest = rw m (ap (then_at q j t) rest)
    by None m true n rest =
        let other : same_tree j q ≡ false = tree_equiv.congr j k q n ∙ e in rw (m, n, other) refl
    by None m false n rest = rw (m, n) (ap (then_at q j t) rest)

-- one of the two is there
some_first : (o p : Option Tree) → is_some o ≡ true → is_some (or_else o p) ≡ true
some_first (Some t) p e = refl
some_first None p e = absurd (cc e)

some_second : (o : Option Tree) (t : Tree) → is_some (or_else o (Some t)) ≡ true
some_second (Some s) t = refl
some_second None t = refl

-- an equal key finds something
pub put_there : (k q x : Tree) (f : Tree → Tree) (ps : Pairs) → same_tree k q ≡ true
    → has_key q (put k x f ps) ≡ true
put_there k q x f no_pairs e = rw e refl
put_there k q x f (pair_then j t ps) e =
    by (at k ps) refl (same_tree j k) refl (put_there k q x f ps e)
  where
    by : (o : Option Tree) → at k ps ≡ o → (b : Bool) → same_tree j k ≡ b
        → has_key q (put k x f ps) ≡ true → has_key q (put k x f (pair_then j t ps)) ≡ true
    by (Some s) m b n rest = rw m (some_first (at q (put k x f ps)) _ rest)
    by None m true n rest =
        let same : same_tree j q ≡ true = tree_equiv.congr j k q n ∙ e in
        rw (m, n, same) (some_second (at q ps) (f t))
    by None m false n rest = rw (m, n) (some_first (at q (put k x f ps)) _ rest)

-- two changes of the values of equal keys are one
pub put_twice : (j k x y : Tree) (f g : Tree → Tree) (ps : Pairs) → same_tree j k ≡ true
    → put k x f (put j y g ps) ≡ put j (f y) (λ t. f (g t)) ps
put_twice j k x y f g no_pairs e = rw e refl
put_twice j k x y f g (pair_then i s ps) e =
    by (at j ps) refl (same_tree i j) refl (put_twice j k x y f g ps e)
  where
    there : has_key k (put j y g ps) ≡ true
    there = put_there j k y g ps e

    by : (o : Option Tree) → at j ps ≡ o → (b : Bool) → same_tree i j ≡ b
        → put k x f (put j y g ps) ≡ put j (f y) (λ t. f (g t)) ps
        → put k x f (put j y g (pair_then i s ps)) ≡ put j (f y) (λ t. f (g t)) (pair_then i s ps)
    by (Some u) m b n rest = rw (m, there) (ap (pair_then i s) rest)
    by None m true n rest =
        let none : at k ps ≡ None = sym (at_alike j k ps e) ∙ m in
        let same : same_tree i k ≡ true = tree_equiv.congr i j k n ∙ e in
        rw (m, n, none, same) refl
    by None m false n rest = rw (m, n, there) (ap (pair_then i s) rest)

-- changes that agree on what the key finds
pub put_agree : (k x : Tree) (f g : Tree → Tree) (ps : Pairs)
    → ((s : Tree) → at k ps ≡ Some s → f s ≡ g s) → put k x f ps ≡ put k x g ps
put_agree k x f g no_pairs h = refl
put_agree k x f g (pair_then i t ps) h =
    by (at k ps) refl (same_tree i k) refl (put_agree k x f g ps (λ s e. h s (rw e refl)))
  where
    by : (o : Option Tree) → at k ps ≡ o → (b : Bool) → same_tree i k ≡ b
        → put k x f ps ≡ put k x g ps → put k x f (pair_then i t ps) ≡ put k x g (pair_then i t ps)
    by (Some s) m b n rest = rw m (ap (pair_then i t) rest)
    by None m true n rest = rw (m, n) (ap (λ v. pair_then i v ps) (h t (rw (m, n) refl)))
    by None m false n rest = rw (m, n) (ap (pair_then i t) rest)

-- a change of the value of a key that is there, and one of another's, in either order
pub put_swap : (k j x y : Tree) (f g : Tree → Tree) (ps : Pairs) → same_tree k j ≡ false
    → has_key k ps ≡ true → put k x f (put j y g ps) ≡ put j y g (put k x f ps)
put_swap k j x y f g no_pairs e there = absurd (cc there)
put_swap k j x y f g (pair_then i s ps) e there =
    by (at k ps) refl (at j ps) refl (same_tree i k) refl (same_tree i j) refl
    (put_swap k j x y f g ps e)
  where
    for_k : at k (put j y g ps) ≡ at k ps
    for_k = put_other j k y g ps (tree_equiv.symm j k ∙ e)

    for_j : at j (put k x f ps) ≡ at j ps
    for_j = put_other k j x f ps e

    by : (o : Option Tree) → at k ps ≡ o → (p : Option Tree) → at j ps ≡ p
        → (b : Bool) → same_tree i k ≡ b → (d : Bool) → same_tree i j ≡ d
        → (has_key k ps ≡ true → put k x f (put j y g ps) ≡ put j y g (put k x f ps))
        → put k x f (put j y g (pair_then i s ps)) ≡ put j y g (put k x f (pair_then i s ps))
    by (Some u) m (Some v) n b a d c rest =
        rw (m, n, for_k, for_j, m, n) (ap (pair_then i s) (rest (rw m refl)))
    by (Some u) m None n b a true c rest = rw (m, n, c, for_j, n, m) refl
    by (Some u) m None n b a false c rest =
        rw (m, n, c, for_k, for_j, m, n) (ap (pair_then i s) (rest (rw m refl)))
    by None m p n true a true c rest =
        let other : same_tree i j ≡ false = tree_equiv.congr i k j a ∙ e in absurd (cc)
    by None m (Some v) n true a false c rest = rw (m, n, a, c, for_k, m, n) refl
    by None m None n true a false c rest = rw (m, n, a, c, for_k, m, a, n) refl
    by None m p n false a d c rest = absurd (cc (rw (m, a) at there))

-- where no pair has the key, neither the first nor a later one has it
fresh_then : (k j t : Tree) (qs : Pairs) → has_key k (pair_then j t qs) ≡ false
    → (same_tree k j ≡ false) × (has_key k qs ≡ false)
fresh_then k j t qs e = by (at k qs) refl (same_tree j k) refl
  where
    by : (o : Option Tree) → at k qs ≡ o → (b : Bool) → same_tree j k ≡ b
        → (same_tree k j ≡ false) × (has_key k qs ≡ false)
    by (Some s) m b n = absurd (cc (rw m at e))
    by None m true n = absurd (cc (rw (m, n) at e))
    by None m false n = (tree_equiv.symm k j ∙ n, rw m refl)

-- a change of the value of a key that is there, before pairs of other keys are put or after them
pub merged_swap : (k x : Tree) (f : Tree → Tree) (qs ps : Pairs) → has_key k qs ≡ false
    → has_key k ps ≡ true → merged_pairs qs (put k x f ps) ≡ put k x f (merged_pairs qs ps)
merged_swap k x f no_pairs ps fresh there = refl
merged_swap k x f (pair_then j u qs) ps fresh there =
    let other = fresh_then k j u qs fresh in
    let still : has_key k (put j u (merged u) ps) ≡ true
    = ap is_some (put_other j k u (merged u) ps (tree_equiv.symm j k ∙ other.0)) ∙ there in
    ap (merged_pairs qs) (sym (put_swap k j x u f (merged u) ps other.0 there))
    ∙ merged_swap k x f qs (put j u (merged u) ps) other.1 still
