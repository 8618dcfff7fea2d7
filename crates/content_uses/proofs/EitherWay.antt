-- Which two of three trees are merged first doesn't matter, where no key is there twice and there is
-- one sort between two of it.
use Rattle.std.proofs.Common.{◌≡◌, Bool, true, false, List, [], ◌∷◌, Option, Some, None}
use Rattle.std.proofs.Common.{refl, ap, sym, subst, ◌∙◌}
use Rattle.std.specs.Prelude.{IfSome, IsSome, ⊤}
use Rattle.serde_content.specs.Names.Words.{same_tree, Tree}
use Rattle.serde_content.specs.Names.Tree as tree
use Rattle.serde_content.specs.Names.Tree.{Pairs, no_pairs, pair_then, Fields, no_fields, field_then}
use Rattle.content_uses.specs.Merged.{as_pairs, parts, with_parts, same_sort, merged, merged_pairs}
use Rattle.content_uses.specs.MergingLaws.{part, behind, SameSortAlong, SortsBetween, PairsOnce}
use Rattle.content_uses.specs.MergingLaws.{KeysOnce, one_pair, EitherWay, TwiceMatters}
use Rattle.content_uses.specs.MergingLaws.{TwiceBetweenMatters, NameMatters, OrderMatters}
use Rattle.content_uses.proofs.InTurn.{InTurn, pairs_in_turn}
use Rattle.content_uses.proofs.MergingLaws.{at}
use Rattle.content_uses.proofs.Parts.{merged_one, merged_other, parts_merged, sort_alike, sort_turned}
use Rattle.content_uses.proofs.Parts.{sort_with, with_twice}

-- of each value
abbrev Each : (Tree → Type 0) → Pairs → Type 0
Each P no_pairs = ⊤
Each P (pair_then k t ps) = P t × Each P ps

-- so of what a key finds
found : (P : Tree → Type 0) (ps : Pairs) → Each P ps → (k v : Tree) → at k ps ≡ Some v → P v
found P no_pairs each k v e = absurd (cc e)
found P (pair_then j t ps) each k v e =
    by (at k ps) refl (same_tree j k) refl (found P ps each.1 k v)
  where
    by : (o : Option Tree) → at k ps ≡ o → (b : Bool) → same_tree j k ≡ b → (at k ps ≡ Some v → P v)
        → P v
    by (Some s) m b n rest = rest (m ∙ (rw m at e))
    by None m true n rest = let same : t ≡ v = cc (rw (m, n) at e) in subst P same each.0
    by None m false n rest = absurd (cc (rw (m, n) at e))

-- what holds of a tree where it holds of what each key finds in it holds of all
abbrev Step : (Tree → Type 0) → Type 0
Step P = (t : Tree) → ((k v : Tree) → part k t ≡ Some v → P v) → P t

mutual
  by_parts : (P : Tree → Type 0) → Step P → (t : Tree) → P t
  by_parts P step (tree.map ps) = step (tree.map ps) (found P ps (each_pair P step ps))
  by_parts P step (tree.structure n (tree.named fs)) =
      step (tree.structure n (tree.named fs)) (found P (as_pairs fs) (each_field P step fs))
  by_parts P step (tree.structure n tree.no_data) = step _ (λ k v e. absurd (cc e))
  by_parts P step (tree.structure n (tree.one t)) = step _ (λ k v e. absurd (cc e))
  by_parts P step (tree.structure n (tree.many ts)) = step _ (λ k v e. absurd (cc e))
  by_parts P step tree.unit = step _ (λ k v e. absurd (cc e))
  by_parts P step (tree.boolean b) = step _ (λ k v e. absurd (cc e))
  by_parts P step (tree.number n) = step _ (λ k v e. absurd (cc e))
  by_parts P step (tree.character c) = step _ (λ k v e. absurd (cc e))
  by_parts P step (tree.text x) = step _ (λ k v e. absurd (cc e))
  by_parts P step (tree.octets x) = step _ (λ k v e. absurd (cc e))
  by_parts P step (tree.seq ts) = step _ (λ k v e. absurd (cc e))
  by_parts P step tree.absent = step _ (λ k v e. absurd (cc e))
  by_parts P step (tree.present t) = step _ (λ k v e. absurd (cc e))
  by_parts P step (tree.enumeration n i v d) = step _ (λ k v e. absurd (cc e))
  by_parts P step (tree.tuple ts) = step _ (λ k v e. absurd (cc e))

  each_pair : (P : Tree → Type 0) → Step P → (ps : Pairs) → Each P ps
  each_pair P step no_pairs = tt
  each_pair P step (pair_then k t ps) = (by_parts P step t, each_pair P step ps)

  each_field : (P : Tree → Type 0) → Step P → (fs : Fields) → Each P (as_pairs fs)
  each_field P step no_fields = tt
  each_field P step (field_then k t fs) = (by_parts P step t, each_field P step fs)

-- the premises for what a key finds
once_part : (k t v : Tree) → KeysOnce t → part k t ≡ Some v → KeysOnce v
once_part k t v once e = λ path. rw e at (once (k ∷ path))

between_part : (k u t s v w x : Tree) → SortsBetween u t s → same_sort u s ≡ true
    → part k u ≡ Some v → part k t ≡ Some w → part k s ≡ Some x → SortsBetween v w x
between_part k u t s v w x between outer above middle below = λ path along is.
    let both : SameSortAlong (k ∷ path) u s = (outer, rw (above, below) along) in
    let there : IsSome (behind (k ∷ path) t) = rw middle is in
    let all : SameSortAlong (k ∷ path) u t = between (k ∷ path) both there in
    rw (above, middle) at all.1

-- the sort that is put over others stays
merged_sort : (u t s : Tree) → same_sort u t ≡ true → same_sort (merged u t) s ≡ same_sort t s
merged_sort u t s e =
    ap (λ v. same_sort v s) (merged_one u t e) ∙ sort_with (merged_pairs (parts u) (parts t)) t s

-- where each has one sort
one_sort : (u t s : Tree) → same_sort u t ≡ true → same_sort t s ≡ true
    → merged_pairs (merged_pairs (parts u) (parts t)) (parts s)
    ≡ merged_pairs (parts u) (merged_pairs (parts t) (parts s))
    → InTurn u t s
one_sort u t s e f pairs =
    let first : Pairs = merged_pairs (parts u) (parts t) in
    let last : Pairs = merged_pairs (parts t) (parts s) in
    let left : same_sort (with_parts first t) s ≡ true = sort_with first t s ∙ f in
    let right : same_sort u (with_parts last s) ≡ true
    = sort_alike u t (with_parts last s) e ∙ sort_turned t (with_parts last s)
    ∙ sort_with last s t ∙ sort_turned s t ∙ f in
    ap (λ v. merged v s) (merged_one u t e) ∙ merged_one (with_parts first t) s left
    ∙ ap (λ ps. with_parts (merged_pairs ps (parts s)) s) (parts_merged u t e)
    ∙ ap (λ ps. with_parts ps s) pairs
    ∙ sym (ap (merged u) (merged_one t s f) ∙ merged_one u (with_parts last s) right
    ∙ ap (λ ps. with_parts (merged_pairs (parts u) ps) (with_parts last s)) (parts_merged t s f)
    ∙ with_twice (merged_pairs (parts u) last) last s)

-- which two are merged first doesn't matter, under the premises
abbrev Either : Tree → Type 0
Either u = (t s : Tree) → KeysOnce u → KeysOnce t → SortsBetween u t s → InTurn u t s

step : Step Either
step u each t s a b between = by (same_sort u t) refl (same_sort t s) refl (same_sort u s) refl
  where
    by : (c : Bool) → same_sort u t ≡ c → (d : Bool) → same_sort t s ≡ d → (o : Bool)
        → same_sort u s ≡ o → InTurn u t s
    by true e true f o g =
        let outer : same_sort u s ≡ true = sort_alike u t s e ∙ f in
        one_sort u t s e f (pairs_in_turn (parts u) (a []) (parts t) (parts s) (b [])
        (λ k v w x above middle below. each k v above w x (once_part k u v a above)
        (once_part k t w b middle) (between_part k u t s v w x between outer above middle below)))
    by true e false f o g =
        merged_other (merged u t) s (merged_sort u t s e ∙ f)
        ∙ ap (merged u) (sym (merged_other t s f))
    by false e d f true g = absurd (cc (e, between [] g refl))
    by false e true f false g =
        let apart : same_sort u (merged t s) ≡ false
        = sort_turned u (merged t s) ∙ merged_sort t s u f ∙ sort_turned s u ∙ g in
        ap (λ v. merged v s) (merged_other u t e) ∙ merged_other u s g
        ∙ sym (merged_other u (merged t s) apart)
    by false e false f false g =
        ap (λ v. merged v s) (merged_other u t e) ∙ merged_other u s g
        ∙ sym (ap (merged u) (merged_other t s f) ∙ merged_other u t e)

pub either_way : EitherWay
either_way u t s a b between = by_parts Either step u t s a b between

-- in the middle of the example each key is there once
inside : KeysOnce (tree.map no_pairs)
inside [] = tt
inside (k ∷ path) = tt

nested : KeysOnce (one_pair tree.unit (tree.map no_pairs))
nested [] = (refl, tt)
nested (k ∷ path) = by (same_tree tree.unit k) refl
  where
    by : (b : Bool) → same_tree tree.unit k ≡ b
        → IfSome (behind (k ∷ path) (one_pair tree.unit (tree.map no_pairs))) (λ u. PairsOnce (parts u))
    by true e = rw e (inside path)
    by false e = rw e tt

-- an empty map has no value of a key
only_root : (path : List Tree) (t : Tree) → SameSortAlong path (tree.map no_pairs) t
    → SameSortAlong path (tree.map no_pairs) (tree.map no_pairs)
only_root [] t along = refl
only_root (k ∷ path) t along = absurd along.1

-- and a map is between both
map_between : (path : List Tree)
    → SameSortAlong path (tree.map (pair_then tree.unit tree.unit
    (pair_then tree.unit (tree.map no_pairs) no_pairs)))
    (one_pair tree.unit (one_pair tree.unit tree.unit))
    → SameSortAlong path (tree.map (pair_then tree.unit tree.unit
    (pair_then tree.unit (tree.map no_pairs) no_pairs)))
    (one_pair tree.unit (tree.map no_pairs))
map_between [] along = refl
map_between (k ∷ path) along = by (same_tree tree.unit k) refl
  where
    by : (b : Bool) → same_tree tree.unit k ≡ b
        → SameSortAlong (k ∷ path) (tree.map (pair_then tree.unit tree.unit
        (pair_then tree.unit (tree.map no_pairs) no_pairs)))
        (one_pair tree.unit (tree.map no_pairs))
    by true e = (refl, rw e (only_root path _ (rw e at along.1)))
    by false e = absurd (rw e at along.1)

pub twice_matters : TwiceMatters
twice_matters = (nested, λ path along there. map_between path along, λ e. absurd (cc e))

none_between : (path : List Tree) (t : Tree) → same_sort (one_pair tree.unit (tree.map no_pairs)) t ≡ true
    → SameSortAlong path (one_pair tree.unit (tree.map no_pairs)) (tree.map no_pairs)
    → SameSortAlong path (one_pair tree.unit (tree.map no_pairs)) t
none_between [] t same along = same
none_between (k ∷ path) t same along = by (same_tree tree.unit k) refl
  where
    by : (b : Bool) → same_tree tree.unit k ≡ b
        → SameSortAlong (k ∷ path) (one_pair tree.unit (tree.map no_pairs)) t
    by true e = absurd (rw e at along.1)
    by false e = absurd (rw e at along.1)

pub twice_between_matters : TwiceBetweenMatters
twice_between_matters =
    (nested, λ path along there. none_between path _ refl along, λ e. absurd (cc e))

pub name_matters : NameMatters
name_matters = λ e. absurd (cc e)

pub order_matters : OrderMatters
order_matters = λ e. absurd (cc e)
