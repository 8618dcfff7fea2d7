-- The parts of trees, and their sorts.
use Rattle.std.proofs.Common.{◌≡◌, Bool, true, false, refl, ap, sym, ◌∙◌, if◌then◌else◌}
use Rattle.std.specs.Cmp.Lexicographic.{nat_list_eq_equiv}
use Rattle.serde_content.specs.Names.Words.{Tree, Text}
use Rattle.serde_content.specs.Names.Tree as tree
use Rattle.serde_content.specs.Names.Tree.{Pairs, pair_then, Fields, no_fields, field_then}
use Rattle.content_uses.specs.Merged.{is_last, put, as_pairs, as_fields, parts, with_parts, same_sort}
use Rattle.content_uses.specs.Merged.{merged, merged_pairs, merged_fields}

-- fields are what their pairs are as fields
pub fields_back : (fs : Fields) → as_fields (as_pairs fs) ≡ fs
fields_back no_fields = refl
fields_back (field_then k t fs) = ap (field_then k t) (fields_back fs)

-- pairs are those of the fields that they are
pub pairs_back : (fs : Fields) → as_pairs (as_fields (as_pairs fs)) ≡ as_pairs fs
pairs_back fs = ap as_pairs (fields_back fs)

-- so with a text put there
put_back : (k : Text) (u : Tree) (f : Tree → Tree) (fs : Fields)
    → as_pairs (as_fields (put (tree.text k) u f (as_pairs fs))) ≡ put (tree.text k) u f (as_pairs fs)
put_back k u f no_fields = refl
put_back k u f (field_then j t fs) =
    by (is_last (tree.text k) (tree.text j) (as_pairs fs)) (put_back k u f fs)
  where
    by : (b : Bool)
        → as_pairs (as_fields (put (tree.text k) u f (as_pairs fs)))
        ≡ put (tree.text k) u f (as_pairs fs)
        → as_pairs (as_fields (if b then pair_then (tree.text j) (f t) (as_pairs fs)
        else pair_then (tree.text j) t (put (tree.text k) u f (as_pairs fs))))
        ≡ (if b then pair_then (tree.text j) (f t) (as_pairs fs)
        else pair_then (tree.text j) t (put (tree.text k) u f (as_pairs fs)))
    by true rest = ap (pair_then (tree.text j) (f t)) (pairs_back fs)
    by false rest = ap (pair_then (tree.text j) t) rest

-- and with fields put over others
pub merged_back : (fs gs : Fields)
    → as_pairs (as_fields (merged_pairs (as_pairs fs) (as_pairs gs)))
    ≡ merged_pairs (as_pairs fs) (as_pairs gs)
merged_back no_fields gs = pairs_back gs
merged_back (field_then k u fs) gs =
    let next : Fields = as_fields (put (tree.text k) u (merged u) (as_pairs gs)) in
    let same : as_pairs next ≡ put (tree.text k) u (merged u) (as_pairs gs)
    = put_back k u (merged u) gs in
    ap (λ ps. as_pairs (as_fields (merged_pairs (as_pairs fs) ps))) (sym same)
    ∙ merged_back fs next ∙ ap (merged_pairs (as_pairs fs)) same

-- fields are put as their pairs are
pub fields_as_pairs : (fs : Fields) (ps : Pairs) → merged_fields fs ps ≡ merged_pairs (as_pairs fs) ps
fields_as_pairs no_fields ps = refl
fields_as_pairs (field_then k u fs) ps = fields_as_pairs fs (put (tree.text k) u (merged u) ps)

-- neither a map nor a struct with fields
abbrev pub Other : Tree → Type 0
Other t = ((s : Tree) → same_sort t s ≡ false) × ((ps : Pairs) → same_sort (tree.map ps) t ≡ false)
    × ((n : Text) (fs : Fields) → same_sort (tree.structure n (tree.named fs)) t ≡ false)
    × ((ps : Pairs) → with_parts ps t ≡ t) × ((s : Tree) → merged t s ≡ t)

-- a map, a struct with fields, or neither
pub by_sort : (P : Tree → Type 0) → ((ps : Pairs) → P (tree.map ps))
    → ((n : Text) (fs : Fields) → P (tree.structure n (tree.named fs)))
    → ((t : Tree) → Other t → P t) → (t : Tree) → P t
by_sort P m s o (tree.map ps) = m ps
by_sort P m s o (tree.structure n (tree.named fs)) = s n fs
by_sort P m s o (tree.structure n tree.no_data) =
    o _ (λ s. refl, λ ps. refl, λ n fs. refl, λ ps. refl, λ s. refl)
by_sort P m s o (tree.structure n (tree.one t)) =
    o _ (λ s. refl, λ ps. refl, λ n fs. refl, λ ps. refl, λ s. refl)
by_sort P m s o (tree.structure n (tree.many ts)) =
    o _ (λ s. refl, λ ps. refl, λ n fs. refl, λ ps. refl, λ s. refl)
by_sort P m s o tree.unit = o _ (λ s. refl, λ ps. refl, λ n fs. refl, λ ps. refl, λ s. refl)
by_sort P m s o (tree.boolean b) =
    o _ (λ s. refl, λ ps. refl, λ n fs. refl, λ ps. refl, λ s. refl)
by_sort P m s o (tree.number n) =
    o _ (λ s. refl, λ ps. refl, λ n fs. refl, λ ps. refl, λ s. refl)
by_sort P m s o (tree.character c) =
    o _ (λ s. refl, λ ps. refl, λ n fs. refl, λ ps. refl, λ s. refl)
by_sort P m s o (tree.text x) = o _ (λ s. refl, λ ps. refl, λ n fs. refl, λ ps. refl, λ s. refl)
by_sort P m s o (tree.octets x) =
    o _ (λ s. refl, λ ps. refl, λ n fs. refl, λ ps. refl, λ s. refl)
by_sort P m s o (tree.seq ts) = o _ (λ s. refl, λ ps. refl, λ n fs. refl, λ ps. refl, λ s. refl)
by_sort P m s o tree.absent = o _ (λ s. refl, λ ps. refl, λ n fs. refl, λ ps. refl, λ s. refl)
by_sort P m s o (tree.present t) =
    o _ (λ s. refl, λ ps. refl, λ n fs. refl, λ ps. refl, λ s. refl)
by_sort P m s o (tree.enumeration n i v d) =
    o _ (λ s. refl, λ ps. refl, λ n fs. refl, λ ps. refl, λ s. refl)
by_sort P m s o (tree.tuple ts) = o _ (λ s. refl, λ ps. refl, λ n fs. refl, λ ps. refl, λ s. refl)

-- what a merge is
pub merged_is : (u t : Tree)
    → merged u t ≡ (if same_sort u t then with_parts (merged_pairs (parts u) (parts t)) t else u)
merged_is u t =
    by_sort (λ v. merged v t
    ≡ (if same_sort v t then with_parts (merged_pairs (parts v) (parts t)) t else v)) (λ ps. refl)
    (λ n fs. ap (λ ps. if same_sort (tree.structure n (tree.named fs)) t then with_parts ps t
    else tree.structure n (tree.named fs)) (fields_as_pairs fs (parts t)))
    (λ v o. o.4 t ∙ sym (ap (λ b. if b then with_parts (merged_pairs (parts v) (parts t)) t else v)
    (o.0 t))) u

-- of one sort
pub merged_one : (u t : Tree) → same_sort u t ≡ true
    → merged u t ≡ with_parts (merged_pairs (parts u) (parts t)) t
merged_one u t e =
    merged_is u t ∙ ap (λ b. if b then with_parts (merged_pairs (parts u) (parts t)) t else u) e

-- of others
pub merged_other : (u t : Tree) → same_sort u t ≡ false → merged u t ≡ u
merged_other u t e =
    merged_is u t ∙ ap (λ b. if b then with_parts (merged_pairs (parts u) (parts t)) t else u) e

-- nothing is of the sort of what is neither
pub other_right : (u t : Tree) → Other t → same_sort u t ≡ false
other_right u t o =
    by_sort (λ v. same_sort v t ≡ false) o.1 (λ n fs. o.2 n fs) (λ v p. p.0 t) u

-- maps are of one sort, and structs of one name
map_sort : (ps qs : Pairs) (t : Tree) → same_sort (tree.map ps) t ≡ same_sort (tree.map qs) t
map_sort ps qs t =
    by_sort (λ s. same_sort (tree.map ps) s ≡ same_sort (tree.map qs) s) (λ rs. refl) (λ n fs. refl)
    (λ s o. o.1 ps ∙ sym (o.1 qs)) t

struct_sort : (n m : Text) (fs gs : Fields) (t : Tree)
    → same_sort (tree.structure n (tree.named fs)) (tree.structure m (tree.named gs)) ≡ true
    → same_sort (tree.structure n (tree.named fs)) t ≡ same_sort (tree.structure m (tree.named gs)) t
struct_sort n m fs gs t e =
    by_sort (λ s. same_sort (tree.structure n (tree.named fs)) s
    ≡ same_sort (tree.structure m (tree.named gs)) s) (λ rs. refl)
    (λ k hs. nat_list_eq_equiv.congr n.content m.content k.content e)
    (λ s o. o.2 n fs ∙ sym (o.2 m gs)) t

-- two of one sort are of one sort with the same
pub sort_alike : (u t s : Tree) → same_sort u t ≡ true → same_sort u s ≡ same_sort t s
sort_alike u t s =
    by_sort (λ v. same_sort v t ≡ true → same_sort v s ≡ same_sort t s) (λ ps. map_alike ps)
    (λ n fs. struct_alike n fs) (λ v o e. absurd (cc (e, o.0 t))) u
  where
    map_alike : (ps : Pairs) → same_sort (tree.map ps) t ≡ true
        → same_sort (tree.map ps) s ≡ same_sort t s
    map_alike ps =
        by_sort (λ r. same_sort (tree.map ps) r ≡ true → same_sort (tree.map ps) s ≡ same_sort r s)
        (λ qs e. map_sort ps qs s) (λ m gs e. absurd (cc e)) (λ r o e. absurd (cc (e, o.1 ps))) t

    struct_alike : (n : Text) (fs : Fields) → same_sort (tree.structure n (tree.named fs)) t ≡ true
        → same_sort (tree.structure n (tree.named fs)) s ≡ same_sort t s
    struct_alike n fs =
        by_sort (λ r. same_sort (tree.structure n (tree.named fs)) r ≡ true
        → same_sort (tree.structure n (tree.named fs)) s ≡ same_sort r s)
        (λ qs e. absurd (cc e)) (λ m gs e. struct_sort n m fs gs s e)
        (λ r o e. absurd (cc (e, o.2 n fs))) t

pub sort_turned : (u t : Tree) → same_sort u t ≡ same_sort t u
sort_turned u t =
    by_sort (λ v. same_sort v t ≡ same_sort t v) (λ ps. map_turned ps) (λ n fs. struct_turned n fs)
    (λ v o. o.0 t ∙ sym (other_right t v o)) u
  where
    map_turned : (ps : Pairs) → same_sort (tree.map ps) t ≡ same_sort t (tree.map ps)
    map_turned ps =
        by_sort (λ r. same_sort (tree.map ps) r ≡ same_sort r (tree.map ps)) (λ qs. refl)
        (λ m gs. refl) (λ r o. o.1 ps ∙ sym (o.0 (tree.map ps))) t

    struct_turned : (n : Text) (fs : Fields) → same_sort (tree.structure n (tree.named fs)) t
        ≡ same_sort t (tree.structure n (tree.named fs))
    struct_turned n fs =
        by_sort (λ r. same_sort (tree.structure n (tree.named fs)) r
        ≡ same_sort r (tree.structure n (tree.named fs))) (λ qs. refl)
        (λ m gs. nat_list_eq_equiv.symm n.content m.content)
        (λ r o. o.2 n fs ∙ sym (o.0 (tree.structure n (tree.named fs)))) t

-- other parts leave the sort
pub sort_with : (ps : Pairs) (u t : Tree) → same_sort (with_parts ps u) t ≡ same_sort u t
sort_with ps u t =
    by_sort (λ v. same_sort (with_parts ps v) t ≡ same_sort v t) (λ qs. map_sort ps qs t)
    (λ n fs. struct_sort n n (as_fields ps) fs t (nat_list_eq_equiv.refl n.content))
    (λ v o. ap (λ w. same_sort w t) (o.3 ps)) u

-- parts twice
pub with_twice : (ps qs : Pairs) (t : Tree) → with_parts ps (with_parts qs t) ≡ with_parts ps t
with_twice ps qs t =
    by_sort (λ s. with_parts ps (with_parts qs s) ≡ with_parts ps s) (λ rs. refl) (λ n fs. refl)
    (λ s o. ap (with_parts ps) (o.3 qs)) t

-- its own parts
pub with_own : (t : Tree) → with_parts (parts t) t ≡ t
with_own t =
    by_sort (λ s. with_parts (parts s) s ≡ s) (λ ps. refl)
    (λ n fs. ap (λ gs. tree.structure n (tree.named gs)) (fields_back fs)) (λ s o. o.3 (parts s)) t

-- the parts of what is merged
pub parts_merged : (u t : Tree) → same_sort u t ≡ true
    → parts (with_parts (merged_pairs (parts u) (parts t)) t) ≡ merged_pairs (parts u) (parts t)
parts_merged u t =
    by_sort (λ s. same_sort u s ≡ true
    → parts (with_parts (merged_pairs (parts u) (parts s)) s) ≡ merged_pairs (parts u) (parts s))
    (λ ps e. refl) (λ m gs. struct_merged m gs) (λ s o e. absurd (cc (e, other_right u s o))) t
  where
    struct_merged : (m : Text) (gs : Fields) → same_sort u (tree.structure m (tree.named gs)) ≡ true
        → as_pairs (as_fields (merged_pairs (parts u) (as_pairs gs)))
        ≡ merged_pairs (parts u) (as_pairs gs)
    struct_merged m gs =
        by_sort (λ v. same_sort v (tree.structure m (tree.named gs)) ≡ true
        → as_pairs (as_fields (merged_pairs (parts v) (as_pairs gs)))
        ≡ merged_pairs (parts v) (as_pairs gs)) (λ ps e. absurd (cc e))
        (λ n fs e. merged_back fs gs)
        (λ v o e. absurd (cc (e, o.0 (tree.structure m (tree.named gs))))) u
