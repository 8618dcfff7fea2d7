-- The tape of a tree is read as that tree.
use Rattle.std.proofs.Common.{◌≡◌, ◌≢◌, ℕ, suc, ◌+◌, ◌-◌, ◌<◌, nat_eq, true, false}
use Rattle.std.proofs.Common.{List, [], ◌∷◌, ◌++◌, length, refl, sym, ap, ◌∙◌, arith}
use Rattle.std.proofs.Common.{append_assoc, append-nil, length-append, ⊎_elim, if◌then◌else◌}
use Rattle.std.proofs.lemmas.Bool.Decides.{eqb_tells}
use Rattle.content_tree.specs.Values.Tree as tree
use Rattle.content_tree.specs.Values.Tree.{Tree, TreeData, Trees, no_trees, tree_then, Pairs}
use Rattle.content_tree.specs.Values.Tree.{no_pairs, pair_then, Fields, no_fields, field_then}
use Rattle.content_build.specs.Inner.Cells as cells
use Rattle.content_build.specs.Inner.Cells.{Names, of_struct, of_variant, Cell}
use Rattle.content_build.specs.Inner.Cells.{enclose}
use Rattle.content_build.specs.Inner.Cells.{flat, flat_data, flat_trees, flat_pairs, flat_fields}
use Rattle.content_build.specs.Inner.Cells.{headed, sort_of}
use Rattle.content_build.specs.Inner.Forest.{Grown, grown, no_key, named_tree, trees_near}
use Rattle.content_build.specs.Inner.Forest.{fields_near}
use Rattle.content_build.specs.Inner.Forest.{pairs_near, past, past_fields, data_near, past_data}
use Rattle.content_build.specs.Inner.Forest.{plant_present, plant_key, read}
use Rattle.content_build.proofs.Algebra.{flat-size}

abbrev pub of_trees : Trees → List Grown → List Grown
of_trees no_trees f = f
of_trees (tree_then t ts) f = grown no_key t (length (flat t)) ∷ of_trees ts f

abbrev pub of_pairs : Pairs → List Grown → List Grown
of_pairs no_pairs f = f
of_pairs (pair_then k v ps) f = grown no_key k (length (flat k)) ∷ grown no_key v (length (flat v)) ∷ of_pairs ps f

abbrev pub of_fields : Fields → List Grown → List Grown
of_fields no_fields f = f
of_fields (field_then k t fs) f = grown k t (length (flat t)) ∷ of_fields fs f

pub flat-pos : (t : Tree) → 0 < length (flat t)
flat-pos t = let s = flat-size t in let e : length (flat t) ≡ suc (length s.1) = ap length s.2 in omega (arith, e)

pub nonzero : (m : ℕ) → 0 < m → nat_eq m 0 ≡ false
nonzero m h = ⊎_elim (λ (y : (nat_eq m 0 ≡ true) × (m ≡ 0)). let e = y.1 in absurd (omega arith)) (λ (n : (nat_eq m 0 ≡ false) × (m ≢ 0)). n.0) (eqb_tells m 0)

less : (m a b : ℕ) → m ≡ a + b → m - a ≡ b
less m a b e = omega arith

one_less : (m : ℕ) → suc m - 1 ≡ m
one_less m = omega arith

less_one : (a b : ℕ) → (suc (a + b) - a) - 1 ≡ b
less_one a b = omega arith

module _ (f : List Grown) where
  pub trees-near : (ts : Trees) → trees_near (length (flat_trees ts)) (of_trees ts f) ≡ ts
  trees-near no_trees = start f
    where
      start : (g : List Grown) → trees_near 0 g ≡ no_trees
      start [] = refl
      start (grown k t n ∷ g) = refl
  trees-near (tree_then t ts) =
      let n = length (flat t) in
      let m = length (flat t ++ flat_trees ts) in
      let e : m ≡ n + length (flat_trees ts) = length-append (flat t) (flat_trees ts) in
      let p = flat-pos t in
      ap (λ b. if b then no_trees else tree_then t (trees_near (m - n) (of_trees ts f))) (nonzero m (omega arith))
      ∙ ap (tree_then t) (ap (λ x. trees_near x (of_trees ts f)) (less m n _ e) ∙ trees-near ts)

  pub past-trees : (ts : Trees) → past (length (flat_trees ts)) (of_trees ts f) ≡ f
  past-trees no_trees = start f
    where
      start : (g : List Grown) → past 0 g ≡ g
      start [] = refl
      start (grown k t n ∷ g) = refl
  past-trees (tree_then t ts) =
      let n = length (flat t) in
      let m = length (flat t ++ flat_trees ts) in
      let e : m ≡ n + length (flat_trees ts) = length-append (flat t) (flat_trees ts) in
      let p = flat-pos t in
      ap (λ b. if b then grown no_key t n ∷ of_trees ts f else past (m - n) (of_trees ts f)) (nonzero m (omega arith))
      ∙ (ap (λ x. past x (of_trees ts f)) (less m n _ e) ∙ past-trees ts)

  pub fields-near : (ts : Fields) → fields_near (length (flat_fields ts)) (of_fields ts f) ≡ ts
  fields-near no_fields = start f
    where
      start : (g : List Grown) → fields_near 0 g ≡ no_fields
      start [] = refl
      start (grown k t n ∷ g) = refl
  fields-near (field_then k t ts) =
      let n = length (flat t) in
      let m = suc (length (flat t ++ flat_fields ts)) in
      let e : (m - n) - 1 ≡ length (flat_fields ts) = omega (arith, length-append (flat t) (flat_fields ts)) in
      ap (λ b. if b then no_fields else field_then k t (fields_near ((m - n) - 1) (of_fields ts f))) (nonzero m (omega arith))
      ∙ ap (field_then k t) (ap (λ x. fields_near x (of_fields ts f)) e ∙ fields-near ts)

  pub past-fields : (ts : Fields) → past_fields (length (flat_fields ts)) (of_fields ts f) ≡ f
  past-fields no_fields = start f
    where
      start : (g : List Grown) → past_fields 0 g ≡ g
      start [] = refl
      start (grown k t n ∷ g) = refl
  past-fields (field_then k t ts) =
      let n = length (flat t) in
      let m = suc (length (flat t ++ flat_fields ts)) in
      let e : (m - n) - 1 ≡ length (flat_fields ts) = omega (arith, length-append (flat t) (flat_fields ts)) in
      ap (λ b. if b then grown k t n ∷ of_fields ts f else past_fields ((m - n) - 1) (of_fields ts f)) (nonzero m (omega arith))
      ∙ (ap (λ x. past_fields x (of_fields ts f)) e ∙ past-fields ts)

  pub pairs-near : (ps : Pairs) → pairs_near (length (flat_pairs ps)) (of_pairs ps f) ≡ ps
  pairs-near no_pairs = start f
    where
      start : (g : List Grown) → pairs_near 0 g ≡ no_pairs
      start [] = refl
      start (g ∷ []) = refl
      start (grown k t n ∷ grown l u o ∷ g) = refl
  pairs-near (pair_then k v ps) =
      let a = length (flat k) in
      let b = length (flat v) in
      let m = length (flat k ++ (flat v ++ flat_pairs ps)) in
      let r = length (flat v ++ flat_pairs ps) in
      let e : m ≡ a + r = length-append (flat k) (flat v ++ flat_pairs ps) in
      let g : r ≡ b + length (flat_pairs ps) = length-append (flat v) (flat_pairs ps) in
      let p = flat-pos k in
      let q = flat-pos v in
      ap (λ x. if x then no_pairs else (if nat_eq (m - a) 0 then no_pairs else pair_then k v (pairs_near ((m - a) - b) (of_pairs ps f)))) (nonzero m (omega arith))
      ∙ (ap (λ x. if nat_eq x 0 then no_pairs else pair_then k v (pairs_near (x - b) (of_pairs ps f))) (less m a r e)
      ∙ (ap (λ x. if x then no_pairs else pair_then k v (pairs_near (r - b) (of_pairs ps f))) (nonzero r (omega arith))
      ∙ ap (pair_then k v) (ap (λ x. pairs_near x (of_pairs ps f)) (less r b _ g) ∙ pairs-near ps)))

  pub past-pairs : (ps : Pairs) → past (length (flat_pairs ps)) (of_pairs ps f) ≡ f
  past-pairs no_pairs = start f
    where
      start : (g : List Grown) → past 0 g ≡ g
      start [] = refl
      start (grown k t n ∷ g) = refl
  past-pairs (pair_then k v ps) =
      let a = length (flat k) in
      let b = length (flat v) in
      let m = length (flat k ++ (flat v ++ flat_pairs ps)) in
      let r = length (flat v ++ flat_pairs ps) in
      let e : m ≡ a + r = length-append (flat k) (flat v ++ flat_pairs ps) in
      let g : r ≡ b + length (flat_pairs ps) = length-append (flat v) (flat_pairs ps) in
      let p = flat-pos k in
      let q = flat-pos v in
      ap (λ x. if x then grown no_key k a ∷ grown no_key v b ∷ of_pairs ps f else past (m - a) (grown no_key v b ∷ of_pairs ps f)) (nonzero m (omega arith))
      ∙ (ap (λ x. past x (grown no_key v b ∷ of_pairs ps f)) (less m a r e)
      ∙ (ap (λ x. if x then grown no_key v b ∷ of_pairs ps f else past (r - b) (of_pairs ps f)) (nonzero r (omega arith))
      ∙ (ap (λ x. past x (of_pairs ps f)) (less r b _ g) ∙ past-pairs ps)))

-- what is inside a head is read as what it holds
abbrev pub ReadsData : Names → TreeData → List Cell → List Grown → Type 0
ReadsData names d cs f =
    read (enclose (headed (sort_of d) names) (flat_data d) ++ cs) f ≡ grown no_key (named_tree names d) (suc (length (flat_data d))) ∷ read cs f

mutual
  pub read-flat : (t : Tree) (cs : List Cell) (f : List Grown) → read (flat t ++ cs) f ≡ grown no_key t (length (flat t)) ∷ read cs f
  read-flat tree.unit cs f = refl
  read-flat (tree.boolean b) cs f = refl
  read-flat (tree.number n) cs f = refl
  read-flat (tree.character c) cs f = refl
  read-flat (tree.text t) cs f = refl
  read-flat (tree.octets t) cs f = refl
  read-flat tree.absent cs f = refl
  read-flat (tree.present t) cs f = ap (plant_present (suc (length (flat t)))) (read-flat t cs f)
  read-flat (tree.seq ts) cs f =
      let n = length (flat_trees ts) in
      let g = read cs f in
      ap (λ x. grown no_key (tree.seq (trees_near (suc n - 1) x)) (suc n) ∷ past (suc n - 1) x) (read-trees ts cs f)
      ∙ (ap (λ x. grown no_key (tree.seq (trees_near x (of_trees ts g))) (suc n) ∷ past x (of_trees ts g)) (one_less n)
      ∙ (ap (λ x. grown no_key (tree.seq x) (suc n) ∷ past n (of_trees ts g)) (trees-near g ts) ∙ ap (λ x. grown no_key (tree.seq ts) (suc n) ∷ x) (past-trees g ts)))
  read-flat (tree.tuple ts) cs f =
      let n = length (flat_trees ts) in
      let g = read cs f in
      ap (λ x. grown no_key (tree.tuple (trees_near (suc n - 1) x)) (suc n) ∷ past (suc n - 1) x) (read-trees ts cs f)
      ∙ (ap (λ x. grown no_key (tree.tuple (trees_near x (of_trees ts g))) (suc n) ∷ past x (of_trees ts g)) (one_less n)
      ∙ (ap (λ x. grown no_key (tree.tuple x) (suc n) ∷ past n (of_trees ts g)) (trees-near g ts) ∙ ap (λ x. grown no_key (tree.tuple ts) (suc n) ∷ x) (past-trees g ts)))
  read-flat (tree.map ps) cs f =
      let n = length (flat_pairs ps) in
      let g = read cs f in
      ap (λ x. grown no_key (tree.map (pairs_near (suc n - 1) x)) (suc n) ∷ past (suc n - 1) x) (read-pairs ps cs f)
      ∙ (ap (λ x. grown no_key (tree.map (pairs_near x (of_pairs ps g))) (suc n) ∷ past x (of_pairs ps g)) (one_less n)
      ∙ (ap (λ x. grown no_key (tree.map x) (suc n) ∷ past n (of_pairs ps g)) (pairs-near g ps) ∙ ap (λ x. grown no_key (tree.map ps) (suc n) ∷ x) (past-pairs g ps)))
  read-flat (tree.structure name d) cs f = read-data (of_struct name) d cs f
  read-flat (tree.enumeration name i variant d) cs f = read-data (of_variant name i variant) d cs f

  pub read-data : (names : Names) (d : TreeData) (cs : List Cell) (f : List Grown) → ReadsData names d cs f
  read-data names tree.no_data cs f = refl
  read-data names (tree.one t) cs f =
      ap (λ x. grown no_key (named_tree names (data_near cells.one (suc (length (flat t)) - 1) x)) (suc (length (flat t))) ∷ past_data cells.one (suc (length (flat t)) - 1) x) (read-flat t cs f)
  read-data names (tree.many ts) cs f =
      let n = length (flat_trees ts) in
      let g = read cs f in
      ap (λ x. grown no_key (named_tree names (tree.many (trees_near (suc n - 1) x))) (suc n) ∷ past (suc n - 1) x) (read-trees ts cs f)
      ∙ (ap (λ x. grown no_key (named_tree names (tree.many (trees_near x (of_trees ts g)))) (suc n) ∷ past x (of_trees ts g)) (one_less n)
      ∙ (ap (λ x. grown no_key (named_tree names (tree.many x)) (suc n) ∷ past n (of_trees ts g)) (trees-near g ts) ∙ ap (λ x. grown no_key (named_tree names (tree.many ts)) (suc n) ∷ x) (past-trees g ts)))
  read-data names (tree.named fs) cs f =
      let n = length (flat_fields fs) in
      let g = read cs f in
      ap (λ x. grown no_key (named_tree names (tree.named (fields_near (suc n - 1) x))) (suc n) ∷ past_fields (suc n - 1) x) (read-fields fs cs f)
      ∙ (ap (λ x. grown no_key (named_tree names (tree.named (fields_near x (of_fields fs g)))) (suc n) ∷ past_fields x (of_fields fs g)) (one_less n)
      ∙ (ap (λ x. grown no_key (named_tree names (tree.named x)) (suc n) ∷ past_fields n (of_fields fs g)) (fields-near g fs) ∙ ap (λ x. grown no_key (named_tree names (tree.named fs)) (suc n) ∷ x) (past-fields g fs)))

  pub read-trees : (ts : Trees) (cs : List Cell) (f : List Grown) → read (flat_trees ts ++ cs) f ≡ of_trees ts (read cs f)
  read-trees no_trees cs f = refl
  read-trees (tree_then t ts) cs f = ap (λ l. read l f) (append_assoc (flat t) (flat_trees ts) cs) ∙ (read-flat t (flat_trees ts ++ cs) f ∙ ap (λ l. grown no_key t (length (flat t)) ∷ l) (read-trees ts cs f))

  pub read-pairs : (ps : Pairs) (cs : List Cell) (f : List Grown) → read (flat_pairs ps ++ cs) f ≡ of_pairs ps (read cs f)
  read-pairs no_pairs cs f = refl
  read-pairs (pair_then k v ps) cs f =
      ap (λ l. read l f) (append_assoc (flat k) (flat v ++ flat_pairs ps) cs)
      ∙ (read-flat k ((flat v ++ flat_pairs ps) ++ cs) f
      ∙ ap (λ l. grown no_key k (length (flat k)) ∷ l)
      (ap (λ l. read l f) (append_assoc (flat v) (flat_pairs ps) cs) ∙ (read-flat v (flat_pairs ps ++ cs) f ∙ ap (λ l. grown no_key v (length (flat v)) ∷ l) (read-pairs ps cs f))))

  pub read-fields : (fs : Fields) (cs : List Cell) (f : List Grown) → read (flat_fields fs ++ cs) f ≡ of_fields fs (read cs f)
  read-fields no_fields cs f = refl
  read-fields (field_then k t fs) cs f =
      ap (λ l. plant_key k (read l f)) (append_assoc (flat t) (flat_fields fs) cs)
      ∙ (ap (plant_key k) (read-flat t (flat_fields fs ++ cs) f) ∙ ap (λ l. grown k t (length (flat t)) ∷ l) (read-fields fs cs f))

-- the whole tape of a tree
pub read-whole : (t : Tree) → read (flat t) [] ≡ grown no_key t (length (flat t)) ∷ []
read-whole t = ap (λ l. read l []) (sym (append-nil (flat t))) ∙ read-flat t [] []
