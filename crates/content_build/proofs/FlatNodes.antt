-- Leaves alone, and what they are read as.
use Rattle.std.proofs.Common.{◌≡◌, ℕ, suc, ◌+◌, ◌-◌, ◌<◌, ◌≤◌, List, [], ◌∷◌, length, take, drop, get_or}
use Rattle.std.proofs.Common.{refl, sym, ap, subst, ◌∙◌, arith}
use Rattle.std.proofs.Common.{Option, Some, MatchOption}
use Rattle.std.proofs.Math.ListN.{set}
use Rattle.std.proofs.Math.Seq.{drop-cons}
use Rattle.std.proofs.lemmas.List.{drop-drop, drop_all, length-drop, drop-set-lt, get_or-drop, take-set-le}
use Rattle.std.proofs.lemmas.List.{take-take, take-append-drop}
use Rattle.content_tree.specs.Values.Text.{Text}
use Rattle.content_tree.specs.Values.Tree as tree
use Rattle.content_tree.specs.Values.Tree.{Tree, TreeData, Trees, tree_then, Fields, no_fields, field_then, Pairs, no_pairs, pair_then}
use Rattle.content_ser.specs.Calls.Head as calls
use Rattle.content_ser.specs.Calls.Head.{Head, headed as with_names}
use Rattle.content_build.specs.Partial.{push_tree, push_pair, push_field}
use Rattle.content_build.specs.Inner.Cells as cells
use Rattle.content_build.specs.Inner.Cells.{Cell, cell, leaf, present, seq, tuple, map, headed, key, names_of, enclose}
use Rattle.content_build.specs.Inner.Decoding.{all_trees, all_fields, all_pairs}
use Rattle.content_build.specs.Inner.Forest.{Grown, grown, no_key, leaf_tree, named_tree, read}
use Rattle.content_build.specs.Inner.Forest.{trees_near, fields_near, pairs_near, past, past_fields}
use Rattle.content_build.specs.Inner.Forest.{data_near, past_data}
use Rattle.content_build.specs.Inner.Frames.{cells_of, frame_view, label_view}
use Rattle.content_build.specs.Inner.Leaves.{tree_at, key_of, IsLeaf, IsKey, AreLeaves, AreFields}
use Rattle.content_build.specs.Inner.Leaves.{HoldsAs, ReadsAs}
use Rattle.content_build.specs.declared.frame.Frame.{Frame}
use Rattle.content_build.proofs.Forward.{append_trees, append_fields, append_pairs}
use Rattle.content_build.proofs.Forward.{append_trees-push, append_fields-push, append_pairs-push}
use Rattle.content_build.proofs.Growing.{read-append, near-zero, near-step, past-zero, past-step, fields-zero}
use Rattle.content_build.proofs.Growing.{near-step_field, past_fields-zero, past_fields-step}
use Rattle.content_build.proofs.Growing.{pairs-zero, pairs-odd, pairs-two}
use Rattle.content_build.proofs.Memory.{length-cells, cells-get, cells-drop, cells-take}

less : (m : ℕ) → suc m - 1 ≡ m
less m = omega arith

leaf-is : (c : Cell) → IsLeaf c → (l : cells.Leaf) × (c ≡ cell (leaf l) 1)
leaf-is (cell (leaf l) n) h = (l, ap (cell (leaf l)) h)
leaf-is (cell present n) h = absurd h
leaf-is (cell seq n) h = absurd h
leaf-is (cell tuple n) h = absurd h
leaf-is (cell map n) h = absurd h
leaf-is (cell (headed s names) n) h = absurd h
leaf-is (cell (key k) n) h = absurd h

key-is : (c : Cell) → IsKey c → (k : Text) × (n : ℕ) × (c ≡ cell (key k) n)
key-is (cell (leaf l) n) h = absurd h
key-is (cell present n) h = absurd h
key-is (cell seq n) h = absurd h
key-is (cell tuple n) h = absurd h
key-is (cell map n) h = absurd h
key-is (cell (headed s names) n) h = absurd h
key-is (cell (key k) n) h = (k, n, refl)

-- the first of the leaves
first-tree : (c : Cell) (cs : List Cell) → IsLeaf c → all_trees (read (c ∷ cs) []) ≡ tree_then (tree_at c) (all_trees (read cs []))
first-tree c cs h = let (l, e) = leaf-is c h in subst (λ x. all_trees (read (x ∷ cs) []) ≡ tree_then (tree_at x) (all_trees (read cs []))) (sym e) refl

first-pair : (c d : Cell) (cs : List Cell) → IsLeaf c → IsLeaf d → all_pairs (read (c ∷ d ∷ cs) []) ≡ pair_then (tree_at c) (tree_at d) (all_pairs (read cs []))
first-pair c d cs h g =
    let (l, e) = leaf-is c h in
    let (m, f) = leaf-is d g in
    subst (λ x. all_pairs (read (x ∷ d ∷ cs) []) ≡ pair_then (tree_at x) (tree_at d) (all_pairs (read cs []))) (sym e)
    (subst (λ x. all_pairs (read (cell (leaf l) 1 ∷ x ∷ cs) []) ≡ pair_then (leaf_tree l) (tree_at x) (all_pairs (read cs []))) (sym f) refl)

first-field : (c d : Cell) (cs : List Cell) → IsKey c → IsLeaf d → all_fields (read (c ∷ d ∷ cs) []) ≡ field_then (key_of c) (tree_at d) (all_fields (read cs []))
first-field c d cs h g =
    let (k, n, e) = key-is c h in
    let (m, f) = leaf-is d g in
    subst (λ x. all_fields (read (x ∷ d ∷ cs) []) ≡ field_then (key_of x) (tree_at d) (all_fields (read cs []))) (sym e)
    (subst (λ x. all_fields (read (cell (key k) n ∷ x ∷ cs) []) ≡ field_then k (tree_at x) (all_fields (read cs []))) (sym f) refl)

module _ (f : List Grown) where
  pub leaves-near : (cs : List Cell) → AreLeaves cs → trees_near (length cs) (read cs f) ≡ all_trees (read cs [])
  leaves-near [] h = near-zero f
  leaves-near (c ∷ cs) h =
      let (l, e) = leaf-is c h.0 in
      subst (λ x. trees_near (suc (length cs)) (read (x ∷ cs) f) ≡ all_trees (read (x ∷ cs) [])) (sym e)
      (near-step (suc (length cs)) no_key (leaf_tree l) 1 (read cs f) (omega arith)
      ∙ ap (tree_then (leaf_tree l)) (ap (λ m. trees_near m (read cs f)) (less (length cs)) ∙ leaves-near cs h.1))

  pub leaves-past : (cs : List Cell) → AreLeaves cs → past (length cs) (read cs f) ≡ f
  leaves-past [] h = past-zero f
  leaves-past (c ∷ cs) h =
      let (l, e) = leaf-is c h.0 in
      subst (λ x. past (suc (length cs)) (read (x ∷ cs) f) ≡ f) (sym e)
      (past-step (suc (length cs)) no_key (leaf_tree l) 1 (read cs f) (omega arith) ∙ (ap (λ m. past m (read cs f)) (less (length cs)) ∙ leaves-past cs h.1))

  pub leaves-pairs : (cs : List Cell) → AreLeaves cs → pairs_near (length cs) (read cs f) ≡ all_pairs (read cs [])
  leaves-pairs [] h = pairs-zero f
  leaves-pairs (c ∷ []) h =
      let (l, e) = leaf-is c h.0 in
      subst (λ x. pairs_near 1 (read (x ∷ []) f) ≡ all_pairs (read (x ∷ []) [])) (sym e) (pairs-odd 1 no_key (leaf_tree l) 1 f (omega arith) (omega arith))
  leaves-pairs (c ∷ d ∷ cs) h =
      let (l, e) = leaf-is c h.0 in
      let (m, g) = leaf-is d h.1.0 in
      let n = length cs in
      let two : (suc (suc n) - 1) - 1 ≡ n = omega arith in
      subst (λ x. pairs_near (suc (suc n)) (read (x ∷ d ∷ cs) f) ≡ all_pairs (read (x ∷ d ∷ cs) [])) (sym e)
      (subst (λ x. pairs_near (suc (suc n)) (read (cell (leaf l) 1 ∷ x ∷ cs) f) ≡ all_pairs (read (cell (leaf l) 1 ∷ x ∷ cs) [])) (sym g)
      (pairs-two (suc (suc n)) no_key (leaf_tree l) 1 no_key (leaf_tree m) 1 (read cs f) (omega arith) (omega arith)
      ∙ ap (pair_then (leaf_tree l) (leaf_tree m)) (ap (λ i. pairs_near i (read cs f)) two ∙ leaves-pairs cs h.1.1)))

  pub fields-near : (cs : List Cell) → AreFields cs → fields_near (length cs) (read cs f) ≡ all_fields (read cs [])
  fields-near [] h = fields-zero f
  fields-near (c ∷ []) h = absurd h
  fields-near (c ∷ d ∷ cs) h =
      let (k, s, e) = key-is c h.0 in
      let (m, g) = leaf-is d h.1.0 in
      let n = length cs in
      let two : (suc (suc n) - 1) - 1 ≡ n = omega arith in
      subst (λ x. fields_near (suc (suc n)) (read (x ∷ d ∷ cs) f) ≡ all_fields (read (x ∷ d ∷ cs) [])) (sym e)
      (subst (λ x. fields_near (suc (suc n)) (read (cell (key k) s ∷ x ∷ cs) f) ≡ all_fields (read (cell (key k) s ∷ x ∷ cs) [])) (sym g)
      (near-step_field (suc (suc n)) k (leaf_tree m) 1 (read cs f) (omega arith)
      ∙ ap (field_then k (leaf_tree m)) (ap (λ i. fields_near i (read cs f)) two ∙ fields-near cs h.1.1)))

  pub fields-past : (cs : List Cell) → AreFields cs → past_fields (length cs) (read cs f) ≡ f
  fields-past [] h = past_fields-zero f
  fields-past (c ∷ []) h = absurd h
  fields-past (c ∷ d ∷ cs) h =
      let (k, s, e) = key-is c h.0 in
      let (m, g) = leaf-is d h.1.0 in
      let n = length cs in
      let two : (suc (suc n) - 1) - 1 ≡ n = omega arith in
      subst (λ x. past_fields (suc (suc n)) (read (x ∷ d ∷ cs) f) ≡ f) (sym e)
      (subst (λ x. past_fields (suc (suc n)) (read (cell (key k) s ∷ x ∷ cs) f) ≡ f) (sym g)
      (past_fields-step (suc (suc n)) k (leaf_tree m) 1 (read cs f) (omega arith) ∙ (ap (λ i. past_fields i (read cs f)) two ∙ fields-past cs h.1.1)))

-- the cells from a place on begin with that of the frame there
pub cells-from : (es : List Frame) (n m : ℕ) (x : Frame) → n < length es → m ≡ n + 1 → x ≡ get_or es n x → drop n (cells_of es) ≡ frame_view x ∷ drop m (cells_of es)
cells-from es n m x h s e =
    let k : length (cells_of es) ≡ length es = length-cells es in
    let t : suc n ≡ m = omega arith in
    drop-cons (cells_of es) n (frame_view x) (omega arith)
    ∙ (ap (λ c. c ∷ drop (suc n) (cells_of es)) (sym (cells-get es n x) ∙ ap frame_view (sym e)) ∙ ap (λ i. frame_view x ∷ drop i (cells_of es)) t)

-- and go on with that of the next
cells-from_two : (es : List Frame) (n m o : ℕ) (x y : Frame) → m < length es → m ≡ n + 1 → o ≡ m + 1 → x ≡ get_or es n x → y ≡ get_or es m y
    → drop n (cells_of es) ≡ frame_view x ∷ frame_view y ∷ drop o (cells_of es)
cells-from_two es n m o x y h s t e f = cells-from es n m x (omega arith) s e ∙ ap (λ l. frame_view x ∷ l) (cells-from es m o y h t f)

-- a leaf more in front
pub leaf-before : (es : List Frame) (n m : ℕ) (x : Frame) → n < length es → m ≡ n + 1 → x ≡ get_or es n x → IsLeaf (frame_view x) → AreLeaves (drop m (cells_of es)) → AreLeaves (drop n (cells_of es))
leaf-before es n m x h s e is rest = subst AreLeaves (sym (cells-from es n m x h s e)) (is, rest)

-- a key and a leaf more in front
pub field-before : (es : List Frame) (n m o : ℕ) (x y : Frame) → m < length es → m ≡ n + 1 → o ≡ m + 1 → x ≡ get_or es n x → y ≡ get_or es m y → IsKey (frame_view x) → IsLeaf (frame_view y)
    → AreFields (drop o (cells_of es)) → AreFields (drop n (cells_of es))
field-before es n m o x y h s t e f a b rest = subst AreFields (sym (cells-from_two es n m o x y h s t e f)) (a, (b, rest))

-- what is the same from a place on is the same there
pub same_at : {X : Type 0} (n : ℕ) (xs ys : List X) (d : X) → drop n xs ≡ drop n ys → get_or xs n d ≡ get_or ys n d
same_at n xs ys d e =
    let z : n + 0 ≡ n = omega arith in
    ap (λ i. get_or xs i d) (sym z) ∙ (sym (get_or-drop n xs 0 d) ∙ (ap (λ l. get_or l 0 d) e ∙ (get_or-drop n ys 0 d ∙ ap (λ i. get_or ys i d) z)))

-- and after it
pub same_after : {X : Type 0} (n m : ℕ) (xs ys : List X) → m ≡ n + 1 → drop n xs ≡ drop n ys → drop m xs ≡ drop m ys
same_after n m xs ys s e = ap (λ i. drop i xs) s ∙ (sym (drop-drop 1 n xs) ∙ (ap (drop 1) e ∙ (drop-drop 1 n ys ∙ ap (λ i. drop i ys) (sym s))))

-- another in place of the first that is unread
pub one_read : {X : Type 0} (from n m : ℕ) (xs ys now : List X) (y : X) → from ≤ n → m ≡ n + 1 → now ≡ set xs n y → take from xs ≡ take from ys → drop n xs ≡ drop n ys
    → (take from now ≡ take from ys) × (drop m now ≡ drop m ys)
one_read from n m xs ys now y l s e kept rest = (
  ap (take from) e ∙ (take-set-le from xs n y l ∙ kept),
  ap (drop m) e ∙ (drop-set-lt m xs n y (omega arith) ∙ same_after n m xs ys s rest),
)

-- nothing is left at the end
pub none_left : (es : List Frame) (n : ℕ) → length es ≤ n → drop n (cells_of es) ≡ []
none_left es n h = sym (cells-drop n es) ∙ ap cells_of (drop_all n es h)

-- one item more is added, and one less is left
pub item-added : (es : List Frame) (n m : ℕ) (x : Frame) (done more : Trees) → n < length es → m ≡ n + 1 → x ≡ get_or es n x → AreLeaves (drop n (cells_of es)) → more ≡ push_tree done (tree_at (frame_view x))
    → AreLeaves (drop m (cells_of es)) × (append_trees more (all_trees (read (drop m (cells_of es)) [])) ≡ append_trees done (all_trees (read (drop n (cells_of es)) [])))
item-added es n m x done more h s e all p =
    let cs = drop m (cells_of es) in
    let from = cells-from es n m x h s e in
    let a = subst AreLeaves from all in (
      a.1,
      ap (λ d. append_trees d (all_trees (read cs []))) p
          ∙ (append_trees-push done (tree_at (frame_view x)) (all_trees (read cs []))
          ∙ ap (append_trees done) (sym (first-tree (frame_view x) cs a.0) ∙ ap (λ l. all_trees (read l [])) (sym from))),
    )

-- one field more is added, and one less is left
pub field-added : (es : List Frame) (n m o : ℕ) (x y : Frame) (done more : Fields) → m < length es → m ≡ n + 1 → o ≡ m + 1 → x ≡ get_or es n x → y ≡ get_or es m y → AreFields (drop n (cells_of es))
    → more ≡ push_field done (key_of (frame_view x)) (tree_at (frame_view y))
    → AreFields (drop o (cells_of es)) × (append_fields more (all_fields (read (drop o (cells_of es)) [])) ≡ append_fields done (all_fields (read (drop n (cells_of es)) [])))
field-added es n m o x y done more h s t e f all p =
    let cs = drop o (cells_of es) in
    let from = cells-from_two es n m o x y h s t e f in
    let a = subst AreFields from all in (
      a.1.1,
      ap (λ d. append_fields d (all_fields (read cs []))) p
          ∙ (append_fields-push done (key_of (frame_view x)) (tree_at (frame_view y)) (all_fields (read cs []))
          ∙ ap (append_fields done) (sym (first-field (frame_view x) (frame_view y) cs a.0 a.1.0) ∙ ap (λ l. all_fields (read l [])) (sym from))),
    )

-- one pair more is added, and one less is left
pub pair-added : (es : List Frame) (n m o : ℕ) (x y : Frame) (done more : Pairs) → m < length es → m ≡ n + 1 → o ≡ m + 1 → x ≡ get_or es n x → y ≡ get_or es m y → AreLeaves (drop n (cells_of es))
    → more ≡ push_pair done (tree_at (frame_view x)) (tree_at (frame_view y))
    → AreLeaves (drop o (cells_of es)) × (append_pairs more (all_pairs (read (drop o (cells_of es)) [])) ≡ append_pairs done (all_pairs (read (drop n (cells_of es)) [])))
pair-added es n m o x y done more h s t e f all p =
    let cs = drop o (cells_of es) in
    let from = cells-from_two es n m o x y h s t e f in
    let a = subst AreLeaves from all in (
      a.1.1,
      ap (λ d. append_pairs d (all_pairs (read cs []))) p
          ∙ (append_pairs-push done (tree_at (frame_view x)) (tree_at (frame_view y)) (all_pairs (read cs []))
          ∙ ap (append_pairs done) (sym (first-pair (frame_view x) (frame_view y) cs a.0 a.1.0) ∙ ap (λ l. all_pairs (read l [])) (sym from))),
    )

-- no field is left at the end
pub no_field : (cs : List Cell) → AreFields cs → length cs ≤ 1 → all_fields (read cs []) ≡ no_fields
no_field [] h l = refl
no_field (c ∷ []) h l = absurd h
no_field (c ∷ d ∷ cs) h l = absurd (omega arith)

-- no pair is left at the end
pub no_pair : (cs : List Cell) → AreLeaves cs → length cs ≤ 1 → all_pairs (read cs []) ≡ no_pairs
no_pair [] h l = refl
no_pair (c ∷ []) h l = let (k, e) = leaf-is c h.0 in subst (λ x. all_pairs (read (x ∷ []) []) ≡ no_pairs) (sym e) refl
no_pair (c ∷ d ∷ cs) h l = absurd (omega arith)

-- how many cells are left
pub length-left : (es : List Frame) (n : ℕ) → length (drop n (cells_of es)) ≡ length es - n
length-left es n = length-drop n (cells_of es) ∙ ap (λ k. k - n) (length-cells es)

-- a sequence, a tuple, a map of leaves
pub seq-reads : (cs : List Cell) (t : Tree) → AreLeaves cs → t ≡ tree.seq (all_trees (read cs [])) → ReadsAs seq cs t
seq-reads cs t h e f =
    let n = length cs in
    ap (λ m. grown no_key (tree.seq (trees_near m (read cs f))) (suc n) ∷ past m (read cs f)) (less n)
    ∙ (ap (λ ts. grown no_key (tree.seq ts) (suc n) ∷ past n (read cs f)) (leaves-near f cs h)
    ∙ (ap (λ l. grown no_key (tree.seq (all_trees (read cs []))) (suc n) ∷ l) (leaves-past f cs h) ∙ ap (λ u. grown no_key u (suc n) ∷ f) (sym e)))

pub tuple-reads : (cs : List Cell) (t : Tree) → AreLeaves cs → t ≡ tree.tuple (all_trees (read cs [])) → ReadsAs tuple cs t
tuple-reads cs t h e f =
    let n = length cs in
    ap (λ m. grown no_key (tree.tuple (trees_near m (read cs f))) (suc n) ∷ past m (read cs f)) (less n)
    ∙ (ap (λ ts. grown no_key (tree.tuple ts) (suc n) ∷ past n (read cs f)) (leaves-near f cs h)
    ∙ (ap (λ l. grown no_key (tree.tuple (all_trees (read cs []))) (suc n) ∷ l) (leaves-past f cs h) ∙ ap (λ u. grown no_key u (suc n) ∷ f) (sym e)))

pub map-reads : (cs : List Cell) (t : Tree) → AreLeaves cs → t ≡ tree.map (all_pairs (read cs [])) → ReadsAs map cs t
map-reads cs t h e f =
    let n = length cs in
    ap (λ m. grown no_key (tree.map (pairs_near m (read cs f))) (suc n) ∷ past m (read cs f)) (less n)
    ∙ (ap (λ ts. grown no_key (tree.map ts) (suc n) ∷ past n (read cs f)) (leaves-pairs f cs h)
    ∙ (ap (λ l. grown no_key (tree.map (all_pairs (read cs []))) (suc n) ∷ l) (leaves-past f cs h) ∙ ap (λ u. grown no_key u (suc n) ∷ f) (sym e)))

-- the tree under the names of a head
named-is : (h : Head) (d : TreeData) → named_tree (names_of h) d ≡ with_names h d
named-is (calls.of_struct n) d = refl
named-is (calls.of_variant n i v) d = refl

-- a struct or a variant of leaves
pub many-holds : (cs : List Cell) (d : TreeData) → AreLeaves cs → d ≡ tree.many (all_trees (read cs [])) → HoldsAs cells.many cs d
many-holds cs d h e f = (ap tree.many (leaves-near f cs h) ∙ sym e, leaves-past f cs h)

pub fields-hold : (cs : List Cell) (d : TreeData) → AreFields cs → d ≡ tree.named (all_fields (read cs [])) → HoldsAs cells.fields cs d
fields-hold cs d h e f = (ap tree.named (fields-near f cs h) ∙ sym e, fields-past f cs h)

pub headed-reads : (s : cells.Sort) (h : Head) (cs : List Cell) (d : TreeData) (t : Tree) → HoldsAs s cs d → t ≡ with_names h d → ReadsAs (headed s (names_of h)) cs t
headed-reads s h cs d t holds e f =
    let n = length cs in
    let a = holds f in
    ap (λ m. grown no_key (named_tree (names_of h) (data_near s m (read cs f))) (suc n) ∷ past_data s m (read cs f)) (less n)
    ∙ (ap (λ x. grown no_key (named_tree (names_of h) x) (suc n) ∷ past_data s n (read cs f)) a.0
    ∙ (ap (λ l. grown no_key (named_tree (names_of h) d) (suc n) ∷ l) a.1 ∙ ap (λ u. grown no_key u (suc n) ∷ f) (named-is h d ∙ sym e)))

-- the node at a place, with all that come after it inside
pub last-node : (es : List Frame) (n : ℕ) (x : Frame) → n < length es → x ≡ get_or es n x → x.size ≡ length es - n → drop n (cells_of es) ≡ enclose (label_view x.label) (drop (n + 1) (cells_of es))
last-node es n x h e is =
    let left = length-left es (n + 1) in
    let size : x.size ≡ suc (length (drop (n + 1) (cells_of es))) = omega arith in
    cells-from es n (n + 1) x h refl e ∙ ap (λ i. cell (label_view x.label) i ∷ drop (n + 1) (cells_of es)) size

-- it is read, and its frames go
pub node-grown : (es now less : List Frame) (n k : ℕ) (l : cells.Label) (t : Tree) (f more : List Grown) → n < length es → take (n + 1) now ≡ take (n + 1) es → less ≡ take n now
    → drop n (cells_of es) ≡ enclose l (drop (n + 1) (cells_of es)) → ReadsAs l (drop (n + 1) (cells_of es)) t → k ≡ length es - n → more ≡ grown no_key t k ∷ f
    → (less ≡ take n es) × (read (cells_of less) more ≡ read (cells_of es) f)
node-grown es now less n k l t f more h same cut last reads size m =
    let left = length-left es (n + 1) in
    let is : suc (length (drop (n + 1) (cells_of es))) ≡ k = omega arith in
    let first = cut ∙ (sym (take-take n (n + 1) now (omega arith)) ∙ (ap (take n) same ∙ take-take n (n + 1) es (omega arith))) in
    let node = ap (λ cs. read cs f) last ∙ (reads f ∙ ap (λ i. grown no_key t i ∷ f) is) in (
      first,
      ap (λ es. read (cells_of es) more) first
          ∙ (ap (λ cs. read cs more) (cells-take n es)
          ∙ (ap (read (take n (cells_of es))) (m ∙ sym node) ∙ (sym (read-append (take n (cells_of es)) (drop n (cells_of es)) f) ∙ ap (λ cs. read cs f) (take-append-drop n (cells_of es))))),
    )

-- of a value that is there
pub at_some : {X : Type 0} (A : Type 0) (P : X → Type 0) (o : Option X) (x : X) → o ≡ Some x → MatchOption o A P → P x
at_some A P o x e h = subst (λ p. MatchOption p A P) e h
