-- What a finished tree at the end of the tape does to it.
use Rattle.std.proofs.Common.{◌≡◌, ℕ, suc, ◌+◌, ◌-◌, ◌<◌, ◌≤◌, List, [], ◌∷◌, ◌++◌}
use Rattle.std.proofs.Common.{length, take, drop, get_or, refl, sym, ap, subst, ◌∙◌, arith}
use Rattle.std.proofs.Common.{append_assoc, append-nil, length-append}
use Rattle.std.proofs.Math.Seq.{take-append_seam, take-append-add, drop-append_seam}
use Rattle.std.proofs.Math.Seq.{drop-append-add, get_or-append_seam}
use Rattle.content_tree.specs.Values.Text.{Text, static_name}
use Rattle.content_tree.specs.Values.Tree as tree
use Rattle.content_tree.specs.Values.Tree.{Tree, Trees, no_trees, tree_then, Pairs}
use Rattle.content_tree.specs.Values.Tree.{no_pairs, pair_then, Fields, no_fields, field_then}
use Rattle.content_ser.specs.Calls.Head as calls
use Rattle.content_ser.specs.Calls.Head.{Head}
use Rattle.content_ser.specs.Grammar.Token as token
use Rattle.content_ser.specs.Grammar.Token.{Wrap, wrapped, Series, series_tree, record_tree, ItemCall}
use Rattle.content_build.specs.Partial as partial
use Rattle.content_build.specs.Partial.{Partial, Slot, Compound, fill, push_tree, push_pair}
use Rattle.content_build.specs.Partial.{push_field, set_last, closed}
use Rattle.content_build.specs.Inner.Cells.{Label, leaf, unit, map, key, Cell, cell, cell_size}
use Rattle.content_build.specs.Inner.Cells.{enclose}
use Rattle.content_build.specs.Inner.Cells.{flat, flat_trees, flat_pairs, flat_fields, Wait, child}
use Rattle.content_build.specs.Inner.Cells.{item, a_key, a_value, entry_key, entry_value, field}
use Rattle.content_build.specs.Inner.Cells.{in_series, in_map, in_record, Open, opened, wrap_label}
use Rattle.content_build.specs.Inner.Cells.{series_label, record_label, compound_label, compound_cells}
use Rattle.content_build.specs.Inner.Cells.{slot_label, slot_cells, slot_wait}
use Rattle.content_build.specs.Inner.Cells.{last_value, slots_cells}
use Rattle.content_build.specs.Inner.Cells.{with_size, Waiting, Stood}
use Rattle.content_build.specs.Inner.Steps.{IsIdle}
use Rattle.content_build.proofs.Forward.{set_last-push}

-- the tree of a wrap, of a series and of a record begins with its node
pub flat-wrapped : (w : Wrap) (t : Tree) → flat (wrapped w t) ≡ enclose (wrap_label w) (flat t)
flat-wrapped token.in_some t = refl
flat-wrapped (token.in_head (calls.of_struct n)) t = refl
flat-wrapped (token.in_head (calls.of_variant n i v)) t = refl

pub flat-series_tree : (r : Series) (ts : Trees) → flat (series_tree r ts) ≡ enclose (series_label r) (flat_trees ts)
flat-series_tree token.series_seq ts = refl
flat-series_tree token.series_tuple ts = refl
flat-series_tree (token.series_head (calls.of_struct n)) ts = refl
flat-series_tree (token.series_head (calls.of_variant n i v)) ts = refl

pub flat-record_tree : (h : Head) (fs : Fields) → flat (record_tree h fs) ≡ enclose (record_label h) (flat_fields fs)
flat-record_tree (calls.of_struct n) fs = refl
flat-record_tree (calls.of_variant n i v) fs = refl

pub flat-closed : (c : Compound) → flat (closed c) ≡ enclose (compound_label c) (compound_cells c)
flat-closed (partial.in_series r ts) = flat-series_tree r ts
flat-closed (partial.in_map prs) = refl
flat-closed (partial.in_record h fs) = flat-record_tree h fs

pub flat_trees-push : (ts : Trees) (t : Tree) → flat_trees (push_tree ts t) ≡ flat_trees ts ++ flat t
flat_trees-push no_trees t = append-nil (flat t)
flat_trees-push (tree_then u us) t = ap (λ l. flat u ++ l) (flat_trees-push us t) ∙ sym (append_assoc (flat u) (flat_trees us) (flat t))

pub flat_fields-push : (fs : Fields) (k : Text) (t : Tree) → flat_fields (push_field fs k t) ≡ flat_fields fs ++ (cell (key k) 1 ∷ flat t)
flat_fields-push no_fields k t = ap (λ l. cell (key k) 1 ∷ l) (append-nil (flat t))
flat_fields-push (field_then l u us) k t =
    ap (λ c. cell (key l) 1 ∷ (flat u ++ c)) (flat_fields-push us k t)
    ∙ ap (λ c. cell (key l) 1 ∷ c) (sym (append_assoc (flat u) (flat_fields us) (cell (key k) 1 ∷ flat t)))

pub flat_pairs-push : (ps : Pairs) (k v : Tree) → flat_pairs (push_pair ps k v) ≡ flat_pairs ps ++ (flat k ++ flat v)
flat_pairs-push no_pairs k v = ap (λ l. flat k ++ l) (append-nil (flat v))
flat_pairs-push (pair_then a b ps) k v =
    ap (λ c. flat a ++ (flat b ++ c)) (flat_pairs-push ps k v)
    ∙ (ap (λ c. flat a ++ c) (sym (append_assoc (flat b) (flat_pairs ps) (flat k ++ flat v)))
    ∙ sym (append_assoc (flat a) (flat b ++ flat_pairs ps) (flat k ++ flat v)))

pub last_value-push : (before : ℕ) (ps : Pairs) (k v : Tree) → last_value before (push_pair ps k v) ≡ (before + length (flat_pairs ps)) + length (flat k)
last_value-push before no_pairs k v = omega arith
last_value-push before (pair_then a b no_pairs) k v = omega (arith, length-append (flat a) (flat b ++ []), length-append {A = Cell} (flat b) [])
last_value-push before (pair_then a b (pair_then c d ps)) k v =
    last_value-push ((before + length (flat a)) + length (flat b)) (pair_then c d ps) k v
    ∙ omega (arith, length-append (flat a) (flat b ++ flat_pairs (pair_then c d ps)), length-append (flat b) (flat_pairs (pair_then c d ps)))

pub last_value-pos : (before : ℕ) (k v : Tree) (ps : Pairs) → 0 < before → 0 < last_value before (pair_then k v ps)
last_value-pos before k v no_pairs h = omega arith
last_value-pos before k v (pair_then a b ps) h = last_value-pos ((before + length (flat k)) + length (flat v)) a b ps (omega arith)

-- a map with a pair has a last one
pub ends : (k v : Tree) (ps : Pairs) → (init : Pairs) × (a : Tree) × (b : Tree) × (pair_then k v ps ≡ push_pair init a b)
ends k v no_pairs = (no_pairs, k, v, refl)
ends k v (pair_then c d ps) = let e = ends c d ps in (pair_then k v e.0, e.1, e.2, ap (pair_then k v) e.3)

-- a tree's first cell has the number of its cells
pub flat-size : (t : Tree) → (n : Label) × (rest : List Cell) × (flat t ≡ cell n (length (flat t)) ∷ rest)
flat-size tree.unit = (_, _, refl)
flat-size (tree.boolean b) = (_, _, refl)
flat-size (tree.number n) = (_, _, refl)
flat-size (tree.character c) = (_, _, refl)
flat-size (tree.text t) = (_, _, refl)
flat-size (tree.octets t) = (_, _, refl)
flat-size (tree.seq ts) = (_, _, refl)
flat-size (tree.map ps) = (_, _, refl)
flat-size tree.absent = (_, _, refl)
flat-size (tree.present t) = (_, _, refl)
flat-size (tree.structure n d) = (_, _, refl)
flat-size (tree.enumeration n i v d) = (_, _, refl)
flat-size (tree.tuple ts) = (_, _, refl)

pub with_size-seam : (xs : List Cell) (label : Label) (m n : ℕ) (ys : List Cell) → with_size (xs ++ cell label m ∷ ys) (length xs) n ≡ xs ++ cell label n ∷ ys
with_size-seam [] label m n ys = refl
with_size-seam (cell a c ∷ xs) label m n ys = ap (λ l. cell a c ∷ l) (with_size-seam xs label m n ys)

pub arm-item : (ps : List Slot) (t : Tree) (cs : List Cell) (at last : ℕ) (m : ItemCall) (os : List Open) → Waiting cs (opened at last (item m) ∷ os) ps t → Stood cs (opened at last (in_series m) ∷ os) (fill ps t)
arm-item (partial.element r ts ∷ ps) t cs at last m os (c, o) =
    (c ∙ (append_assoc (slots_cells ps) _ (flat t) ∙ ap (λ l. slots_cells ps ++ (cell (series_label r) 0 ∷ l)) (sym (flat_trees-push ts t))), cc)
arm-item _ t cs at last m os (c, o) = absurd (cc)

pub arm-field : (ps : List Slot) (t : Tree) (cs : List Cell) (at last : ℕ) (os : List Open) → Waiting cs (opened at last field ∷ os) ps t → Stood cs (opened at last in_record ∷ os) (fill ps t)
arm-field (partial.field_value h fs k ∷ ps) t cs at last os (c, o) =
    (c ∙ (append_assoc (slots_cells ps) _ (flat t) ∙ ap (λ x. slots_cells ps ++ (cell (record_label h) 0 ∷ x)) (append_assoc (flat_fields fs) _ (flat t) ∙ sym (flat_fields-push fs (static_name k) t))), cc)
arm-field _ t cs at last os (c, o) = absurd (cc)

pub arm-child : (ps : List Slot) (t : Tree) (cs : List Cell) (at last : ℕ) (os : List Open) → Waiting cs (opened at last child ∷ os) ps t
    → (qs : List Slot) × (u : Tree) × (fill ps t ≡ fill qs u) × (at < length cs) × Waiting (with_size cs at (length cs - at)) os qs u
arm-child (partial.child w ∷ ps) t cs at last os (c, o) =
    let front = slots_cells ps in
    let here : at ≡ length front = cc in
    let whole : cs ≡ front ++ (cell (wrap_label w) 0 ∷ flat t) = c ∙ append_assoc front _ (flat t) in
    let size : length cs ≡ length front + suc (length (flat t)) = ap length whole ∙ length-append front _ in
    let gone : length cs - at ≡ suc (length (flat t)) = omega (arith, size, here) in (
      ps,
      wrapped w t,
      refl,
      omega (arith, size, here),
      (
        ap (λ l. with_size l at (length cs - at)) whole
            ∙ (ap (λ a. with_size (front ++ (cell (wrap_label w) 0 ∷ flat t)) a (length cs - at)) here
            ∙ (with_size-seam front (wrap_label w) 0 (length cs - at) (flat t)
            ∙ (ap (λ n. front ++ (cell (wrap_label w) n ∷ flat t)) gone ∙ ap (λ l. front ++ l) (sym (flat-wrapped w t))))),
        cc,
      ),
    )
arm-child _ t cs at last os (c, o) = absurd (cc)

-- a closed compound becomes a finished tree
pub arm-close : (c : Compound) (ps : List Slot) (cs : List Cell) (at last : ℕ) (w : Wait) (os : List Open) → Stood cs (opened at last w ∷ os) (partial.between c ps)
    → (at < length cs) × Waiting (with_size cs at (length cs - at)) os ps (closed c)
arm-close c ps cs at last w os (e, o) =
    let front = slots_cells ps in
    let here : at ≡ length front = cc in
    let size : length cs ≡ length front + suc (length (compound_cells c)) = ap length e ∙ length-append front _ in
    let gone : length cs - at ≡ suc (length (compound_cells c)) = omega (arith, size, here) in (
      omega (arith, size, here),
      (
        ap (λ l. with_size l at (length cs - at)) e
            ∙ (ap (λ a. with_size (front ++ (cell (compound_label c) 0 ∷ compound_cells c)) a (length cs - at)) here
            ∙ (with_size-seam front (compound_label c) 0 (length cs - at) (compound_cells c)
            ∙ (ap (λ n. front ++ (cell (compound_label c) n ∷ compound_cells c)) gone ∙ ap (λ l. front ++ l) (sym (flat-closed c))))),
        cc,
      ),
    )

pub arm-key : (ps : List Slot) (t : Tree) (cs : List Cell) (at last : ℕ) (os : List Open) → Waiting cs (opened at last a_key ∷ os) ps t → Stood (cs ++ cell (leaf unit) 1 ∷ []) (opened at (length cs) in_map ∷ os) (fill ps t)
arm-key (partial.key prs ∷ ps) t cs at last os (c, o) =
    let front = slots_cells ps in
    let whole : cs ≡ front ++ (cell map 0 ∷ (flat_pairs prs ++ flat t)) = c ∙ append_assoc front _ (flat t) in
    let size : length cs ≡ last_value (length front + 1) (push_pair prs t tree.unit) =
    ap length whole ∙ (length-append front _ ∙ (omega (arith, length-append (flat_pairs prs) (flat t)) ∙ sym (last_value-push (length front + 1) prs t tree.unit))) in
    (ap (λ l. l ++ cell (leaf unit) 1 ∷ []) whole ∙ (append_assoc front _ (cell (leaf unit) 1 ∷ []) ∙ ap (λ l. front ++ (cell map 0 ∷ l)) (append_assoc (flat_pairs prs) (flat t) (cell (leaf unit) 1 ∷ []) ∙ sym (flat_pairs-push prs t tree.unit))), cc)
arm-key _ t cs at last os (c, o) = absurd (cc)

pub arm-entry_key : (ps : List Slot) (t : Tree) (cs : List Cell) (at last : ℕ) (os : List Open) → Waiting cs (opened at last entry_key ∷ os) ps t → Stood cs (opened at (length cs) entry_value ∷ os) (fill ps t)
arm-entry_key (partial.entry_key prs ∷ ps) t cs at last os (c, o) =
    let front = slots_cells ps in
    let whole : cs ≡ front ++ (cell map 0 ∷ (flat_pairs prs ++ flat t)) = c ∙ append_assoc front _ (flat t) in
    let size : length cs ≡ ((length front + 1) + length (flat_pairs prs)) + length (flat t) =
    ap length whole ∙ (length-append front _ ∙ omega (arith, length-append (flat_pairs prs) (flat t))) in
    (whole, cc)
arm-entry_key _ t cs at last os (c, o) = absurd (cc)

pub arm-entry_value : (ps : List Slot) (t : Tree) (cs : List Cell) (at last : ℕ) (os : List Open) → Waiting cs (opened at last entry_value ∷ os) ps t → Stood cs (opened at last in_map ∷ os) (fill ps t)
arm-entry_value (partial.entry_value prs k ∷ ps) t cs at last os (c, o) =
    let front = slots_cells ps in
    let e = last_value-push (length front + 1) prs k t in
    (c ∙ (append_assoc front _ (flat t) ∙ ap (λ l. front ++ (cell map 0 ∷ l)) (append_assoc (flat_pairs prs) (flat k) (flat t) ∙ sym (flat_pairs-push prs k t))), cc)
arm-entry_value _ t cs at last os (c, o) = absurd (cc)

pub arm-value_none : (ps : List Slot) (t : Tree) (cs : List Cell) (at last : ℕ) (os : List Open) → last ≡ 0 → Waiting cs (opened at last a_value ∷ os) ps t → Stood (take (at + 1) cs) (opened at last in_map ∷ os) (fill ps t)
arm-value_none (partial.value no_pairs ∷ ps) t cs at last os z (c, o) =
    let front = slots_cells ps in
    let whole : cs ≡ front ++ (cell map 0 ∷ flat t) = c ∙ append_assoc front _ (flat t) in
    let here : at ≡ length front = cc in
    (ap (take (at + 1)) whole ∙ (ap (λ a. take (a + 1) (front ++ (cell map 0 ∷ flat t))) here ∙ take-append-add front (cell map 0 ∷ flat t) 1), cc)
arm-value_none (partial.value (pair_then a b prs) ∷ ps) t cs at last os z (c, o) =
    let e : last ≡ last_value (length (slots_cells ps) + 1) (pair_then a b prs) = cc in
    absurd (omega (arith, z, e, last_value-pos (length (slots_cells ps) + 1) a b prs (omega arith)))
arm-value_none _ t cs at last os z (c, o) = absurd (cc)

-- the cells of the last pair's value are taken out
abbrev pub Replaced : List Cell → ℕ → ℕ → ℕ → List Open → Partial → Type 0
Replaced cs at last size os s = (last + size ≤ length cs) × Stood (take last cs ++ drop (last + size) cs) (opened at last in_map ∷ os) s

replaced : (prs : Pairs) (ps : List Slot) (t : Tree) (cs : List Cell) (at last : ℕ) (os : List Open) (init : Pairs) (k v : Tree) → prs ≡ push_pair init k v
    → Waiting cs (opened at last a_value ∷ os) (partial.value prs ∷ ps) t
    → (last < length cs) × ((d : Cell) → Replaced cs at last (cell_size (get_or cs last d)) os (fill (partial.value prs ∷ ps) t))
replaced prs ps t cs at last os init k v e (c, o) =
    let front = slots_cells ps in
    let opening = cell map 0 in
    let before = front ++ (opening ∷ (flat_pairs init ++ flat k)) in
    let pairs_are : flat_pairs prs ≡ flat_pairs init ++ (flat k ++ flat v) = ap flat_pairs e ∙ flat_pairs-push init k v in
    let whole : cs ≡ before ++ (flat v ++ flat t) =
    c ∙ (ap (λ l. (front ++ (opening ∷ l)) ++ flat t) pairs_are ∙ regroup front (opening) (flat_pairs init) (flat k) (flat v) (flat t)) in
    let start : last ≡ length before =
    let x : last ≡ last_value (length front + 1) prs = cc in
    x ∙ (ap (last_value (length front + 1)) e ∙ (last_value-push (length front + 1) init k v ∙ omega (arith, length-append front (opening ∷ (flat_pairs init ++ flat k)), length-append (flat_pairs init) (flat k)))) in
    let head = flat-size v in
    let size : length cs ≡ length before + (length (flat v) + length (flat t)) = ap length whole ∙ (length-append before (flat v ++ flat t) ∙ ap (λ n. length before + n) (length-append (flat v) (flat t))) in
    let some_cell : length (flat v) ≡ suc (length head.1) = ap length head.2 in (
      omega (arith, size, start, some_cell),
      λ d.
          let its : get_or cs last d ≡ cell head.0 (length (flat v)) =
          ap (λ l. get_or l last d) (whole ∙ ap (λ l. before ++ (l ++ flat t)) head.2) ∙ (ap (λ i. get_or (before ++ (cell head.0 (length (flat v)) ∷ (head.1 ++ flat t))) i d) start ∙ get_or-append_seam before (cell head.0 (length (flat v))) (head.1 ++ flat t) d) in
          let n : cell_size (get_or cs last d) ≡ length (flat v) = ap cell_size its in
          let kept : take last cs ≡ before = ap (take last) whole ∙ (ap (λ i. take i (before ++ (flat v ++ flat t))) start ∙ take-append_seam before (flat v ++ flat t)) in
          let left : drop (last + cell_size (get_or cs last d)) cs ≡ flat t =
          ap (drop (last + cell_size (get_or cs last d))) whole ∙ (ap (λ i. drop i (before ++ (flat v ++ flat t))) (ap (λ i. i + cell_size (get_or cs last d)) start ∙ ap (λ i. length before + i) n) ∙ (drop-append-add before (flat v ++ flat t) (length (flat v)) ∙ drop-append_seam (flat v) (flat t))) in
          let after_pairs : flat_pairs (set_last prs t) ≡ flat_pairs init ++ (flat k ++ flat t) =
          ap (λ p. flat_pairs (set_last p t)) e ∙ (ap flat_pairs (set_last-push init k v t) ∙ flat_pairs-push init k t) in
          let same_last : last ≡ last_value (length front + 1) (set_last prs t) =
          start ∙ (sym (last_value-push (length front + 1) init k t ∙ omega (arith, length-append front (opening ∷ (flat_pairs init ++ flat k)), length-append (flat_pairs init) (flat k))) ∙ ap (last_value (length front + 1)) (sym (ap (λ p. set_last p t) e ∙ set_last-push init k v t))) in (
            omega (arith, size, start, n),
            (ap (λ l. l ++ drop (last + cell_size (get_or cs last d)) cs) kept ∙ (ap (λ l. before ++ l) left ∙ (append_assoc front (opening ∷ (flat_pairs init ++ flat k)) (flat t) ∙ ap (λ l. front ++ (opening ∷ l)) (append_assoc (flat_pairs init) (flat k) (flat t) ∙ sym after_pairs))), cc),
          ),
    )
  where
    regroup : (f : List Cell) (c : Cell) (i k v t : List Cell) → (f ++ (c ∷ (i ++ (k ++ v)))) ++ t ≡ (f ++ (c ∷ (i ++ k))) ++ (v ++ t)
    regroup f c i k v t = simp append_assoc

pub arm-value_some : (ps : List Slot) (t : Tree) (cs : List Cell) (at last : ℕ) (os : List Open) → 0 < last → Waiting cs (opened at last a_value ∷ os) ps t
    → (last < length cs) × ((d : Cell) → Replaced cs at last (cell_size (get_or cs last d)) os (fill ps t))
arm-value_some (partial.value no_pairs ∷ ps) t cs at last os h (c, o) = let e : last ≡ 0 = cc in absurd (omega (arith, e))
arm-value_some (partial.value (pair_then a b prs) ∷ ps) t cs at last os h w =
    let e = ends a b prs in replaced (pair_then a b prs) ps t cs at last os e.0 e.1 e.2 e.3 w
arm-value_some _ t cs at last os h (c, o) = absurd (cc)

pub slot_waits : (p : Slot) → IsIdle (slot_wait p) → ⊥
slot_waits (partial.child w) h = h
slot_waits (partial.element r ts) h = h
slot_waits (partial.key ts) h = h
slot_waits (partial.value ts) h = h
slot_waits (partial.entry_key ts) h = h
slot_waits (partial.entry_value ts k) h = h
slot_waits (partial.field_value n fs k) h = h

pub arm-none : (ps : List Slot) (t : Tree) (cs : List Cell) (at last : ℕ) (w : Wait) (os : List Open) → IsIdle w → Waiting cs (opened at last w ∷ os) ps t → ⊥
arm-none [] t cs at last w os i (c, o) = cc
arm-none (p ∷ ps) t cs at last w os i (c, o) = let e : w ≡ slot_wait p = cc in slot_waits p (subst IsIdle e i)

pub arm-done : (ps : List Slot) (t : Tree) (cs : List Cell) → Waiting cs [] ps t → Stood cs [] (fill ps t)
arm-done [] t cs w = w
arm-done (p ∷ ps) t cs w = let o = w.1 in absurd (cc)

pub at-below : (ps : List Slot) (t : Tree) (cs : List Cell) (at last : ℕ) (w : Wait) (os : List Open) → Waiting cs (opened at last w ∷ os) ps t → at < length cs
at-below [] t cs at last w os (c, o) = absurd (cc)
at-below (p ∷ ps) t cs at last w os (c, o) =
    let here : at ≡ length (slots_cells ps) = cc in
    let n = ap length c in
    omega (arith, here, n, length-append (slots_cells ps ++ (cell (slot_label p) 0 ∷ slot_cells p)) (flat t), length-append (slots_cells ps) (cell (slot_label p) 0 ∷ slot_cells p))
