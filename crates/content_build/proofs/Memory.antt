-- From the vectors in memory to the tape.
use Rattle.std.proofs.Common.{◌≡◌, ℕ, zero, suc, ◌+◌, ◌<◌, ◌≤◌, List, [], ◌∷◌, ◌++◌, length}
use Rattle.std.proofs.Common.{take, drop, get_or, map, refl, sym, ap, subst, ◌∙◌, arith}
use Rattle.std.proofs.Math.ListN.{set}
use Rattle.std.proofs.lemmas.List.{reverse-append}
use Rattle.content_tree.specs.Values.Tree.{Tree}
use Rattle.content_build.specs.Partial.{Partial, Slot, fill}
use Rattle.content_build.specs.Inner.Cells.{cell, Wait, Open, opened, with_size, Waiting, Stood}
use Rattle.content_build.specs.Inner.Cells.{cell_size, a_value, in_map}
use Rattle.content_build.specs.Inner.Frames.{frame_view, wait_view, open_view, cells_of, opens_view}
use Rattle.content_build.specs.Inner.Frames.{label_view}
use Rattle.content_build.specs.Inner.Sound.{Stands, IsWaiting}
use Rattle.content_build.specs.declared.frame.Frame.{Frame}
use Rattle.content_build.specs.declared.frame.Opening.{Opening}
use Rattle.content_build.proofs.Algebra.{arm-value_some, arm-value_none, arm-done, Replaced}

pub length-cells : (es : List Frame) → length (cells_of es) ≡ length es
length-cells [] = refl
length-cells (e ∷ es) = ap suc (length-cells es)

pub cells-set : (es : List Frame) (i : ℕ) (n : ℕ) (x : Frame) → i < length es → x ≡ get_or es i x → cells_of (set es i (record x { size = n })) ≡ with_size (cells_of es) i n
cells-set [] i n x h e = absurd (omega arith)
cells-set (e ∷ es) zero n x h g = ap (λ (y : Frame). cell (label_view y.label) n ∷ cells_of es) g
cells-set (e ∷ es) (suc i) n x h g = ap (λ l. frame_view e ∷ l) (cells-set es i n x (omega arith) g)

pub cells-push : (es : List Frame) (e : Frame) → cells_of (es ++ e ∷ []) ≡ cells_of es ++ frame_view e ∷ []
cells-push [] e = refl
cells-push (x ∷ xs) e = ap (λ l. frame_view x ∷ l) (cells-push xs e)

pub cells-append : (es fs : List Frame) → cells_of (es ++ fs) ≡ cells_of es ++ cells_of fs
cells-append [] fs = refl
cells-append (x ∷ xs) fs = ap (λ l. frame_view x ∷ l) (cells-append xs fs)

pub cells-take : (n : ℕ) (es : List Frame) → cells_of (take n es) ≡ take n (cells_of es)
cells-take zero es = refl
cells-take (suc n) [] = refl
cells-take (suc n) (e ∷ es) = ap (λ l. frame_view e ∷ l) (cells-take n es)

pub cells-drop : (n : ℕ) (es : List Frame) → cells_of (drop n es) ≡ drop n (cells_of es)
cells-drop zero es = refl
cells-drop (suc n) [] = refl
cells-drop (suc n) (e ∷ es) = cells-drop n es

pub cells-get : (es : List Frame) (i : ℕ) (d : Frame) → frame_view (get_or es i d) ≡ get_or (cells_of es) i (frame_view d)
cells-get [] i d = refl
cells-get (e ∷ es) zero d = refl
cells-get (e ∷ es) (suc i) d = cells-get es i d

-- one head more
pub opens-push : (hs : List Opening) (h : Opening) → opens_view (hs ++ h ∷ []) ≡ open_view h ∷ opens_view hs
opens-push hs h = ap (map open_view) (reverse-append hs (h ∷ []))

-- the openings are the first ones and then the last
pub by_last : {X : Type 0} (hs : List X) (n : ℕ) (h : X) → suc n ≡ length hs → h ≡ get_or hs n h → hs ≡ take n hs ++ h ∷ []
by_last [] n h s e = absurd (omega arith)
by_last (x ∷ []) zero h s e = ap (λ y. y ∷ []) (sym e)
by_last (x ∷ y ∷ ys) zero h s e = absurd (omega arith)
by_last (x ∷ xs) (suc n) h s e = ap (λ l. x ∷ l) (by_last xs n h (omega arith) e)

-- another in place of the last
pub set_at_last : {X : Type 0} (hs : List X) (n : ℕ) (h : X) → suc n ≡ length hs → set hs n h ≡ take n hs ++ h ∷ []
set_at_last [] n h s = absurd (omega arith)
set_at_last (x ∷ []) zero h s = refl
set_at_last (x ∷ y ∷ ys) zero h s = absurd (omega arith)
set_at_last (x ∷ xs) (suc n) h s = ap (λ l. x ∷ l) (set_at_last xs n h (omega arith))

pub opens-last : (hs : List Opening) (n : ℕ) (h : Opening) → suc n ≡ length hs → h ≡ get_or hs n h → opens_view hs ≡ open_view h ∷ opens_view (take n hs)
opens-last hs n h s e = ap opens_view (by_last hs n h s e) ∙ opens-push (take n hs) h

pub opens-set : (hs : List Opening) (n : ℕ) (h : Opening) → suc n ≡ length hs → opens_view (set hs n h) ≡ open_view h ∷ opens_view (take n hs)
opens-set hs n h s = ap opens_view (set_at_last hs n h s) ∙ opens-push (take n hs) h

-- the innermost head waits for this
pub at_wait : (es : List Frame) (hs : List Opening) (n : ℕ) (h : Opening) (w : Wait) (ps : List Slot) (t : Tree) → suc n ≡ length hs → h ≡ get_or hs n h
    → wait_view h.waits ≡ w → IsWaiting es hs ps t → Waiting (cells_of es) (opened h.at h.last w ∷ opens_view (take n hs)) ps t
at_wait es hs n h w ps t s e is (c, o) =
    (c, ap (λ v. opened h.at h.last v ∷ opens_view (take n hs)) (sym is) ∙ (sym (opens-last hs n h s e) ∙ o))

-- it waits for something else
pub settled : (es : List Frame) (hs : List Opening) (n : ℕ) (h : Opening) (s next : Partial) → suc n ≡ length hs → s ≡ next
    → Stood (cells_of es) (open_view h ∷ opens_view (take n hs)) next → Stands es (set hs n h) s
settled es hs n h s next l e w = subst (Stands es (set hs n h)) (sym e) (w.0, opens-set hs n h l ∙ w.1)

pub replace_some : (es : List Frame) (at last : ℕ) (ps : List Slot) (t : Tree) (os : List Open) → 0 < last → Waiting (cells_of es) (opened at last a_value ∷ os) ps t
    → (last < length es) × ((x : Frame) → x ≡ get_or es last x → (last + x.size ≤ length es) × Stood (cells_of (take last es ++ drop (last + x.size) es)) (opened at last in_map ∷ os) (fill ps t))
replace_some es at last ps t os h w =
    let a = arm-value_some ps t (cells_of es) at last os h w in (
      rw length-cells at a.0,
      λ x e.
          let b = a.1 (frame_view x) in
          let same : cell_size (get_or (cells_of es) last (frame_view x)) ≡ x.size = ap cell_size (sym (cells-get es last x) ∙ ap frame_view (sym e)) in
          let r : Replaced (cells_of es) at last x.size os (fill ps t) = subst (λ n. Replaced (cells_of es) at last n os (fill ps t)) same b in (
            rw length-cells at r.0,
            (cells-append (take last es) (drop (last + x.size) es) ∙ (ap (λ l. l ++ cells_of (drop (last + x.size) es)) (cells-take last es) ∙ (ap (λ l. take last (cells_of es) ++ l) (cells-drop (last + x.size) es) ∙ r.1.0)), r.1.1),
          ),
    )

pub replace_none : (es : List Frame) (at last : ℕ) (ps : List Slot) (t : Tree) (os : List Open) → last ≡ 0 → Waiting (cells_of es) (opened at last a_value ∷ os) ps t
    → Stood (cells_of (take (at + 1) es)) (opened at last in_map ∷ os) (fill ps t)
replace_none es at last ps t os h w = let a = arm-value_none ps t (cells_of es) at last os h w in (cells-take (at + 1) es ∙ a.0, a.1)

pub nothing : {X : Type 0} (xs : List X) → length xs ≡ 0 → xs ≡ []
nothing [] e = refl
nothing (x ∷ xs) e = absurd (omega arith)

-- no head is open
pub at_end : (es : List Frame) (hs : List Opening) (qs : List Slot) (u : Tree) (s : Partial) → hs ≡ [] → s ≡ fill qs u → IsWaiting es hs qs u → Stands es hs s
at_end es hs qs u s a e (c, o) =
    let d = arm-done qs u (cells_of es) (c, sym (ap opens_view a) ∙ o) in subst (Stands es hs) (sym e) (d.0, ap opens_view a ∙ d.1)

-- the first ones stay where the next is set
pub take_set : {X : Type 0} (hs : List X) (n : ℕ) (h : X) → take n (set hs n h) ≡ take n hs
take_set [] zero h = refl
take_set [] (suc n) h = refl
take_set (x ∷ xs) zero h = refl
take_set (x ∷ xs) (suc n) h = ap (λ l. x ∷ l) (take_set xs n h)
