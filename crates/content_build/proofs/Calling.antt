-- What each call does to a tape.
use Rattle.std.proofs.Common.{◌≡◌, ℕ, suc, ◌+◌, List, [], ◌∷◌, ◌++◌, Option, Some, None, Ok}
use Rattle.std.proofs.Common.{length, take, refl, sym, ap, subst, ◌∙◌, arith, get_or, append_assoc}
use Rattle.std.proofs.Common.{length-append}
use Rattle.std.proofs.Common.{Bool, true, false, cond, IfSome}
use Rattle.std.proofs.Math.ListN.{set}
use Rattle.std.proofs.lemmas.List.{length-map, length-reverse}
use Rattle.content_tree.specs.Values.Text.{static_name}
use Rattle.content_tree.specs.Values.Tree.{Tree, Trees, no_trees, Pairs, no_pairs, Fields}
use Rattle.content_tree.specs.Values.Tree.{no_fields}
use Rattle.content_ser.specs.Calls.Head.{Head}
use Rattle.content_ser.specs.Grammar.Token as token
use Rattle.content_ser.specs.Grammar.Token.{Token, Wrap, Series, ItemCall, item_call}
use Rattle.content_build.specs.Limit.{fits}
use Rattle.content_build.specs.Partial as partial
use Rattle.content_build.specs.Partial.{Partial, Slot, Compound, due, between, done, fill, begin}
use Rattle.content_build.specs.Partial.{step_token, closed, next_item, open_count}
use Rattle.content_build.specs.Inner.Cells as cells
use Rattle.content_build.specs.Inner.Cells.{Label, Cell, cell, Wait, Open, opened, flat}
use Rattle.content_build.specs.Inner.Cells.{flat_fields, slots_cells, slots_opens}
use Rattle.content_build.specs.Inner.Cells.{slot_wait, wrap_label, series_label, record_label, Stood}
use Rattle.content_build.specs.Inner.Cells.{Waiting}
use Rattle.content_build.specs.Inner.Frames.{frame_view, label_view, wait_view, open_view, cells_of}
use Rattle.content_build.specs.Inner.Frames.{opens_view}
use Rattle.content_build.specs.Inner.Sound.{meaning, IsSound, Stands, IsWaiting, IsKept, viewed}
use Rattle.content_build.specs.Inner.Taken.{TakenTo, TakesStep, TakesToken}
use Rattle.content_build.specs.Inner.Steps.{Fills, IsDue, IsIdle, Opens}
use Rattle.content_build.specs.declared.frame.Frame.{Frame}
use Rattle.content_build.specs.declared.frame.Opening.{Opening}
use Rattle.content_build.proofs.Algebra.{slot_waits}
use Rattle.content_build.proofs.Decoded.{decoded-from}
use Rattle.content_build.proofs.Memory.{cells-push, opens-push, opens-set, opens-last, length-cells}

-- what represents a partial tree is sound, and means it
pub sound_from : (es : List Frame) (hs : List Opening) (s : Partial) → Stands es hs s → IsSound es hs × (meaning es hs ≡ s)
sound_from es hs s w = let e = decoded-from (cells_of es) (opens_view hs) s w in (subst (Stands es hs) (sym e) w, e)

-- where a tree is due, slots wait for it
pub the_slots : (s : Partial) → IsDue s → (ps : List Slot) × (s ≡ due ps)
the_slots (due ps) d = (ps, refl)
the_slots (between c ps) d = absurd d
the_slots (done t) d = absurd d

-- a whole tree more at the end
pub waiting_whole : (ps : List Slot) (es new : List Frame) (hs : List Opening) (e : Frame) (t : Tree) → Stands es hs (due ps) → cell (label_view e.label) 1 ∷ [] ≡ flat t → e.size ≡ 1 → new ≡ es ++ e ∷ []
    → IsWaiting new hs ps t
waiting_whole ps es new hs e t w l one n =
    (ap cells_of n ∙ (cells-push es e ∙ (ap (λ x. x ++ frame_view e ∷ []) w.0 ∙ ap (λ x. slots_cells ps ++ x) (ap (λ x. cell (label_view e.label) x ∷ []) one ∙ l))), w.1)

idle_compound : (c : Compound) → IsIdle (cells.compound_wait c)
idle_compound (partial.in_series r ts) = tt
idle_compound (partial.in_map prs) = tt
idle_compound (partial.in_record h fs) = tt

-- where the innermost opening waits for a tree, slots wait for it
busy_slots : (s : Partial) (cs : List Cell) (at last : ℕ) (w : Wait) (os : List Open) → (IsIdle w → ⊥) → Stood cs (opened at last w ∷ os) s → (ps : List Slot) × (s ≡ due ps)
busy_slots (due ps) cs at last w os b (c, o) = (ps, refl)
busy_slots (between k ps) cs at last w os b (c, o) = let e : cells.compound_wait k ≡ w = cc in absurd (b (subst IsIdle e (idle_compound k)))
busy_slots (done t) cs at last w os b (c, o) = absurd (cc)

-- an opening that waits for an item is filled by a leaf that is not at the end of the tape yet
pub filled : (es : List Frame) (hs : List Opening) (n : ℕ) (h new : Opening) (w : Wait) → suc n ≡ length hs → h ≡ get_or hs n h → wait_view h.waits ≡ w → (IsIdle w → ⊥) → IsSound es hs
    → ((ps : List Slot) (t : Tree) (cs : List Cell) → length cs ≡ length es + 1 → Waiting cs (opened h.at h.last w ∷ opens_view (take n hs)) ps t → Stood cs (open_view new ∷ opens_view (take n hs)) (fill ps t))
    → Fills es hs (set hs n new)
filled es hs n h new w l here was busy sound arm =
    let o : opens_view hs ≡ opened h.at h.last w ∷ opens_view (take n hs) = opens-last hs n h l here ∙ ap (λ x. opened h.at h.last x ∷ opens_view (take n hs)) was in
    let (ps, e) = busy_slots (meaning es hs) (cells_of es) h.at h.last w (opens_view (take n hs)) busy (sound.0, sym o ∙ sound.1) in
    let stands : Stands es hs (due ps) = subst (Stands es hs) e sound in (
      ps,
      e,
      λ t one.
          let size : length (cells_of es ++ flat t) ≡ length es + 1 = length-append (cells_of es) (flat t) ∙ omega (arith, length-cells es, one) in
          let st = arm ps t (cells_of es ++ flat t) size (ap (λ x. x ++ flat t) stands.0, sym o ∙ stands.1) in
          (st.0, opens-set hs n new l ∙ st.1),
    )

-- a leaf that fills them is at the end of the tape
pub took_leaf : (es after : List Frame) (old new : List Opening) (e : Frame) (t : Tree) → Fills es old new → cell (label_view e.label) 1 ∷ [] ≡ flat t → e.size ≡ 1 → after ≡ es ++ e ∷ []
    → TakenTo (step_token (meaning es old) (token.leaf t)) (Ok tt) after new
took_leaf es after old new e t (ps, is, fills) l one n =
    let st = fills t (sym (ap length l)) in
    subst (λ s. TakenTo (step_token s (token.leaf t)) (Ok tt) after new) (sym is)
    (ap cells_of n ∙ (cells-push es e ∙ (ap (λ x. cells_of es ++ x) (ap (λ x. cell (label_view e.label) x ∷ []) one ∙ l) ∙ st.0)), st.1)

-- a tree where none is due
pub late_leaf : (s : Partial) (t : Tree) → (IsDue s → ⊥) → step_token s (token.leaf t) ≡ None
late_leaf (due ps) t n = absurd (n tt)
late_leaf (between (partial.in_series r ts) ps) t n = refl
late_leaf (between (partial.in_map prs) ps) t n = refl
late_leaf (between (partial.in_record h fs) ps) t n = refl
late_leaf (done u) t n = refl

follow-none : (c : Compound) (ps : List Slot) (w : Wrap) → partial.follow c ps (token.wrap w) ≡ None
follow-none (partial.in_series r ts) ps w = refl
follow-none (partial.in_map prs) ps w = refl
follow-none (partial.in_record h fs) ps w = refl

follow-series : (c : Compound) (ps : List Slot) (r : Series) → partial.follow c ps (token.open_series r) ≡ None
follow-series (partial.in_series q ts) ps r = refl
follow-series (partial.in_map prs) ps r = refl
follow-series (partial.in_record h fs) ps r = refl

follow-map : (c : Compound) (ps : List Slot) → partial.follow c ps token.open_map ≡ None
follow-map (partial.in_series q ts) ps = refl
follow-map (partial.in_map prs) ps = refl
follow-map (partial.in_record h fs) ps = refl

follow-record : (c : Compound) (ps : List Slot) (r : Head) → partial.follow c ps (token.open_record r) ≡ None
follow-record (partial.in_series q ts) ps r = refl
follow-record (partial.in_map prs) ps r = refl
follow-record (partial.in_record h fs) ps r = refl

-- a head where no tree is due
pub late_head : (s : Partial) (call : Token) (next : Partial) → begin [] call ≡ Some next → (IsDue s → ⊥) → step_token s call ≡ None
late_head (due ps) call next b n = absurd (n tt)
late_head (done u) call next b n = refl
late_head (between c ps) (token.leaf t) next b n = late_leaf (between c ps) t n
late_head (between c ps) (token.wrap w) next b n = follow-none c ps w
late_head (between c ps) (token.open_series r) next b n = follow-series c ps r
late_head (between c ps) token.open_map next b n = follow-map c ps
late_head (between c ps) (token.open_record r) next b n = follow-record c ps r
late_head (between c ps) (token.item m) next b n = absurd (cc)
late_head (between c ps) (token.field k) next b n = absurd (cc)
late_head (between c ps) token.key next b n = absurd (cc)
late_head (between c ps) token.value next b n = absurd (cc)
late_head (between c ps) token.entry next b n = absurd (cc)
late_head (between c ps) token.finish next b n = absurd (cc)

pub opens_wrap : (w : Wrap) → Opens (token.wrap w) (wrap_label w) cells.child
opens_wrap w ps = (due (partial.child w ∷ ps), refl, (refl, refl))

pub opens_series : (r : Series) → Opens (token.open_series r) (series_label r) (cells.in_series (item_call r))
opens_series r ps = (between (partial.in_series r no_trees) ps, refl, (refl, refl))

pub opens_map : Opens token.open_map cells.map cells.in_map
opens_map ps = (between (partial.in_map no_pairs) ps, refl, (refl, refl))

pub opens_record : (h : Head) → Opens (token.open_record h) (record_label h) cells.in_record
opens_record h ps = (between (partial.in_record h no_fields) ps, refl, (refl, refl))

-- a head more at the end
pub stands_open : (ps : List Slot) (es new : List Frame) (hs after : List Opening) (e : Frame) (h : Opening) (next : Partial) → Stands es hs (due ps)
    → Stood (slots_cells ps ++ cell (label_view e.label) 0 ∷ []) (opened (length (slots_cells ps)) 0 (wait_view h.waits) ∷ slots_opens ps) next
    → e.size ≡ 0 → new ≡ es ++ e ∷ [] → h.at ≡ length es → h.last ≡ 0 → after ≡ hs ++ h ∷ [] → Stands new after next
stands_open ps es new hs after e h next w o none n at last a = (
  ap cells_of n ∙ (cells-push es e ∙ (ap (λ x. x ++ frame_view e ∷ []) w.0 ∙ (ap (λ x. slots_cells ps ++ cell (label_view e.label) x ∷ []) none ∙ o.0))),
  ap opens_view a ∙ (opens-push hs h ∙ (ap (λ x. opened x h.last (wait_view h.waits) ∷ opens_view hs) (at ∙ (sym (length-cells es) ∙ ap length w.0))
      ∙ (ap (λ x. opened (length (slots_cells ps)) x (wait_view h.waits) ∷ opens_view hs) last ∙ (ap (λ x. opened (length (slots_cells ps)) 0 (wait_view h.waits) ∷ x) w.1 ∙ o.1)))),
)

-- in which compound the innermost head is
pub idle : (s : Partial) (cs : List Cell) (at last : ℕ) (w : Wait) (os : List Open) → IsIdle w → Stood cs (opened at last w ∷ os) s
    → (c : Compound) × (ps : List Slot) × (s ≡ between c ps) × (w ≡ cells.compound_wait c)
idle (due []) cs at last w os i (c, o) = absurd (cc)
idle (due (p ∷ ps)) cs at last w os i (c, o) = let e : w ≡ slot_wait p = cc in absurd (slot_waits p (subst IsIdle e i))
idle (between k ps) cs at last w os i (c, o) = (k, ps, refl, cc)
idle (done t) cs at last w os i (c, o) = absurd (cc)

pub the_map : (s : Partial) (cs : List Cell) (at last : ℕ) (os : List Open) → Stood cs (opened at last cells.in_map ∷ os) s → (prs : Pairs) × (ps : List Slot) × (s ≡ between (partial.in_map prs) ps)
the_map s cs at last os w = go (idle s cs at last cells.in_map os tt w)
  where
    go : (c : Compound) × (ps : List Slot) × (s ≡ between c ps) × (cells.in_map ≡ cells.compound_wait c) → (prs : Pairs) × (ps : List Slot) × (s ≡ between (partial.in_map prs) ps)
    go (partial.in_series r ts, ps, e, i) = absurd (cc)
    go (partial.in_map prs, ps, e, i) = (prs, ps, e)
    go (partial.in_record h fs, ps, e, i) = absurd (cc)

pub the_record : (s : Partial) (cs : List Cell) (at last : ℕ) (os : List Open) → Stood cs (opened at last cells.in_record ∷ os) s → (h : Head) × (fs : Fields) × (ps : List Slot) × (s ≡ between (partial.in_record h fs) ps)
the_record s cs at last os w = go (idle s cs at last cells.in_record os tt w)
  where
    go : (c : Compound) × (ps : List Slot) × (s ≡ between c ps) × (cells.in_record ≡ cells.compound_wait c) → (h : Head) × (fs : Fields) × (ps : List Slot) × (s ≡ between (partial.in_record h fs) ps)
    go (partial.in_series r ts, ps, e, i) = absurd (cc)
    go (partial.in_map prs, ps, e, i) = absurd (cc)
    go (partial.in_record h fs, ps, e, i) = (h, fs, ps, e)

pub the_series : (s : Partial) (m : ItemCall) (cs : List Cell) (at last : ℕ) (os : List Open) → Stood cs (opened at last (cells.in_series m) ∷ os) s → (r : Series) × (ts : Trees) × (ps : List Slot) × (s ≡ between (partial.in_series r ts) ps) × (item_call r ≡ m)
the_series s m cs at last os w = go (idle s cs at last (cells.in_series m) os tt w)
  where
    go : (c : Compound) × (ps : List Slot) × (s ≡ between c ps) × (cells.in_series m ≡ cells.compound_wait c) → (r : Series) × (ts : Trees) × (ps : List Slot) × (s ≡ between (partial.in_series r ts) ps) × (item_call r ≡ m)
    go (partial.in_series r ts, ps, e, i) = (r, ts, ps, e, cc)
    go (partial.in_map prs, ps, e, i) = absurd (cc)
    go (partial.in_record h fs, ps, e, i) = absurd (cc)

-- the call takes the step, and they represent what it leads to
abbrev pub Steps : Partial → Token → List Frame → List Opening → Type 0
Steps s call es hs = (next : Partial) × (step_token s call ≡ Some next) × Stands es hs next

next-same : (r : Series) (m : ItemCall) (s : Partial) → item_call r ≡ m → next_item (item_call r) m s ≡ Some s
next-same token.series_seq token.element s e = refl
next-same token.series_seq token.tuple_field s e = absurd (cc)
next-same token.series_tuple token.element s e = refl
next-same token.series_tuple token.tuple_field s e = absurd (cc)
next-same (token.series_head h) token.element s e = absurd (cc)
next-same (token.series_head h) token.tuple_field s e = refl

module _ (es : List Frame) (hs : List Opening) (n : ℕ) (h new : Opening) (l : suc n ≡ length hs) (here : h ≡ get_or hs n h) (at : new.at ≡ h.at) (last : new.last ≡ h.last) where
  -- the openings with another wait
  after : (w : Wait) → wait_view new.waits ≡ w → opens_view (set hs n new) ≡ opened h.at h.last w ∷ opens_view (take n hs)
  after w is =
      opens-set hs n new l
      ∙ (ap (λ x. opened x new.last (wait_view new.waits) ∷ opens_view (take n hs)) at
      ∙ (ap (λ x. opened h.at x (wait_view new.waits) ∷ opens_view (take n hs)) last ∙ ap (λ x. opened h.at h.last x ∷ opens_view (take n hs)) is))

  before : (s : Partial) (w : Wait) → wait_view h.waits ≡ w → Stands es hs s → Stood (cells_of es) (opened h.at h.last w ∷ opens_view (take n hs)) s
  before s w is (c, o) = (c, ap (λ x. opened h.at h.last x ∷ opens_view (take n hs)) (sym is) ∙ (sym (opens-last hs n h l here) ∙ o))

  pub turn_item : (s : Partial) (m : ItemCall) → Stands es hs s → wait_view h.waits ≡ cells.in_series m → wait_view new.waits ≡ cells.item m → Steps s (token.item m) es (set hs n new)
  turn_item s m w was is =
      let b = before s (cells.in_series m) was w in
      let (r, ts, ps, e, i) = the_series s m (cells_of es) h.at h.last _ b in
      let st : Stood (cells_of es) (opened h.at h.last (cells.in_series m) ∷ opens_view (take n hs)) (between (partial.in_series r ts) ps) = subst (Stood (cells_of es) (opened h.at h.last (cells.in_series m) ∷ opens_view (take n hs))) e b in
      (due (partial.element r ts ∷ ps), ap (λ x. step_token x (token.item m)) e ∙ next-same r m (due (partial.element r ts ∷ ps)) i, (st.0, after (cells.item m) is ∙ turned r ts ps m i st.1))
    where
      turned : (r : Series) (ts : Trees) (ps : List Slot) (m : ItemCall) → item_call r ≡ m → opened h.at h.last (cells.in_series m) ∷ opens_view (take n hs) ≡ cells.opens (between (partial.in_series r ts) ps)
          → opened h.at h.last (cells.item m) ∷ opens_view (take n hs) ≡ cells.opens (due (partial.element r ts ∷ ps))
      turned r ts ps m i o = cc

  in_a_map : (s : Partial) → Stands es hs s → wait_view h.waits ≡ cells.in_map → (prs : Pairs) × (ps : List Slot) × (s ≡ between (partial.in_map prs) ps) × Stood (cells_of es) (opened h.at h.last cells.in_map ∷ opens_view (take n hs)) (between (partial.in_map prs) ps)
  in_a_map s w was =
      let b = before s cells.in_map was w in
      let (prs, ps, e) = the_map s (cells_of es) h.at h.last _ b in
      (prs, ps, e, subst (Stood (cells_of es) (opened h.at h.last cells.in_map ∷ opens_view (take n hs))) e b)

  pub turn_key : (s : Partial) → Stands es hs s → wait_view h.waits ≡ cells.in_map → wait_view new.waits ≡ cells.a_key → Steps s token.key es (set hs n new)
  turn_key s w was is =
      let (prs, ps, e, st) = in_a_map s w was in
      (due (Slot.key prs ∷ ps), ap (λ x. step_token x token.key) e, (st.0, after cells.a_key is ∙ turned prs ps st.1))
    where
      turned : (prs : Pairs) (ps : List Slot) → opened h.at h.last cells.in_map ∷ opens_view (take n hs) ≡ cells.opens (between (partial.in_map prs) ps)
          → opened h.at h.last cells.a_key ∷ opens_view (take n hs) ≡ cells.opens (due (Slot.key prs ∷ ps))
      turned prs ps o = cc

  pub turn_value : (s : Partial) → Stands es hs s → wait_view h.waits ≡ cells.in_map → wait_view new.waits ≡ cells.a_value → Steps s token.value es (set hs n new)
  turn_value s w was is =
      let (prs, ps, e, st) = in_a_map s w was in
      (due (Slot.value prs ∷ ps), ap (λ x. step_token x token.value) e, (st.0, after cells.a_value is ∙ turned prs ps st.1))
    where
      turned : (prs : Pairs) (ps : List Slot) → opened h.at h.last cells.in_map ∷ opens_view (take n hs) ≡ cells.opens (between (partial.in_map prs) ps)
          → opened h.at h.last cells.a_value ∷ opens_view (take n hs) ≡ cells.opens (due (Slot.value prs ∷ ps))
      turned prs ps o = cc

  pub turn_entry : (s : Partial) → Stands es hs s → wait_view h.waits ≡ cells.in_map → wait_view new.waits ≡ cells.entry_key → Steps s token.entry es (set hs n new)
  turn_entry s w was is =
      let (prs, ps, e, st) = in_a_map s w was in
      (due (Slot.entry_key prs ∷ ps), ap (λ x. step_token x token.entry) e, (st.0, after cells.entry_key is ∙ turned prs ps st.1))
    where
      turned : (prs : Pairs) (ps : List Slot) → opened h.at h.last cells.in_map ∷ opens_view (take n hs) ≡ cells.opens (between (partial.in_map prs) ps)
          → opened h.at h.last cells.entry_key ∷ opens_view (take n hs) ≡ cells.opens (due (Slot.entry_key prs ∷ ps))
      turned prs ps o = cc

  pub turn_field : (s : Partial) (e : Frame) (k : List ℕ) (grown : List Frame) → Stands es hs s → wait_view h.waits ≡ cells.in_record → wait_view new.waits ≡ cells.field
      → frame_view e ≡ cell (cells.key (static_name k)) 1 → grown ≡ es ++ e ∷ [] → Steps s (token.field k) grown (set hs n new)
  turn_field s e k grown w was is key_is more =
      let b = before s cells.in_record was w in
      let (r, fs, ps, q) = the_record s (cells_of es) h.at h.last _ b in
      let st : Stood (cells_of es) (opened h.at h.last cells.in_record ∷ opens_view (take n hs)) (between (partial.in_record r fs) ps) = subst (Stood (cells_of es) (opened h.at h.last cells.in_record ∷ opens_view (take n hs))) q b in (
        due (partial.field_value r fs k ∷ ps),
        ap (λ x. step_token x (token.field k)) q,
        (
          ap cells_of more ∙ (cells-push es e ∙ (ap (λ x. x ++ frame_view e ∷ []) st.0 ∙ (ap (λ x. (slots_cells ps ++ (cell (record_label r) 0 ∷ flat_fields fs)) ++ x ∷ []) key_is ∙ append_more (slots_cells ps) (flat_fields fs) (record_label r)))),
          after cells.field is ∙ turned r fs ps st.1,
        ),
      )
    where
      append_more : (front inside : List Cell) (label : Label) → (front ++ (cell label 0 ∷ inside)) ++ cell (cells.key (static_name k)) 1 ∷ [] ≡ front ++ (cell label 0 ∷ (inside ++ cell (cells.key (static_name k)) 1 ∷ []))
      append_more front inside label = append_assoc front (cell label 0 ∷ inside) (cell (cells.key (static_name k)) 1 ∷ [])

      turned : (r : Head) (fs : Fields) (ps : List Slot) → opened h.at h.last cells.in_record ∷ opens_view (take n hs) ≡ cells.opens (between (partial.in_record r fs) ps)
          → opened h.at h.last cells.field ∷ opens_view (take n hs) ≡ cells.opens (due (partial.field_value r fs k ∷ ps))
      turned r fs ps o = cc

pub ended : (c : Compound) (ps : List Slot) → step_token (between c ps) token.finish ≡ Some (fill ps (closed c))
ended (partial.in_series r ts) ps = refl
ended (partial.in_map prs) ps = refl
ended (partial.in_record h fs) ps = refl

-- the answer of a call that takes the step
pub took : (s : Partial) (call : Token) (es : List Frame) (hs : List Opening) → Steps s call es hs → TakenTo (step_token s call) (Ok tt) es hs
took s call es hs (next, e, w) = subst (λ o. TakenTo o (Ok tt) es hs) (sym e) w

slots-length : (ps : List Slot) → length (slots_opens ps) ≡ length ps
slots-length [] = refl
slots-length (p ∷ ps) = ap suc (slots-length ps)

opens-length : (s : Partial) → length (cells.opens s) ≡ open_count s
opens-length (due ps) = slots-length ps
opens-length (between c ps) = let e = slots-length ps in omega (arith, e)
opens-length (done t) = refl

-- how many openings are open
pub counted : (failed : Bool) (es : List Frame) (hs : List Opening) (n : ℕ) → IsKept failed es hs → n ≡ length hs → IfSome (viewed failed es hs) (λ s. n ≡ open_count s)
counted true es hs n k e = tt
counted false es hs n k e =
    let openings : length (opens_view hs) ≡ length hs = simp (length-map, length-reverse) in
    e ∙ (sym openings ∙ (ap length k.1 ∙ opens-length (meaning es hs)))

-- after a call that was taken they are sound
pub sound_after : (o : Option Partial) (es : List Frame) (hs : List Opening) → TakenTo o (Ok tt) es hs → IsSound es hs
sound_after None es hs w = absurd w
sound_after (Some next) es hs w = (sound_from es hs next w).0

-- what a call comes to that keeps the limit and was taken
pub now_taken : (limit : Option ℕ) (old : Partial) (call : Token) (es : List Frame) (hs : List Opening) → fits limit (open_count old) call ≡ true → TakenTo (step_token old call) (Ok tt) es hs
    → TakesToken limit (Some old) call (Ok tt) (Some (meaning es hs))
now_taken limit old call es hs fit taken = subst (λ b. TakesStep (Some old) (cond b (step_token old call) None) (Ok tt) (Some (meaning es hs))) (sym fit) (go (step_token old call) taken)
  where
    go : (o : Option Partial) → TakenTo o (Ok tt) es hs → TakesStep (Some old) o (Ok tt) (Some (meaning es hs))
    go None w = absurd w
    go (Some next) w = ap Some (sound_from es hs next w).1
