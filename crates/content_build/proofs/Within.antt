-- The machine within a limit takes what keeps the limit. Here the limit is looked at after each step: Limits.antt says that this is the same.
use Rattle.std.proofs.Common.{◌≡◌, ℕ, suc, ◌≤◌, ◌<◌, nat_lt, Bool, true, cond, List, ◌∷◌, []}
use Rattle.std.proofs.Common.{length, Option}
use Rattle.std.proofs.Common.{Some, None, refl, sym, ap, ◌∙◌, option_and_then, arith}
use Rattle.std.proofs.lemmas.Bool.{lt-ltb, ltb-true}
use Rattle.content_tree.specs.Values.Text.{static_name}
use Rattle.content_tree.specs.Values.Tree as tree
use Rattle.content_tree.specs.Values.Tree.{Tree, Trees, no_trees, Pairs, no_pairs, Fields}
use Rattle.content_tree.specs.Values.Tree.{no_fields}
use Rattle.content_ser.specs.Calls.Head.{Head}
use Rattle.content_ser.specs.Grammar.Depth.{Keeps, ElementsKeep, MapItemsKeep, FieldsKeep}
use Rattle.content_ser.specs.Grammar.Spells.{Spells, SpellsElements, SpellsMapItems, SpellsFields}
use Rattle.content_ser.specs.Grammar.Spells.{MapItem, spells_leaf, spells_wrap, spells_series}
use Rattle.content_ser.specs.Grammar.Spells.{spells_map}
use Rattle.content_ser.specs.Grammar.Spells.{spells_record, elements_end, elements_more, items_end}
use Rattle.content_ser.specs.Grammar.Spells.{items_key, items_value, items_entry, fields_end}
use Rattle.content_ser.specs.Grammar.Spells.{fields_more}
use Rattle.content_ser.specs.Grammar.Token.{Token, Series, ItemCall, item_call, wrapped, series_tree}
use Rattle.content_ser.specs.Grammar.Token.{record_tree}
use Rattle.content_build.specs.Partial.{Partial, Slot, due, between, done, in_series, in_map}
use Rattle.content_build.specs.Partial.{in_record}
use Rattle.content_build.specs.Partial.{child, element, entry_key, entry_value, field_value, fill}
use Rattle.content_build.specs.Partial.{next_item, step_token, push_tree, push_pair, push_field}
use Rattle.content_build.specs.Partial.{set_last}
use Rattle.content_build.proofs.Forward.{append_trees, append_fields, append_trees-nil, after}
use Rattle.content_build.proofs.Forward.{append_trees-push, append_fields-nil, append_fields-push}
use Rattle.content_build.proofs.Forward.{after-none, next-same}

-- whether a tree may be inside this many others
abbrev pub allows : Option ℕ → ℕ → Bool
allows None count = true
allows (Some limit) count = nat_lt count limit

-- whether the tree that is due, or that is open, keeps the limit
abbrev pub has_room : Option ℕ → Partial → Bool
has_room limit (due ps) = allows limit (length ps)
has_room limit (between c ps) = allows limit (length ps)
has_room limit (done t) = true

-- this partial tree, if it has room
abbrev pub roomy : Option ℕ → Partial → Option Partial
roomy limit s = cond (has_room limit s) (Some s) None

-- a call by its token, within the limit
abbrev pub step_roomy : Option ℕ → Partial → Token → Option Partial
step_roomy limit s call = option_and_then (roomy limit) (step_token s call)

-- calls by their tokens, one after another, within the limit
abbrev pub run_roomy : Option ℕ → Partial → List Token → Option Partial
run_roomy limit s [] = Some s
run_roomy limit s (call ∷ calls) = option_and_then (λ next. run_roomy limit next calls) (step_roomy limit s call)

pub allows-less : (limit : Option ℕ) (m n : ℕ) → m ≤ n → allows limit n ≡ true → allows limit m ≡ true
allows-less None m n h e = refl
allows-less (Some limit) m n h e = let l : n < limit = ltb-true n limit e in lt-ltb m limit (omega arith)

pub one-less : (limit : Option ℕ) (ps : List Slot) → allows limit (suc (length ps)) ≡ true → allows limit (length ps) ≡ true
one-less limit ps h = allows-less limit (length ps) (suc (length ps)) (omega arith) h

pub keeps-depth : {calls rest : List Token} {t : Tree} (s : Spells calls t rest) (limit depth : ℕ) → Keeps s limit depth → depth ≤ limit
keeps-depth spells_leaf limit depth k = k
keeps-depth (spells_wrap s) limit depth k = k.0
keeps-depth (spells_series es) limit depth k = k.0
keeps-depth (spells_map is) limit depth k = k.0
keeps-depth (spells_record fs) limit depth k = k.0

-- where a tree may be, what it fills has room
pub room-fill : (limit : Option ℕ) (ps : List Slot) (u : Tree) → allows limit (length ps) ≡ true → has_room limit (fill ps u) ≡ true
room-fill limit [] u h = refl
room-fill limit (child w ∷ ps) u h = room-fill limit ps (wrapped w u) (one-less limit ps h)
room-fill limit (element r ts ∷ ps) u h = one-less limit ps h
room-fill limit (Slot.key prs ∷ ps) u h = one-less limit ps h
room-fill limit (Slot.value prs ∷ ps) u h = one-less limit ps h
room-fill limit (entry_key prs ∷ ps) u h = h
room-fill limit (entry_value prs k ∷ ps) u h = one-less limit ps h
room-fill limit (field_value r fs k ∷ ps) u h = one-less limit ps h

pub pass : (limit : Option ℕ) (calls : List Token) (n : Partial) → has_room limit n ≡ true → option_and_then (λ m. run_roomy limit m calls) (roomy limit n) ≡ run_roomy limit n calls
pass limit calls n e = rw e refl

pass-item : (limit : Option ℕ) (r : Series) (m : ItemCall) (n : Partial) (calls : List Token) → m ≡ item_call r → has_room limit n ≡ true
    → option_and_then (λ k. run_roomy limit k calls) (option_and_then (roomy limit) (next_item (item_call r) m n)) ≡ run_roomy limit n calls
pass-item limit r m n calls e room =
    let go : Option Partial → Option Partial = λ o. option_and_then (λ k. run_roomy limit k calls) (option_and_then (roomy limit) o) in
    ap (λ x. go (next_item (item_call r) x n)) e ∙ (ap go (next-same (item_call r) n) ∙ pass limit calls n room)

-- a tree inside this many others fits
fits : (limit count : ℕ) → suc count ≤ limit → nat_lt count limit ≡ true
fits limit count h = lt-ltb count limit h

mutual
  pub within-spells : {calls rest : List Token} {t : Tree} (s : Spells calls t rest) (limit : ℕ) (ps : List Slot) → Keeps s limit (suc (length ps)) → run_roomy (Some limit) (due ps) calls ≡ run_roomy (Some limit) (fill ps t) rest
  within-spells {rest = rest} (spells_leaf {t = t}) limit ps k = pass (Some limit) rest (fill ps t) (room-fill (Some limit) ps t (fits limit (length ps) k))
  within-spells (spells_wrap {w = w} {calls = calls} s) limit ps k =
      pass (Some limit) calls (due (child w ∷ ps)) (fits limit (suc (length ps)) (keeps-depth s limit (suc (suc (length ps))) k.1)) ∙ within-spells s limit (child w ∷ ps) k.1
  within-spells (spells_series {r = r} {calls = calls} es) limit ps k =
      pass (Some limit) calls (between (in_series r no_trees) ps) (fits limit (length ps) k.0) ∙ within-elements es limit r refl no_trees ps k.0 k.1
  within-spells {rest = rest} (spells_map {calls = calls} {items = items} is) limit ps k =
      pass (Some limit) calls (between (in_map no_pairs) ps) (fits limit (length ps) k.0) ∙ (within-items is limit no_pairs ps k.0 k.1 ∙ ap (λ prs. run_roomy (Some limit) (fill ps (tree.map prs)) rest) (after-none items))
  within-spells (spells_record {h = h} {calls = calls} fs) limit ps k =
      pass (Some limit) calls (between (in_record h no_fields) ps) (fits limit (length ps) k.0) ∙ within-fields fs limit h no_fields ps k.0 k.1

  pub within-elements : {m : ItemCall} {calls rest : List Token} {ts : Trees} (es : SpellsElements m calls ts rest) (limit : ℕ) (r : Series) → m ≡ item_call r → (front : Trees) (ps : List Slot) → suc (length ps) ≤ limit → ElementsKeep es limit (suc (suc (length ps)))
      → run_roomy (Some limit) (between (in_series r front) ps) calls ≡ run_roomy (Some limit) (fill ps (series_tree r (append_trees front ts))) rest
  within-elements {rest = rest} elements_end limit r e front ps h k =
      pass (Some limit) rest (fill ps (series_tree r front)) (room-fill (Some limit) ps (series_tree r front) (fits limit (length ps) h)) ∙ ap (λ us. run_roomy (Some limit) (fill ps (series_tree r us)) rest) (sym (append_trees-nil front))
  within-elements {m = m} {rest = rest} (elements_more {calls = calls} {t = t} {ts = ts} s es) limit r e front ps h k =
      pass-item (Some limit) r m (due (element r front ∷ ps)) calls e (fits limit (suc (length ps)) (keeps-depth s limit (suc (suc (length ps))) k.0))
      ∙ (within-spells s limit (element r front ∷ ps) k.0 ∙ (within-elements es limit r e (push_tree front t) ps h k.1 ∙ ap (λ us. run_roomy (Some limit) (fill ps (series_tree r us)) rest) (append_trees-push front t ts)))

  pub within-items : {calls rest : List Token} {items : List MapItem} (is : SpellsMapItems calls items rest) (limit : ℕ) (front : Pairs) (ps : List Slot) → suc (length ps) ≤ limit → MapItemsKeep is limit (suc (suc (length ps)))
      → run_roomy (Some limit) (between (in_map front) ps) calls ≡ run_roomy (Some limit) (fill ps (tree.map (after front items))) rest
  within-items {rest = rest} items_end limit front ps h k = pass (Some limit) rest (fill ps (tree.map front)) (room-fill (Some limit) ps (tree.map front) (fits limit (length ps) h))
  within-items (items_key {calls = calls} {t = t} s is) limit front ps h k =
      pass (Some limit) calls (due (Slot.key front ∷ ps)) (fits limit (suc (length ps)) (keeps-depth s limit (suc (suc (length ps))) k.0))
      ∙ (within-spells s limit (Slot.key front ∷ ps) k.0 ∙ within-items is limit (push_pair front t tree.unit) ps h k.1)
  within-items (items_value {calls = calls} {t = t} s is) limit front ps h k =
      pass (Some limit) calls (due (Slot.value front ∷ ps)) (fits limit (suc (length ps)) (keeps-depth s limit (suc (suc (length ps))) k.0))
      ∙ (within-spells s limit (Slot.value front ∷ ps) k.0 ∙ within-items is limit (set_last front t) ps h k.1)
  within-items (items_entry {calls = calls} {k = a} {v = v} sk sv is) limit front ps h k =
      pass (Some limit) calls (due (entry_key front ∷ ps)) (fits limit (suc (length ps)) (keeps-depth sk limit (suc (suc (length ps))) k.0))
      ∙ (within-spells sk limit (entry_key front ∷ ps) k.0 ∙ (within-spells sv limit (entry_value front a ∷ ps) k.1 ∙ within-items is limit (push_pair front a v) ps h k.2))

  pub within-fields : {calls rest : List Token} {fs : Fields} (more : SpellsFields calls fs rest) (limit : ℕ) (r : Head) (front : Fields) (ps : List Slot) → suc (length ps) ≤ limit → FieldsKeep more limit (suc (suc (length ps)))
      → run_roomy (Some limit) (between (in_record r front) ps) calls ≡ run_roomy (Some limit) (fill ps (record_tree r (append_fields front fs))) rest
  within-fields {rest = rest} fields_end limit r front ps h k =
      pass (Some limit) rest (fill ps (record_tree r front)) (room-fill (Some limit) ps (record_tree r front) (fits limit (length ps) h)) ∙ ap (λ us. run_roomy (Some limit) (fill ps (record_tree r us)) rest) (sym (append_fields-nil front))
  within-fields {rest = rest} (fields_more {calls = calls} {k = l} {t = t} {fs = fs} s more) limit r front ps h k =
      pass (Some limit) calls (due (field_value r front l ∷ ps)) (fits limit (suc (length ps)) (keeps-depth s limit (suc (suc (length ps))) k.0))
      ∙ (within-spells s limit (field_value r front l ∷ ps) k.0 ∙ (within-fields more limit r (push_field front (static_name l) t) ps h k.1 ∙ ap (λ us. run_roomy (Some limit) (fill ps (record_tree r us)) rest) (append_fields-push front (static_name l) t fs)))
