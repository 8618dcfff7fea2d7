-- The machine takes what spells a tree, and is filled with the tree.
use Rattle.std.proofs.Common.{◌≡◌, List, [], ◌∷◌, Option, Some, refl, sym, ap, ◌∙◌, option_and_then}
use Rattle.content_tree.specs.Values.Tree as tree
use Rattle.content_tree.specs.Values.Tree.{Tree, Trees, no_trees, tree_then, Pairs, no_pairs}
use Rattle.content_tree.specs.Values.Tree.{pair_then, Fields, no_fields, field_then}
use Rattle.content_tree.specs.Values.Text.{Text, static_name}
use Rattle.content_ser.specs.Grammar.Token as token
use Rattle.content_ser.specs.Grammar.Token.{Token}
use Rattle.content_ser.specs.Grammar.Token.{Series, item_call}
use Rattle.content_ser.specs.Grammar.Token.{series_tree, record_tree, ItemCall}
use Rattle.content_ser.specs.Calls.Head.{Head}
use Rattle.content_ser.specs.Grammar.Spells as spells
use Rattle.content_ser.specs.Grammar.Spells.{Spells, SpellsElements, SpellsMapItems, SpellsFields}
use Rattle.content_ser.specs.Grammar.Spells.{MapItem, pairs, value_among, spells_leaf, spells_wrap}
use Rattle.content_ser.specs.Grammar.Spells.{spells_series, spells_map, spells_record, elements_end}
use Rattle.content_ser.specs.Grammar.Spells.{elements_more, items_end, items_key, items_value}
use Rattle.content_ser.specs.Grammar.Spells.{items_entry, fields_end, fields_more}
use Rattle.content_build.specs.Partial.{Partial, Slot, due, between, in_series, in_map, in_record}
use Rattle.content_build.specs.Partial.{child, element, entry_key, entry_value, field_value, fill}
use Rattle.content_build.specs.Partial.{step_token, next_item, push_tree, push_pair, push_field}
use Rattle.content_build.specs.Partial.{set_last}

-- calls by their kinds, one after another
abbrev pub run_tokens : Partial → List Token → Option Partial
run_tokens s [] = Some s
run_tokens s (call ∷ calls) = option_and_then (λ next. run_tokens next calls) (step_token s call)

abbrev pub append_trees : Trees → Trees → Trees
append_trees no_trees us = us
append_trees (tree_then t ts) us = tree_then t (append_trees ts us)

abbrev pub append_pairs : Pairs → Pairs → Pairs
append_pairs no_pairs qs = qs
append_pairs (pair_then k v ps) qs = pair_then k v (append_pairs ps qs)

abbrev pub append_fields : Fields → Fields → Fields
append_fields no_fields gs = gs
append_fields (field_then k t fs) gs = field_then k t (append_fields fs gs)

pub append_trees-nil : (ts : Trees) → append_trees ts no_trees ≡ ts
append_trees-nil no_trees = refl
append_trees-nil (tree_then t ts) = ap (tree_then t) (append_trees-nil ts)

pub append_trees-push : (ts : Trees) (u : Tree) (us : Trees) → append_trees (push_tree ts u) us ≡ append_trees ts (tree_then u us)
append_trees-push no_trees u us = refl
append_trees-push (tree_then t ts) u us = ap (tree_then t) (append_trees-push ts u us)

pub append_fields-nil : (fs : Fields) → append_fields fs no_fields ≡ fs
append_fields-nil no_fields = refl
append_fields-nil (field_then k t fs) = ap (field_then k t) (append_fields-nil fs)

pub append_fields-push : (fs : Fields) (k : Text) (u : Tree) (gs : Fields) → append_fields (push_field fs k u) gs ≡ append_fields fs (field_then k u gs)
append_fields-push no_fields k u gs = refl
append_fields-push (field_then l t fs) k u gs = ap (field_then l t) (append_fields-push fs k u gs)

pub append_pairs-push : (ps : Pairs) (k v : Tree) (qs : Pairs) → append_pairs (push_pair ps k v) qs ≡ append_pairs ps (pair_then k v qs)
append_pairs-push no_pairs k v qs = refl
append_pairs-push (pair_then a b ps) k v qs = ap (pair_then a b) (append_pairs-push ps k v qs)

pub push_pair-append : (ps : Pairs) (k v : Tree) → push_pair ps k v ≡ append_pairs ps (pair_then k v no_pairs)
push_pair-append no_pairs k v = refl
push_pair-append (pair_then a b ps) k v = ap (pair_then a b) (push_pair-append ps k v)

pub set_last-push : (ps : Pairs) (k d v : Tree) → set_last (push_pair ps k d) v ≡ push_pair ps k v
set_last-push no_pairs k d v = refl
set_last-push (pair_then a b no_pairs) k d v = refl
set_last-push (pair_then a b (pair_then c e ps)) k d v = ap (pair_then a b) (set_last-push (pair_then c e ps) k d v)

-- the pairs in front, after these items
abbrev pub after : Pairs → List MapItem → Pairs
after front [] = front
after front (spells.key k ∷ items) = after (push_pair front k tree.unit) items
after front (spells.value v ∷ items) = after (set_last front v) items
after front (spells.entry k v ∷ items) = after (push_pair front k v) items

pub after-push : (items : List MapItem) (front : Pairs) (k d : Tree) → after (push_pair front k d) items ≡ append_pairs front (pair_then k (value_among d items) (pairs items))
after-push [] front k d = push_pair-append front k d
after-push (spells.value v ∷ items) front k d = ap (λ p. after p items) (set_last-push front k d v) ∙ after-push items front k v
after-push (spells.key l ∷ items) front k d = after-push items (push_pair front k d) l tree.unit ∙ append_pairs-push front k d _
after-push (spells.entry l v ∷ items) front k d = after-push items (push_pair front k d) l v ∙ append_pairs-push front k d _

pub after-none : (items : List MapItem) → after no_pairs items ≡ pairs items
after-none [] = refl
after-none (spells.value v ∷ items) = after-none items
after-none (spells.key l ∷ items) = after-push items no_pairs l tree.unit
after-none (spells.entry l v ∷ items) = after-push items no_pairs l v

pub next-same : (m : ItemCall) (s : Partial) → next_item m m s ≡ Some s
next-same token.element s = refl
next-same token.tuple_field s = refl

item-taken : (r : Series) (m : ItemCall) (s : Partial) (calls : List Token) → m ≡ item_call r → option_and_then (λ n. run_tokens n calls) (next_item (item_call r) m s) ≡ run_tokens s calls
item-taken r m s calls e = ap (λ x. option_and_then (λ n. run_tokens n calls) (next_item (item_call r) x s)) e ∙ ap (λ o. option_and_then (λ n. run_tokens n calls) o) (next-same (item_call r) s)

mutual
  pub run-spells : {calls rest : List Token} {t : Tree} → Spells calls t rest → (ps : List Slot) → run_tokens (due ps) calls ≡ run_tokens (fill ps t) rest
  run-spells spells_leaf ps = refl
  run-spells (spells_wrap {w = w} s) ps = run-spells s (child w ∷ ps)
  run-spells (spells_series {r = r} es) ps = run-elements es r refl no_trees ps
  run-spells {rest = rest} (spells_map {items = items} is) ps = run-items is no_pairs ps ∙ ap (λ prs. run_tokens (fill ps (tree.map prs)) rest) (after-none items)
  run-spells (spells_record {h = h} fs) ps = run-fields fs h no_fields ps

  pub run-elements : {m : ItemCall} {calls rest : List Token} {ts : Trees} → SpellsElements m calls ts rest → (r : Series) → m ≡ item_call r → (front : Trees) (ps : List Slot) → run_tokens (between (in_series r front) ps) calls ≡ run_tokens (fill ps (series_tree r (append_trees front ts))) rest
  run-elements {rest = rest} elements_end r e front ps = ap (λ us. run_tokens (fill ps (series_tree r us)) rest) (sym (append_trees-nil front))
  run-elements {m = m} {rest = rest} (elements_more {calls = calls} {t = t} {ts = ts} s es) r e front ps =
      item-taken r m (due (element r front ∷ ps)) calls e
      ∙ (run-spells s (element r front ∷ ps) ∙ (run-elements es r e (push_tree front t) ps ∙ ap (λ us. run_tokens (fill ps (series_tree r us)) rest) (append_trees-push front t ts)))

  pub run-items : {calls rest : List Token} {items : List MapItem} → SpellsMapItems calls items rest → (front : Pairs) (ps : List Slot) → run_tokens (between (in_map front) ps) calls ≡ run_tokens (fill ps (tree.map (after front items))) rest
  run-items items_end front ps = refl
  run-items (items_key {t = t} s is) front ps = run-spells s (Slot.key front ∷ ps) ∙ run-items is (push_pair front t tree.unit) ps
  run-items (items_value {t = t} s is) front ps = run-spells s (Slot.value front ∷ ps) ∙ run-items is (set_last front t) ps
  run-items (items_entry {k = k} {v = v} sk sv is) front ps =
      run-spells sk (entry_key front ∷ ps) ∙ (run-spells sv (entry_value front k ∷ ps) ∙ run-items is (push_pair front k v) ps)

  pub run-fields : {calls rest : List Token} {fs : Fields} → SpellsFields calls fs rest → (r : Head) (front : Fields) (ps : List Slot) → run_tokens (between (in_record r front) ps) calls ≡ run_tokens (fill ps (record_tree r (append_fields front fs))) rest
  run-fields {rest = rest} fields_end r front ps = ap (λ us. run_tokens (fill ps (record_tree r us)) rest) (sym (append_fields-nil front))
  run-fields {rest = rest} (fields_more {k = k} {t = t} {fs = fs} s more) r front ps =
      run-spells s (field_value r front k ∷ ps) ∙ (run-fields more r (push_field front (static_name k) t) ps ∙ ap (λ us. run_tokens (fill ps (record_tree r us)) rest) (append_fields-push front (static_name k) t fs))
