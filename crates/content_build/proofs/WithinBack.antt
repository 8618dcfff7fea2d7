-- What the machine within a limit takes up to a tree keeps the limit.
use Rattle.std.proofs.Common.{◌≡◌, ℕ, suc, ◌≤◌, Bool, true, false, List, [], ◌∷◌, length, Option}
use Rattle.std.proofs.Common.{Some}
use Rattle.std.proofs.Common.{None, refl, sym, ap, subst, ◌∙◌, option_and_then}
use Rattle.std.proofs.lemmas.Bool.{lt-ltb, ltb-true}
use Rattle.content_tree.specs.Values.Text.{static_name}
use Rattle.content_tree.specs.Values.Tree as tree
use Rattle.content_tree.specs.Values.Tree.{Tree, Trees, no_trees, tree_then, Fields, no_fields}
use Rattle.content_tree.specs.Values.Tree.{field_then}
use Rattle.content_ser.specs.Grammar.Depth.{Keeps, ElementsKeep, MapItemsKeep, FieldsKeep}
use Rattle.content_ser.specs.Grammar.Spells as spells
use Rattle.content_ser.specs.Grammar.Spells.{Spells, SpellsElements, SpellsMapItems, SpellsFields}
use Rattle.content_ser.specs.Grammar.Spells.{MapItem, spells_leaf, spells_wrap, spells_series}
use Rattle.content_ser.specs.Grammar.Spells.{spells_map}
use Rattle.content_ser.specs.Grammar.Spells.{spells_record, elements_end, elements_more, items_end}
use Rattle.content_ser.specs.Grammar.Spells.{items_key, items_value, items_entry, fields_end}
use Rattle.content_ser.specs.Grammar.Spells.{fields_more}
use Rattle.content_ser.specs.Grammar.Token as token
use Rattle.content_ser.specs.Grammar.Token.{Token, leaf, wrap, open_series, open_map, open_record}
use Rattle.content_ser.specs.Grammar.Token.{finish, wrapped, item_call, series_tree, record_tree}
use Rattle.content_ser.specs.Grammar.Token.{ItemCall}
use Rattle.content_build.specs.Partial.{Partial, Slot, Compound, due, between, done, in_series, in_map}
use Rattle.content_build.specs.Partial.{in_record, child, element, entry_key, entry_value}
use Rattle.content_build.specs.Partial.{field_value, fill, step_token, next_item, push_tree}
use Rattle.content_build.specs.Partial.{push_pair, push_field, set_last}
use Rattle.content_build.proofs.Forward.{append_trees, append_fields, append_trees-nil, after}
use Rattle.content_build.proofs.Forward.{append_trees-push, append_fields-nil, append_fields-push}
use Rattle.content_build.proofs.Forward.{after-none}
use Rattle.content_build.proofs.Within.{has_room, roomy, run_roomy}

-- what comes before the rest spells the tree, which keeps the limit at this depth
abbrev pub SpellsKept : ℕ → ℕ → List Token → Tree → List Token → Type 0
SpellsKept limit depth calls t rest = (s : Spells calls t rest) × Keeps s limit depth

-- the calls before the rest finish the compound as the tree, the items at this depth
abbrev pub Ends : ℕ → ℕ → Compound → List Token → Tree → List Token → Type 0
Ends limit depth (in_series r front) calls u rest = (ts : Trees) × (es : SpellsElements (item_call r) calls ts rest) × ElementsKeep es limit depth × (series_tree r (append_trees front ts) ≡ u)
Ends limit depth (in_map front) calls u rest = (items : List MapItem) × (is : SpellsMapItems calls items rest) × MapItemsKeep is limit depth × (tree.map (after front items) ≡ u)
Ends limit depth (in_record r front) calls u rest = (fs : Fields) × (more : SpellsFields calls fs rest) × FieldsKeep more limit depth × (record_tree r (append_fields front fs) ≡ u)

-- the same with these slots around the compound
abbrev pub EndsIn : ℕ → List Slot → Compound → List Token → Tree → List Token → Type 0
EndsIn limit ps c calls u rest = Ends limit (suc (suc (length ps))) c calls u rest

-- with u in the innermost slot, the calls finish the whole as t
abbrev pub Fills : ℕ → List Slot → Tree → List Token → Tree → Type 0
Fills limit [] u calls t = (calls ≡ []) × (u ≡ t)
Fills limit (child w ∷ ps) u calls t = Fills limit ps (wrapped w u) calls t
Fills limit (element r ts ∷ ps) u calls t = (w : Tree) × (rest : List Token) × EndsIn limit ps (in_series r (push_tree ts u)) calls w rest × Fills limit ps w rest t
Fills limit (Slot.key prs ∷ ps) u calls t = (w : Tree) × (rest : List Token) × EndsIn limit ps (in_map (push_pair prs u tree.unit)) calls w rest × Fills limit ps w rest t
Fills limit (Slot.value prs ∷ ps) u calls t = (w : Tree) × (rest : List Token) × EndsIn limit ps (in_map (set_last prs u)) calls w rest × Fills limit ps w rest t
Fills limit (entry_key prs ∷ ps) u calls t = (v : Tree) × (mid : List Token) × SpellsKept limit (suc (suc (length ps))) calls v mid × ((w : Tree) × (rest : List Token) × EndsIn limit ps (in_map (push_pair prs u v)) mid w rest × Fills limit ps w rest t)
Fills limit (entry_value prs k ∷ ps) u calls t = (w : Tree) × (rest : List Token) × EndsIn limit ps (in_map (push_pair prs k u)) calls w rest × Fills limit ps w rest t
Fills limit (field_value r fs k ∷ ps) u calls t = (w : Tree) × (rest : List Token) × EndsIn limit ps (in_record r (push_field fs (static_name k) u)) calls w rest × Fills limit ps w rest t

abbrev pub Completes : ℕ → Partial → List Token → Tree → Type 0
Completes limit (due ps) calls t = (u : Tree) × (rest : List Token) × SpellsKept limit (suc (length ps)) calls u rest × Fills limit ps u rest t
Completes limit (between c ps) calls t = (w : Tree) × (rest : List Token) × EndsIn limit ps c calls w rest × Fills limit ps w rest t
Completes limit (done u) calls t = (calls ≡ []) × (u ≡ t)

abbrev pub CompletesIf : ℕ → Option Partial → List Token → Tree → Type 0
CompletesIf limit None calls t = ⊥
CompletesIf limit (Some s) calls t = Completes limit s calls t

fills : (limit : ℕ) (ps : List Slot) (u : Tree) (calls : List Token) (t : Tree) → Completes limit (fill ps u) calls t → Fills limit ps u calls t
fills limit [] u calls t h = h
fills limit (child w ∷ ps) u calls t h = fills limit ps (wrapped w u) calls t h
fills limit (element r ts ∷ ps) u calls t h = h
fills limit (Slot.key prs ∷ ps) u calls t h = h
fills limit (Slot.value prs ∷ ps) u calls t h = h
fills limit (entry_key prs ∷ ps) u calls t h = h
fills limit (entry_value prs k ∷ ps) u calls t h = h
fills limit (field_value r fs k ∷ ps) u calls t h = h

item-next : (limit : ℕ) (a b : ItemCall) (s : Partial) (calls : List Token) (t : Tree) → CompletesIf limit (next_item a b s) calls t → (a ≡ b) × Completes limit s calls t
item-next limit token.element token.element s calls t h = (refl, h)
item-next limit token.tuple_field token.tuple_field s calls t h = (refl, h)
item-next limit _ _ s calls t h = absurd h

-- the depth of the tree that is due
room : (limit : ℕ) (ps : List Slot) → has_room (Some limit) (due ps) ≡ true → suc (length ps) ≤ limit
room limit ps e = ltb-true (length ps) limit e

back : (limit : ℕ) (s : Partial) (call : Token) (calls : List Token) (t : Tree) → has_room (Some limit) s ≡ true → CompletesIf limit (step_token s call) calls t → Completes limit s (call ∷ calls) t
back limit (done u) call calls t r h = absurd h
back limit (due ps) (leaf u) calls t r h = (u, calls, (spells_leaf, room limit ps r), fills limit ps u calls t h)
back limit (due ps) (wrap w) calls t r h = (wrapped w h.0, h.1, (spells_wrap h.2.0, (room limit ps r, h.2.1)), h.3)
back limit (due ps) (open_series a) calls t r h =
    (h.0, h.1, subst (λ u. SpellsKept limit (suc (length ps)) (open_series a ∷ calls) u h.1) h.2.3 (spells_series h.2.1, (room limit ps r, h.2.2)), h.3)
back limit (due ps) open_map calls t r h =
    (h.0, h.1, subst (λ u. SpellsKept limit (suc (length ps)) (open_map ∷ calls) u h.1) (ap tree.map (sym (after-none h.2.0)) ∙ h.2.3) (spells_map h.2.1, (room limit ps r, h.2.2)), h.3)
back limit (due ps) (open_record a) calls t r h =
    (h.0, h.1, subst (λ u. SpellsKept limit (suc (length ps)) (open_record a ∷ calls) u h.1) h.2.3 (spells_record h.2.1, (room limit ps r, h.2.2)), h.3)
back limit (between (in_series a front) ps) (token.item m) calls t r h =
    let n = item-next limit (item_call a) m (due (element a front ∷ ps)) calls t h in
    let g = n.1 in
    let f = g.3 in
    let more : (es : SpellsElements (item_call a) (token.item (item_call a) ∷ calls) (tree_then g.0 f.2.0) f.1) × ElementsKeep es limit (suc (suc (length ps))) = (elements_more g.2.0 f.2.1, (g.2.1, f.2.2)) in
    let named = subst (λ x. (es : SpellsElements (item_call a) (token.item x ∷ calls) (tree_then g.0 f.2.0) f.1) × ElementsKeep es limit (suc (suc (length ps)))) n.0 more in
    (f.0, f.1, (tree_then g.0 f.2.0, named.0, named.1, ap (series_tree a) (sym (append_trees-push front g.0 f.2.0)) ∙ f.2.3), f.3)
back limit (between (in_map front) ps) token.key calls t r h =
    let f = h.3 in (f.0, f.1, (spells.key h.0 ∷ f.2.0, items_key h.2.0 f.2.1, (h.2.1, f.2.2), f.2.3), f.3)
back limit (between (in_map front) ps) token.value calls t r h =
    let f = h.3 in (f.0, f.1, (spells.value h.0 ∷ f.2.0, items_value h.2.0 f.2.1, (h.2.1, f.2.2), f.2.3), f.3)
back limit (between (in_map front) ps) token.entry calls t r h =
    let e = h.3 in let f = e.3 in (f.0, f.1, (spells.entry h.0 e.0 ∷ f.2.0, items_entry h.2.0 e.2.0 f.2.1, (h.2.1, e.2.1, f.2.2), f.2.3), f.3)
back limit (between (in_record a front) ps) (token.field k) calls t r h =
    let f = h.3 in
    (f.0, f.1, (field_then (static_name k) h.0 f.2.0, fields_more h.2.0 f.2.1, (h.2.1, f.2.2), ap (record_tree a) (sym (append_fields-push front (static_name k) h.0 f.2.0)) ∙ f.2.3), f.3)
back limit (between (in_series a front) ps) finish calls t r h = (series_tree a front, calls, (no_trees, elements_end, tt, ap (series_tree a) (append_trees-nil front)), fills limit ps _ calls t h)
back limit (between (in_map front) ps) finish calls t r h = (tree.map front, calls, ([], items_end, tt, refl), fills limit ps _ calls t h)
back limit (between (in_record a front) ps) finish calls t r h =
    (record_tree a front, calls, (no_fields, fields_end, tt, ap (record_tree a) (append_fields-nil front)), fills limit ps _ calls t h)
back limit _ _ calls t r h = absurd h

Some-inj : {A : Type 0} {x y : A} → Some x ≡ Some y → x ≡ y
Some-inj e = cc

onward : (limit : ℕ) (o : Option Partial) (calls : List Token) (t : Tree) → ((s : Partial) → has_room (Some limit) s ≡ true → run_roomy (Some limit) s calls ≡ Some (done t) → Completes limit s calls t)
    → option_and_then (λ n. run_roomy (Some limit) n calls) (option_and_then (roomy (Some limit)) o) ≡ Some (done t) → CompletesIf limit o calls t
onward limit None calls t ih e = absurd (cc)
onward limit (Some s) calls t ih e = by_room (has_room (Some limit) s) refl e
  where
    by_room : (b : Bool) → has_room (Some limit) s ≡ b → option_and_then (λ n. run_roomy (Some limit) n calls) (roomy (Some limit) s) ≡ Some (done t) → Completes limit s calls t
    by_room true r f = ih s r (rw r at f)
    by_room false r f = absurd (let g = rw r at f in cc)

pub completes : (calls : List Token) (limit : ℕ) (s : Partial) (t : Tree) → has_room (Some limit) s ≡ true → run_roomy (Some limit) s calls ≡ Some (done t) → Completes limit s calls t
completes [] limit s t r e = subst (λ u. Completes limit u [] t) (sym (Some-inj e)) (refl, refl)
completes (call ∷ calls) limit s t r e = back limit s call calls t r (onward limit (step_token s call) calls t (λ n. completes calls limit n t) e)

-- from no call to a whole tree
pub kept_from_run : (calls : List Token) (limit : ℕ) (t : Tree) → 1 ≤ limit → run_roomy (Some limit) (due []) calls ≡ Some (done t) → SpellsKept limit 1 calls t []
kept_from_run calls limit t l e =
    let h = completes calls limit (due []) t (lt-ltb 0 limit l) e in
    subst (λ u. SpellsKept limit 1 calls u []) h.3.1 (subst (λ r. SpellsKept limit 1 calls h.0 r) h.3.0 h.2)
