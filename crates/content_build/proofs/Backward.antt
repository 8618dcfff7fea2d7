-- What the machine takes up to a tree spells that tree.
use Rattle.std.proofs.Common.{◌≡◌, List, [], ◌∷◌, Option, Some, None, refl, sym, ap, subst, ◌∙◌}
use Rattle.std.proofs.Common.{option_and_then}
use Rattle.content_tree.specs.Values.Tree as tree
use Rattle.content_tree.specs.Values.Tree.{Tree, Trees, no_trees, tree_then, Pairs, no_pairs}
use Rattle.content_tree.specs.Values.Tree.{pair_then, Fields, no_fields, field_then}
use Rattle.content_tree.specs.Values.Text.{static_name}
use Rattle.content_ser.specs.Grammar.Token as token
use Rattle.content_ser.specs.Calls.Event.{Event}
use Rattle.content_ser.specs.Grammar.Token.{Token, tokens, leaf, wrap, open_series, open_map}
use Rattle.content_ser.specs.Grammar.Token.{open_record, finish, Wrap, wrapped, Series, item_call}
use Rattle.content_ser.specs.Grammar.Token.{series_tree, record_tree, ItemCall}
use Rattle.content_ser.specs.Grammar.Spells as spells
use Rattle.content_ser.specs.Grammar.Spells.{Spells, SpellsElements, SpellsMapItems, SpellsFields}
use Rattle.content_ser.specs.Grammar.Spells.{MapItem, pairs, value_among, spells_leaf, spells_wrap}
use Rattle.content_ser.specs.Grammar.Spells.{spells_series, spells_map, spells_record, elements_end}
use Rattle.content_ser.specs.Grammar.Spells.{elements_more, items_end, items_key, items_value}
use Rattle.content_ser.specs.Grammar.Spells.{items_entry, fields_end, fields_more}
use Rattle.content_build.specs.Partial.{Partial, Slot, Compound, due, between, done, in_series, in_map}
use Rattle.content_build.specs.Partial.{in_record, child, element, entry_key, entry_value}
use Rattle.content_build.specs.Partial.{field_value, fill, step_token, run, step, next_item, fresh}
use Rattle.content_build.specs.Partial.{push_tree, push_pair, push_field, set_last}
use Rattle.content_build.proofs.Forward.{run_tokens, append_trees, append_fields, append_trees-nil}
use Rattle.content_build.proofs.Forward.{append_trees-push, append_fields-nil, append_fields-push}
use Rattle.content_build.proofs.Forward.{after, after-none}

-- the calls before the rest finish the compound as the tree
abbrev pub Ends : Compound → List Token → Tree → List Token → Type 0
Ends (in_series r front) calls u rest = (ts : Trees) × SpellsElements (item_call r) calls ts rest × (series_tree r (append_trees front ts) ≡ u)
Ends (in_map front) calls u rest = (items : List MapItem) × SpellsMapItems calls items rest × (tree.map (after front items) ≡ u)
Ends (in_record r front) calls u rest = (fs : Fields) × SpellsFields calls fs rest × (record_tree r (append_fields front fs) ≡ u)

-- with u in the innermost slot, the calls finish the whole as t
abbrev pub Fills : List Slot → Tree → List Token → Tree → Type 0
Fills [] u calls t = (calls ≡ []) × (u ≡ t)
Fills (child w ∷ ps) u calls t = Fills ps (wrapped w u) calls t
Fills (element r ts ∷ ps) u calls t = (w : Tree) × (rest : List Token) × Ends (in_series r (push_tree ts u)) calls w rest × Fills ps w rest t
Fills (Slot.key prs ∷ ps) u calls t = (w : Tree) × (rest : List Token) × Ends (in_map (push_pair prs u tree.unit)) calls w rest × Fills ps w rest t
Fills (Slot.value prs ∷ ps) u calls t = (w : Tree) × (rest : List Token) × Ends (in_map (set_last prs u)) calls w rest × Fills ps w rest t
Fills (entry_key prs ∷ ps) u calls t = (v : Tree) × (mid : List Token) × Spells calls v mid × ((w : Tree) × (rest : List Token) × Ends (in_map (push_pair prs u v)) mid w rest × Fills ps w rest t)
Fills (entry_value prs k ∷ ps) u calls t = (w : Tree) × (rest : List Token) × Ends (in_map (push_pair prs k u)) calls w rest × Fills ps w rest t
Fills (field_value r fs k ∷ ps) u calls t = (w : Tree) × (rest : List Token) × Ends (in_record r (push_field fs (static_name k) u)) calls w rest × Fills ps w rest t

abbrev pub Completes : Partial → List Token → Tree → Type 0
Completes (due ps) calls t = (u : Tree) × (rest : List Token) × Spells calls u rest × Fills ps u rest t
Completes (between c ps) calls t = (w : Tree) × (rest : List Token) × Ends c calls w rest × Fills ps w rest t
Completes (done u) calls t = (calls ≡ []) × (u ≡ t)

abbrev pub CompletesIf : Option Partial → List Token → Tree → Type 0
CompletesIf None calls t = ⊥
CompletesIf (Some s) calls t = Completes s calls t

fills : (ps : List Slot) (u : Tree) (calls : List Token) (t : Tree) → Completes (fill ps u) calls t → Fills ps u calls t
fills [] u calls t h = h
fills (child w ∷ ps) u calls t h = fills ps (wrapped w u) calls t h
fills (element r ts ∷ ps) u calls t h = h
fills (Slot.key prs ∷ ps) u calls t h = h
fills (Slot.value prs ∷ ps) u calls t h = h
fills (entry_key prs ∷ ps) u calls t h = h
fills (entry_value prs k ∷ ps) u calls t h = h
fills (field_value r fs k ∷ ps) u calls t h = h

item-next : (a b : ItemCall) (s : Partial) (calls : List Token) (t : Tree) → CompletesIf (next_item a b s) calls t → (a ≡ b) × Completes s calls t
item-next token.element token.element s calls t h = (refl, h)
item-next token.tuple_field token.tuple_field s calls t h = (refl, h)
item-next _ _ s calls t h = absurd h

back : (s : Partial) (call : Token) (calls : List Token) (t : Tree) → CompletesIf (step_token s call) calls t → Completes s (call ∷ calls) t
back (done u) call calls t h = absurd h
back (due ps) (leaf u) calls t h = (u, calls, spells_leaf, fills ps u calls t h)
back (due ps) (wrap w) calls t h = (wrapped w h.0, h.1, spells_wrap h.2, h.3)
back (due ps) (open_series r) calls t h = (h.0, h.1, subst (λ u. Spells (open_series r ∷ calls) u h.1) h.2.2 (spells_series h.2.1), h.3)
back (due ps) open_map calls t h =
    (h.0, h.1, subst (λ u. Spells (open_map ∷ calls) u h.1) (ap tree.map (sym (after-none h.2.0)) ∙ h.2.2) (spells_map h.2.1), h.3)
back (due ps) (open_record r) calls t h = (h.0, h.1, subst (λ u. Spells (open_record r ∷ calls) u h.1) h.2.2 (spells_record h.2.1), h.3)
back (between (in_series r front) ps) (token.item m) calls t h =
    let n = item-next (item_call r) m (due (element r front ∷ ps)) calls t h in
    let g = n.1 in
    let f = g.3 in
    (f.0, f.1, (tree_then g.0 f.2.0, subst (λ x. SpellsElements (item_call r) (token.item x ∷ calls) (tree_then g.0 f.2.0) f.1) n.0 (elements_more g.2 f.2.1), ap (series_tree r) (sym (append_trees-push front g.0 f.2.0)) ∙ f.2.2), f.3)
back (between (in_map front) ps) token.key calls t h =
    let f = h.3 in (f.0, f.1, (spells.key h.0 ∷ f.2.0, items_key h.2 f.2.1, f.2.2), f.3)
back (between (in_map front) ps) token.value calls t h =
    let f = h.3 in (f.0, f.1, (spells.value h.0 ∷ f.2.0, items_value h.2 f.2.1, f.2.2), f.3)
back (between (in_map front) ps) token.entry calls t h =
    let e = h.3 in let f = e.3 in (f.0, f.1, (spells.entry h.0 e.0 ∷ f.2.0, items_entry h.2 e.2 f.2.1, f.2.2), f.3)
back (between (in_record r front) ps) (token.field k) calls t h =
    let f = h.3 in
    (f.0, f.1, (field_then (static_name k) h.0 f.2.0, fields_more h.2 f.2.1, ap (record_tree r) (sym (append_fields-push front (static_name k) h.0 f.2.0)) ∙ f.2.2), f.3)
back (between (in_series r front) ps) finish calls t h = (series_tree r front, calls, (no_trees, elements_end, ap (series_tree r) (append_trees-nil front)), fills ps _ calls t h)
back (between (in_map front) ps) finish calls t h = (tree.map front, calls, ([], items_end, refl), fills ps _ calls t h)
back (between (in_record r front) ps) finish calls t h =
    (record_tree r front, calls, (no_fields, fields_end, ap (record_tree r) (append_fields-nil front)), fills ps _ calls t h)
back _ _ calls t h = absurd h

Some-inj : {A : Type 0} {x y : A} → Some x ≡ Some y → x ≡ y
Some-inj e = cc

onward : (o : Option Partial) (calls : List Token) (t : Tree) → ((s : Partial) → run_tokens s calls ≡ Some (done t) → Completes s calls t) → option_and_then (λ n. run_tokens n calls) o ≡ Some (done t) → CompletesIf o calls t
onward None calls t ih e = absurd (cc)
onward (Some s) calls t ih e = ih s e

pub completes : (calls : List Token) (s : Partial) (t : Tree) → run_tokens s calls ≡ Some (done t) → Completes s calls t
completes [] s t e = subst (λ u. Completes u [] t) (sym (Some-inj e)) (refl, refl)
completes (call ∷ calls) s t e = back s call calls t (onward (step_token s call) calls t (λ n. completes calls n t) e)

pub run-of_kinds : (calls : List Event) (s : Partial) → run_tokens s (tokens calls) ≡ run s calls
run-of_kinds [] s = refl
run-of_kinds (call ∷ calls) s = go (step s call) (run-of_kinds calls)
  where
    go : (o : Option Partial) → ((n : Partial) → run_tokens n (tokens calls) ≡ run n calls) → option_and_then (λ n. run_tokens n (tokens calls)) o ≡ option_and_then (λ n. run n calls) o
    go None h = refl
    go (Some n) h = h n

pub whole_from_run : (calls : List Event) (t : Tree) → run fresh calls ≡ Some (done t) → Spells (tokens calls) t []
whole_from_run calls t e =
    let h = completes (tokens calls) fresh t (run-of_kinds calls fresh ∙ e) in
    subst (λ u. Spells (tokens calls) u []) h.3.1 (subst (λ r. Spells (tokens calls) h.0 r) h.3.0 h.2)
