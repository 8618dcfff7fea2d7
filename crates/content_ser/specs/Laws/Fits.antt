-- Scripts that fit the grammar, piece by piece.
use Rattle.std.specs.Prelude.{◌≡◌, ℕ, List, [], ◌∷◌, ◌++◌, Option, Some, None, refl}
use Rattle.std.proofs.Common.{ap, sym, subst, ◌∙◌}
use Rattle.std.proofs.lemmas.List.{append-nil}
use Rattle.content_tree.specs.Values.Tree.{Tree, Trees, Fields}
use Rattle.content_ser.specs.Calls.Event.{Event}
use Rattle.content_ser.specs.Grammar.Token as token
use Rattle.content_ser.specs.Grammar.Token.{Token, tokens, ItemCall}
use Rattle.content_ser.specs.Grammar.Spells.{Spells, spells_leaf, spells_wrap, spells_series}
use Rattle.content_ser.specs.Grammar.Spells.{spells_map, spells_record, SpellsElements}
use Rattle.content_ser.specs.Grammar.Spells.{elements_end, elements_more, MapItem, SpellsMapItems}
use Rattle.content_ser.specs.Grammar.Spells.{items_end, items_key, items_value, items_entry}
use Rattle.content_ser.specs.Grammar.Spells.{SpellsFields, fields_end, fields_more}
use Rattle.content_ser.specs.Scripts.Script.{Script, done, call_then, calls_of, stop_of, and_then}
use Rattle.content_ser.specs.Scripts.Script.{IsLawful}
use Rattle.content_ser.specs.Laws.ScriptsInTurn.{calls_of_both, stopped_both, no_stop_first}
use Rattle.content_ser.specs.Laws.ScriptsInTurn.{no_stop_second}

mutual
  -- what follows a spelling doesn't change it
  pub spells_before : (more : List Token) {calls rest : List Token} {t : Tree} → Spells calls t rest → Spells (calls ++ more) t (rest ++ more)
  spells_before more spells_leaf = spells_leaf
  spells_before more (spells_wrap s) = spells_wrap (spells_before more s)
  spells_before more (spells_series s) = spells_series (elements_before more s)
  spells_before more (spells_map s) = spells_map (items_before more s)
  spells_before more (spells_record s) = spells_record (fields_before more s)

  -- one by one
  pub elements_before : (more : List Token) {m : ItemCall} {calls rest : List Token} {ts : Trees} → SpellsElements m calls ts rest → SpellsElements m (calls ++ more) ts (rest ++ more)
  elements_before more elements_end = elements_end
  elements_before more (elements_more s e) = elements_more (spells_before more s) (elements_before more e)

  -- for the items of a map
  pub items_before : (more : List Token) {calls rest : List Token} {items : List MapItem} → SpellsMapItems calls items rest → SpellsMapItems (calls ++ more) items (rest ++ more)
  items_before more items_end = items_end
  items_before more (items_key s e) = items_key (spells_before more s) (items_before more e)
  items_before more (items_value s e) = items_value (spells_before more s) (items_before more e)
  items_before more (items_entry s v e) = items_entry (spells_before more s) (spells_before more v) (items_before more e)

  -- for the fields of a struct
  pub fields_before : (more : List Token) {calls rest : List Token} {fs : Fields} → SpellsFields calls fs rest → SpellsFields (calls ++ more) fs (rest ++ more)
  fields_before more fields_end = fields_end
  fields_before more (fields_more s e) = fields_more (spells_before more s) (fields_before more e)

-- some tree before the rest
abbrev pub ATree : List Token → List Token → Type 0
ATree calls rest = (t : Tree) × Spells calls t rest

-- items after this item call, and the end, before the rest
abbrev pub ASeries : ItemCall → List Token → List Token → Type 0
ASeries m calls rest = (ts : Trees) × SpellsElements m calls ts rest

-- the items of a map, and the end, before the rest
abbrev pub AMap : List Token → List Token → Type 0
AMap calls rest = (items : List MapItem) × SpellsMapItems calls items rest

-- a tree and the items of a map, and the end, before the rest
abbrev pub ATreeAndMap : List Token → List Token → Type 0
ATreeAndMap calls rest = (mid : List Token) × ATree calls mid × AMap mid rest

-- fields, and the end, before the rest
abbrev pub AFields : List Token → List Token → Type 0
AFields calls rest = (fs : Fields) × SpellsFields calls fs rest

-- without a stop its calls read as P before any rest, and with a stop they can be made to
pub record Fits (P : List Token → List Token → Type 0) (sc : Script) : Type 0 where
  pub whole : stop_of sc ≡ None → (rest : List Token) → P (tokens (calls_of sc) ++ rest) rest
  pub viable : (more : List Event) × ((rest : List Token) → P (tokens (calls_of sc) ++ (tokens more ++ rest)) rest)

-- kinds of two lists, one after the other
pub tokens_append : (xs ys : List Event) (rest : List Token) → tokens (xs ++ ys) ++ rest ≡ tokens xs ++ (tokens ys ++ rest)
tokens_append [] ys rest = refl
tokens_append (x ∷ xs) ys rest = ap (λ ks. token.token_of x ∷ ks) (tokens_append xs ys rest)

-- one call
pub fits_only : {P : List Token → List Token → Type 0} {c : Event} → ((rest : List Token) → P (token.token_of c ∷ rest) rest) → Fits P (call_then c done)
fits_only f = record { whole = λ e rest. f rest; viable = ([], λ rest. f rest) }

-- a call, and then a script
pub fits_call : {P Q : List Token → List Token → Type 0} {c : Event} {b : Script}
    → ((calls rest : List Token) → Q calls rest → P (token.token_of c ∷ calls) rest) → Fits Q b → Fits P (call_then c b)
fits_call f q = record {
  whole = λ e rest. f _ rest (q.whole e rest);
  viable = (q.viable.0, λ rest. f _ rest (q.viable.1 rest));
}

-- a script and then another can be made to read as R
viable_then : {P Q R : List Token → List Token → Type 0} (a b : Script) (o : Option (List ℕ)) → stop_of a ≡ o
    → ((calls mid rest : List Token) → P calls mid → Q mid rest → R calls rest) → Fits P a → Fits Q b
    → (more : List Event) × ((rest : List Token) → R (tokens (calls_of (and_then a b)) ++ (tokens more ++ rest)) rest)
viable_then {P} {Q} {R} a b None free f p q = (
  q.viable.0,
  λ rest.
      let last = tokens q.viable.0 ++ rest in
      let split = ap (λ cs. tokens cs ++ last) (calls_of_both a b free) ∙ tokens_append (calls_of a) (calls_of b) last in
      subst (λ ks. R ks rest) (sym split) (f _ _ rest (p.whole free (tokens (calls_of b) ++ last)) (q.viable.1 rest)),
)
viable_then {P} {Q} {R} a b (Some message) stops f p q = (
  p.viable.0 ++ (calls_of b ++ q.viable.0),
  λ rest.
      let last = tokens q.viable.0 ++ rest in
      let split = ap (λ sc. tokens (calls_of sc) ++ (tokens (p.viable.0 ++ (calls_of b ++ q.viable.0)) ++ rest)) (stopped_both a b message stops)
      ∙ ap (λ ks. tokens (calls_of a) ++ ks) (tokens_append p.viable.0 (calls_of b ++ q.viable.0) rest ∙ ap (λ ks. tokens p.viable.0 ++ ks) (tokens_append (calls_of b) q.viable.0 rest)) in
      subst (λ ks. R ks rest) (sym split) (f _ _ rest (p.viable.1 (tokens (calls_of b) ++ last)) (q.viable.1 rest)),
)

-- a script, and then another
pub fits_then : {P Q R : List Token → List Token → Type 0} {a b : Script}
    → ((calls mid rest : List Token) → P calls mid → Q mid rest → R calls rest) → Fits P a → Fits Q b → Fits R (and_then a b)
fits_then {P} {Q} {R} {a} {b} f p q = record {
  whole = λ e rest.
      let free = no_stop_first a b e in
      let split = ap (λ cs. tokens cs ++ rest) (calls_of_both a b free) ∙ tokens_append (calls_of a) (calls_of b) rest in
      subst (λ ks. R ks rest) (sym split) (f _ _ rest (p.whole free (tokens (calls_of b) ++ rest)) (q.whole (no_stop_second a b e) rest));
  viable = viable_then a b (stop_of a) refl f p q;
}

-- a script that fits as a tree is lawful
pub lawful_from_fits : {sc : Script} → Fits ATree sc → IsLawful sc
lawful_from_fits {sc} p = record {
  whole = λ e. subst (λ ks. ATree ks []) (append-nil (tokens (calls_of sc))) (p.whole e []);
  viable = (p.viable.0, subst (λ ks. ATree ks []) (sym (tokens_append (calls_of sc) p.viable.0 []) ∙ append-nil (tokens (calls_of sc ++ p.viable.0))) (p.viable.1 []));
}

-- a lawful script fits as a tree
pub fits_from_lawful : {sc : Script} → IsLawful sc → Fits ATree sc
fits_from_lawful {sc} p = record {
  whole = λ e rest. let w = p.whole e in (w.0, spells_before rest w.1);
  viable = (p.viable.0, λ rest. let w = p.viable.1 in subst (λ ks. ATree ks rest) (tokens_append (calls_of sc) p.viable.0 rest) (w.0, spells_before rest w.1));
}
