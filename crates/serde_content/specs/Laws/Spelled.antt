-- Scripts that have no stop and spell such a thing, piece by piece.
use Rattle.std.specs.Prelude.{◌≡◌, ℕ, List, [], ◌∷◌, ◌++◌, None, refl}
use Rattle.std.proofs.Common.{ap, sym, subst, ◌∙◌}
use Rattle.std.proofs.lemmas.List.{append-nil}
use Rattle.content_tree.specs.Values.Text.{static_name}
use Rattle.content_tree.specs.Values.Tree as tree
use Rattle.content_tree.specs.Values.Tree.{Tree, Trees, Fields}
use Rattle.content_ser.specs.Calls.Event as event
use Rattle.content_ser.specs.Calls.Event.{Event}
use Rattle.content_ser.specs.Grammar.Token as token
use Rattle.content_ser.specs.Grammar.Token.{Token, tokens, ItemCall}
use Rattle.content_ser.specs.Grammar.Spells.{Spells, SpellsElements, SpellsFields}
use Rattle.content_ser.specs.Grammar.Spells.{spells_leaf, spells_wrap, elements_end, elements_more}
use Rattle.content_ser.specs.Grammar.Spells.{fields_end, fields_more}
use Rattle.content_ser.specs.Scripts.Script.{Script, done, call_then, calls_of, stop_of, and_then}
use Rattle.content_ser.specs.Laws.ScriptsInTurn.{calls_of_both, stop_of_both}
use Rattle.content_ser.specs.Laws.Fits.{spells_before, tokens_append}
use Rattle.serde_content.specs.RoundTrip.{SpellsSuch}

-- such a tree before the rest
abbrev pub TreeSuch : (Tree → Type 0) → List Token → List Token → Type 0
TreeSuch p calls rest = (t : Tree) × Spells calls t rest × p t

-- such items after this item call, and the end, before the rest
abbrev pub RowSuch : ItemCall → (Trees → Type 0) → List Token → List Token → Type 0
RowSuch m p calls rest = (ts : Trees) × SpellsElements m calls ts rest × p ts

-- such fields, and the end, before the rest
abbrev pub FieldsSuch : (Fields → Type 0) → List Token → List Token → Type 0
FieldsSuch p calls rest = (fs : Fields) × SpellsFields calls fs rest × p fs

-- the script has no stop, and its calls read as P before any rest
pub record Spelled (P : List Token → List Token → Type 0) (sc : Script) : Type 0 where
  pub free : stop_of sc ≡ None
  pub reads : (rest : List Token) → P (tokens (calls_of sc) ++ rest) rest

-- one call
pub spelled_only : {P : List Token → List Token → Type 0} {c : Event} → ((rest : List Token) → P (token.token_of c ∷ rest) rest) → Spelled P (call_then c done)
spelled_only f = record { free = refl; reads = f }

-- a call, and then a script
pub spelled_call : {P Q : List Token → List Token → Type 0} {c : Event} {b : Script}
    → ((calls rest : List Token) → Q calls rest → P (token.token_of c ∷ calls) rest) → Spelled Q b → Spelled P (call_then c b)
spelled_call f q = record { free = q.free; reads = λ rest. f _ rest (q.reads rest) }

-- a script, and then another
pub spelled_then : {P Q R : List Token → List Token → Type 0} {a b : Script}
    → ((calls mid rest : List Token) → P calls mid → Q mid rest → R calls rest) → Spelled P a → Spelled Q b → Spelled R (and_then a b)
spelled_then {P} {Q} {R} {a} {b} f p q = record {
  free = stop_of_both a b p.free ∙ q.free;
  reads = λ rest.
      let split = ap (λ cs. tokens cs ++ rest) (calls_of_both a b p.free) ∙ tokens_append (calls_of a) (calls_of b) rest in
      subst (λ ks. R ks rest) (sym split) (f _ _ rest (p.reads (tokens (calls_of b) ++ rest)) (q.reads rest));
}

-- a script that spells such a tree
pub spelled_such : {p : Tree → Type 0} {sc : Script} → SpellsSuch p sc → Spelled (TreeSuch p) sc
spelled_such s = record { free = s.free; reads = λ rest. (s.whole, spells_before rest s.spelled, s.such) }

-- what spells such a tree before any rest spells it alone
pub such_spelled : {p : Tree → Type 0} {sc : Script} → Spelled (TreeSuch p) sc → SpellsSuch p sc
such_spelled {p} {sc} s =
    let here = subst (λ ks. TreeSuch p ks []) (append-nil (tokens (calls_of sc))) (s.reads []) in
    record { free = s.free; whole = here.0; spelled = here.1; such = here.2 }

-- one call that is a whole tree
pub leaf_such : {p : Tree → Type 0} {c : Event} (t : Tree) → token.token_of c ≡ token.leaf t → p t → SpellsSuch p (call_then c done)
leaf_such {p} {c} t is such = record { free = refl; whole = t; spelled = subst (λ k. Spells (k ∷ []) t []) (sym is) spells_leaf; such = such }

-- a call that holds one tree
pub wrapped_such : {p q : Tree → Type 0} {c : Event} {a : Script} (w : token.Wrap) → token.token_of c ≡ token.wrap w
    → ((t : Tree) → p t → q (token.wrapped w t)) → SpellsSuch p a → SpellsSuch q (call_then c a)
wrapped_such {p} {q} w is such a =
    such_spelled (spelled_call {P = TreeSuch q} {Q = TreeSuch p} (λ calls rest s. subst (λ k. TreeSuch q (k ∷ calls) rest) (sym is) (token.wrapped w s.0, spells_wrap s.1, such s.0 s.2)) (spelled_such a))

-- the end of items
pub row_end : {p : Trees → Type 0} {m : ItemCall} → p tree.no_trees → Spelled (RowSuch m p) (call_then event.end done)
row_end such = spelled_only (λ rest. (tree.no_trees, elements_end, such))

-- an item after its call, and then the others
pub row_more : {p : Tree → Type 0} {q r : Trees → Type 0} {m : ItemCall} {c : Event} {a b : Script} → token.token_of c ≡ token.item m
    → ((t : Tree) (ts : Trees) → p t → q ts → r (tree.tree_then t ts)) → SpellsSuch p a → Spelled (RowSuch m q) b → Spelled (RowSuch m r) (call_then c (and_then a b))
row_more {p} {q} {r} {m} is such a b =
    spelled_call {Q = λ calls rest. RowSuch m r (token.item m ∷ calls) rest} (λ calls rest e. subst (λ k. RowSuch m r (k ∷ calls) rest) (sym is) e)
    (spelled_then {P = TreeSuch p} {Q = RowSuch m q} (λ calls mid rest s e. (tree.tree_then s.0 e.0, elements_more s.1 e.1, such s.0 e.0 s.2 e.2)) (spelled_such a) b)

-- the end of fields
pub fields_end_such : {p : Fields → Type 0} → p tree.no_fields → Spelled (FieldsSuch p) (call_then event.end done)
fields_end_such such = spelled_only (λ rest. (tree.no_fields, fields_end, such))

-- a field, and then the others
pub fields_more_such : {p : Tree → Type 0} {q r : Fields → Type 0} {k : List ℕ} {a b : Script}
    → ((t : Tree) (fs : Fields) → p t → q fs → r (tree.field_then (static_name k) t fs)) → SpellsSuch p a → Spelled (FieldsSuch q) b
    → Spelled (FieldsSuch r) (call_then (event.field k) (and_then a b))
fields_more_such {p} {q} {r} {k} such a b =
    spelled_call {Q = λ calls rest. FieldsSuch r (token.field k ∷ calls) rest} (λ calls rest e. e)
    (spelled_then {P = TreeSuch p} {Q = FieldsSuch q} (λ calls mid rest s e. (tree.field_then (static_name k) s.0 e.0, fields_more s.1 e.1, such s.0 e.0 s.2 e.2)) (spelled_such a) b)
