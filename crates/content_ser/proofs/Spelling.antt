-- The calls of a tree spell it.
use Rattle.std.proofs.Common.{◌≡◌, ℕ, Bool, true, false, List, [], ◌∷◌, ◌++◌, None, refl, sym, ap}
use Rattle.std.proofs.Common.{subst, ◌∙◌, if◌then◌else◌, append-nil}
use Rattle.content_tree.specs.Values.Text.{static_name, to_owned}
use Rattle.content_tree.specs.Values.Tree as tree
use Rattle.content_tree.specs.Values.Tree.{Tree, TreeData, Trees, Pairs, Fields, at_texts}
use Rattle.content_tree.specs.Values.Tree.{at_texts_data, at_texts_each, at_texts_pairs}
use Rattle.content_tree.specs.Values.Tree.{at_texts_fields}
use Rattle.content_ser.specs.Sending.Canonical.{as_built, to_static}
use Rattle.content_ser.specs.Calls.Event as event
use Rattle.content_ser.specs.Calls.Event.{Event}
use Rattle.content_ser.specs.Laws.Fits.{tokens_append}
use Rattle.content_ser.specs.Grammar.Token as token
use Rattle.content_ser.specs.Grammar.Token.{Token, ItemCall, tokens, leaf}
use Rattle.content_ser.specs.Scripts.Script.{Script, done, stop_with, call_then, calls_of, stop_of}
use Rattle.content_ser.specs.Scripts.Script.{and_then}
use Rattle.content_ser.specs.Laws.ScriptsInTurn.{calls_of_both, no_stop_first, no_stop_second}
use Rattle.content_ser.specs.Grammar.Spells.{Spells, SpellsWhole, spells_leaf, spells_wrap}
use Rattle.content_ser.specs.Grammar.Spells.{spells_series, spells_map, spells_record, SpellsElements}
use Rattle.content_ser.specs.Grammar.Spells.{elements_end, elements_more, MapItem, entry}
use Rattle.content_ser.specs.Grammar.Spells.{SpellsMapItems, items_end, items_entry, SpellsFields}
use Rattle.content_ser.specs.Grammar.Spells.{fields_end, fields_more, pairs, value_among}
use Rattle.content_ser.specs.Calls.Head.{of_struct, of_variant}
use Rattle.content_ser.specs.Sending.TreeScript.{script_of, script_of_data, script_of_each}
use Rattle.content_ser.specs.Sending.TreeScript.{script_of_pairs, script_of_fields, owned_key_text}

-- without a stop, the calls read as P before any rest
abbrev pub Reads : (List Token → List Token → Type 0) → Script → Type 0
Reads P sc = stop_of sc ≡ None → (rest : List Token) → P (tokens (calls_of sc) ++ rest) rest

reads_then : {P Q R : List Token → List Token → Type 0} (a b : Script)
    → ((calls mid rest : List Token) → P calls mid → Q mid rest → R calls rest) → Reads P a → Reads Q b → Reads R (and_then a b)
reads_then {P} {Q} {R} a b f p q e rest =
    let free = no_stop_first a b e in
    let split = ap (λ cs. tokens cs ++ rest) (calls_of_both a b free) ∙ tokens_append (calls_of a) (calls_of b) rest in
    subst (λ ks. R ks rest) (sym split) (f _ _ rest (p free (tokens (calls_of b) ++ rest)) (q (no_stop_second a b e) rest))

-- the entries of a map
abbrev pub entries : Pairs → List MapItem
entries tree.no_pairs = []
entries (tree.pair_then k t ps) = entry (as_built k) (as_built t) ∷ entries ps

kept : (v : Tree) (ps : Pairs) → value_among v (entries ps) ≡ v
kept v tree.no_pairs = refl
kept v (tree.pair_then k t ps) = refl

built_pairs : (ps : Pairs) → pairs (entries ps) ≡ at_texts_pairs to_owned to_static ps
built_pairs tree.no_pairs = refl
built_pairs (tree.pair_then k t ps) = rw (kept (as_built t) ps, built_pairs ps)

marked : {m : ItemCall} {k : Token} {calls mid rest : List Token} {t : Tree} {ts : Trees} → k ≡ token.item m
    → Spells calls t mid → SpellsElements m mid ts rest → SpellsElements m (k ∷ calls) (tree.tree_then t ts) rest
marked {m} {k} {calls} {mid} {rest} {t} {ts} is s e = subst (λ j. SpellsElements m (j ∷ calls) (tree.tree_then t ts) rest) (sym is) (elements_more s e)

read_field : (borrowed : Bool) (k : List ℕ) (a b : Script) (t : Tree) (fs : Fields)
    → Reads (λ calls rest. Spells calls t rest) a → Reads (λ calls rest. SpellsFields calls fs rest) b
    → Reads (λ calls rest. SpellsFields calls (tree.field_then (static_name k) t fs) rest) (and_then (if borrowed then call_then (event.field k) done else stop_with (owned_key_text k)) (and_then a b))
read_field true k a b t fs p q e rest =
    reads_then {P = λ calls rest. Spells calls t rest} {Q = λ calls rest. SpellsFields calls fs rest}
    {R = λ calls rest. SpellsFields (token.field k ∷ calls) (tree.field_then (static_name k) t fs) rest} a b (λ calls mid rest s m. fields_more s m) p q e rest
read_field false k a b t fs p q e rest = absurd (cc e)

mutual
  pub read_tree : (t : Tree) → Reads (λ calls rest. Spells calls (as_built t) rest) (script_of t)
  read_tree tree.unit e rest = spells_leaf
  read_tree (tree.boolean b) e rest = spells_leaf
  read_tree (tree.number n) e rest = spells_leaf
  read_tree (tree.character c) e rest = spells_leaf
  read_tree (tree.text t) e rest = spells_leaf
  read_tree (tree.octets t) e rest = spells_leaf
  read_tree (tree.seq ts) e rest = spells_series (read_each token.element event.element refl ts e rest)
  read_tree (tree.map ps) e rest = subst (λ qs. Spells (token.open_map ∷ (tokens (calls_of (script_of_pairs ps)) ++ rest)) (tree.map qs) rest) (built_pairs ps) (spells_map (read_pairs ps e rest))
  read_tree tree.absent e rest = spells_leaf
  read_tree (tree.present t) e rest = spells_wrap (read_tree t e rest)
  read_tree (tree.structure n p) e rest = read_struct n.content p e rest
  read_tree (tree.enumeration n i v p) e rest = read_variant n.content i v.content p e rest
  read_tree (tree.tuple ts) e rest = spells_series (read_each token.element event.element refl ts e rest)

  read_struct : (n : List ℕ) (p : TreeData) → Reads (λ calls rest. Spells calls (tree.structure (static_name n) (at_texts_data to_owned to_static p)) rest) (script_of_data (of_struct n) p)
  read_struct n tree.no_data e rest = spells_leaf
  read_struct n (tree.one t) e rest = spells_wrap (read_tree t e rest)
  read_struct n (tree.many ts) e rest = spells_series (read_each token.tuple_field event.tuple_field refl ts e rest)
  read_struct n (tree.named fs) e rest = spells_record (read_fields fs e rest)

  read_variant : (n : List ℕ) (i : ℕ) (v : List ℕ) (p : TreeData)
      → Reads (λ calls rest. Spells calls (tree.enumeration (static_name n) i (static_name v) (at_texts_data to_owned to_static p)) rest) (script_of_data (of_variant n i v) p)
  read_variant n i v tree.no_data e rest = spells_leaf
  read_variant n i v (tree.one t) e rest = spells_wrap (read_tree t e rest)
  read_variant n i v (tree.many ts) e rest = spells_series (read_each token.tuple_field event.tuple_field refl ts e rest)
  read_variant n i v (tree.named fs) e rest = spells_record (read_fields fs e rest)

  read_each : (m : ItemCall) (c : Event) → token.token_of c ≡ token.item m → (ts : Trees) → Reads (λ calls rest. SpellsElements m calls (at_texts_each to_owned to_static ts) rest) (script_of_each c ts)
  read_each m c is tree.no_trees e rest = elements_end
  read_each m c is (tree.tree_then t ts) e rest =
      reads_then {P = λ calls rest. Spells calls (as_built t) rest} {Q = λ calls rest. SpellsElements m calls (at_texts_each to_owned to_static ts) rest}
      {R = λ calls rest. SpellsElements m (token.token_of c ∷ calls) (at_texts_each to_owned to_static (tree.tree_then t ts)) rest} (script_of t) (script_of_each c ts)
      (λ calls mid rest s more. marked is s more) (read_tree t) (read_each m c is ts) e rest

  read_pairs : (ps : Pairs) → Reads (λ calls rest. SpellsMapItems calls (entries ps) rest) (script_of_pairs ps)
  read_pairs tree.no_pairs e rest = items_end
  read_pairs (tree.pair_then k t ps) e rest =
      reads_then {P = λ calls rest. Spells calls (as_built k) rest} {Q = λ calls rest. (mid : List Token) × Spells calls (as_built t) mid × SpellsMapItems mid (entries ps) rest}
      {R = λ calls rest. SpellsMapItems (token.entry ∷ calls) (entries (tree.pair_then k t ps)) rest} (script_of k) (and_then (script_of t) (script_of_pairs ps))
      (λ calls mid rest s more. items_entry s more.1 more.2) (read_tree k)
      (reads_then {P = λ calls rest. Spells calls (as_built t) rest} {Q = λ calls rest. SpellsMapItems calls (entries ps) rest}
      {R = λ calls rest. (mid : List Token) × Spells calls (as_built t) mid × SpellsMapItems mid (entries ps) rest} (script_of t) (script_of_pairs ps)
      (λ calls mid rest s more. (mid, s, more)) (read_tree t) (read_pairs ps)) e rest

  read_fields : (fs : Fields) → Reads (λ calls rest. SpellsFields calls (at_texts_fields to_owned to_static fs) rest) (script_of_fields fs)
  read_fields tree.no_fields e rest = fields_end
  read_fields (tree.field_then k t fs) e rest =
      read_field k.borrowed k.content (script_of t) (script_of_fields fs) (as_built t) (at_texts_fields to_owned to_static fs) (read_tree t) (read_fields fs) e rest

-- without a stop, the calls of a tree spell it
pub script_spells : (t : Tree) → stop_of (script_of t) ≡ None → SpellsWhole (calls_of (script_of t)) (as_built t)
script_spells t e = subst (λ ks. Spells ks (as_built t) []) (append-nil (tokens (calls_of (script_of t)))) (read_tree t e [])
