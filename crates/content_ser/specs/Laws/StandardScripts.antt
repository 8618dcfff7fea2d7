-- The scripts of the standard library's types are lawful.
use Rattle.std.specs.Prelude.{◌≡◌, ℕ, Bool, List, [], ◌∷◌, Some, None, refl}
use Rattle.std.proofs.Common.{subst, sym}
use Rattle.content_tree.specs.Values.Tree as tree
use Rattle.content_tree.specs.Values.Tree.{Tree}
use Rattle.content_ser.specs.Calls.Event as event
use Rattle.content_ser.specs.Calls.Event.{Event}
use Rattle.content_ser.specs.Grammar.Token as token
use Rattle.content_ser.specs.Grammar.Token.{Token, leaf}
use Rattle.content_ser.specs.Grammar.Spells.{Spells, spells_leaf, spells_wrap, spells_series}
use Rattle.content_ser.specs.Grammar.Spells.{spells_map, elements_end, elements_more, items_end}
use Rattle.content_ser.specs.Grammar.Spells.{items_entry}
use Rattle.content_ser.specs.Scripts.Script.{Script, done, call_then, and_then, IsLawful}
use Rattle.content_ser.specs.Scripts.Standard.{ScriptOf, option_script, items_script, seq_script}
use Rattle.content_ser.specs.Scripts.Standard.{entries_script, map_script}
use Rattle.content_ser.specs.Laws.Fits.{ATree, ASeries, AMap, ATreeAndMap, Fits, fits_only, fits_call}
use Rattle.content_ser.specs.Laws.Fits.{fits_then, lawful_from_fits, fits_from_lawful}

-- each value's script is lawful
abbrev pub AllLawful : {A : Type 0} → ScriptOf A → Type 0
AllLawful {A} f = (x : A) (readable : Bool) → IsLawful (f x readable)

-- one call that is a whole tree
pub leaf_lawful : {c : Event} {t : Tree} → token.token_of c ≡ leaf t → IsLawful (call_then c done)
leaf_lawful {c} {t} is = lawful_from_fits (fits_only (λ rest. (t, subst (λ k. Spells (k ∷ rest) t rest) (sym is) spells_leaf)))

-- an optional value
pub option_lawful : {A : Type 0} {f : ScriptOf A} → AllLawful f → AllLawful (option_script f)
option_lawful law None h = leaf_lawful refl
option_lawful law (Some x) h = lawful_from_fits (fits_call {Q = ATree} (λ calls rest s. (tree.present s.0, spells_wrap s.1)) (fits_from_lawful (law x h)))

-- the end of a sequence or a tuple
pub end_fits : Fits (ASeries token.element) (call_then event.end done)
end_fits = fits_only (λ rest. (tree.no_trees, elements_end))

-- an element, and then the others
pub element_fits : {a b : Script} → IsLawful a → Fits (ASeries token.element) b → Fits (ASeries token.element) (call_then event.element (and_then a b))
element_fits p q = fits_call {Q = λ calls rest. ASeries token.element (token.item token.element ∷ calls) rest} (λ calls rest s. s)
    (fits_then (λ calls mid rest s e. (tree.tree_then s.0 e.0, elements_more s.1 e.1)) (fits_from_lawful p) q)

-- the items of a sequence, and the end
pub items_fit : {A : Type 0} {f : ScriptOf A} → AllLawful f → (xs : List A) (h : Bool) → Fits (ASeries token.element) (items_script f xs h)
items_fit law [] h = end_fits
items_fit law (x ∷ xs) h = element_fits (law x h) (items_fit law xs h)

-- a sequence
pub seq_lawful : {A : Type 0} {f : ScriptOf A} → AllLawful f → AllLawful (seq_script f)
seq_lawful law xs h = lawful_from_fits (fits_call {Q = ASeries token.element} (λ calls rest e. (tree.seq e.0, spells_series e.1)) (items_fit law xs h))

-- a tuple of these elements, whatever length it tells
pub tuple_lawful : {n : ℕ} {b : Script} → Fits (ASeries token.element) b → IsLawful (call_then (event.tuple n) b)
tuple_lawful p = lawful_from_fits (fits_call {Q = ASeries token.element} (λ calls rest e. (tree.tuple e.0, spells_series e.1)) p)

-- an entry, and then the others
pub entry_fits : {a b c : Script} → IsLawful a → IsLawful b → Fits AMap c → Fits AMap (call_then event.entry (and_then a (and_then b c)))
entry_fits p q r = fits_call {Q = λ calls rest. AMap (token.entry ∷ calls) rest} (λ calls rest s. s)
    (fits_then {Q = ATreeAndMap} (λ calls mid rest k e. (_, items_entry k.1 e.1.1 e.2.1)) (fits_from_lawful p)
    (fits_then (λ calls mid rest v e. (mid, v, e)) (fits_from_lawful q) r))

-- the entries of a map, and the end
pub entries_fit : {K V : Type 0} {f : ScriptOf K} {g : ScriptOf V} → AllLawful f → AllLawful g → (ps : List (K × V)) (h : Bool) → Fits AMap (entries_script f g ps h)
entries_fit f_law g_law [] h = fits_only (λ rest. ([], items_end))
entries_fit f_law g_law (p ∷ ps) h = entry_fits (f_law p.0 h) (g_law p.1 h) (entries_fit f_law g_law ps h)

-- a map
pub map_lawful : {K V : Type 0} {f : ScriptOf K} {g : ScriptOf V} → AllLawful f → AllLawful g → AllLawful (map_script f g)
map_lawful f_law g_law ps h = lawful_from_fits (fits_call {Q = AMap} (λ calls rest e. (_, spells_map e.1)) (entries_fit f_law g_law ps h))
