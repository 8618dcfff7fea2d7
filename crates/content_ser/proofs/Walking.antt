-- What is sent for a value, level by level.
use Rattle.std.proofs.Common.{◌≡◌, ◌<◌, ◌≤◌, ◌+◌, ◌*◌, arith, get_or, inl, inr, ℕ, suc, List, []}
use Rattle.std.proofs.Common.{◌∷◌, length, map, Err, Some, Bor, refl, sym, ap, subst}
use Rattle.std.specs.Prelude.{slice_get}
use denote.Param.Weighed.{most, at_most}
use Rattle.content_tree.specs.Values.Value.{tree_of, trees_view, pairs_view, fields_view}
use Rattle.content_tree.specs.declared.cow.CowStr.{CowStr}
use Rattle.content_tree.specs.declared.error.Error.{Error}
use Rattle.content_tree.specs.declared.value.NamedValue.{NamedValue, size-NamedValue}
use Rattle.content_ser.specs.Serializers.Step.{Seen, Step, RefusalRule, Answer}
use Rattle.content_ser.specs.Scripts.Script.{stop_with, IsCustom}
use Rattle.content_ser.specs.Scripts.Sends.{Sends}
use Rattle.content_ser.specs.Sending.Loose.{KeyedTree, loose_each, loose_pairs, loose_fields}
use Rattle.content_ser.specs.Sending.Loose.{loose_field_pairs, keyed, text_pairs}
use Rattle.content_ser.specs.Sending.Places.{keyed_tree_of, StandsFor}
use Rattle.content_tree.specs.Values.Tree.{count}
use Rattle.content_ser.specs.Sending.TreeScript.{count_pairs, count_fields, script_of}
use Rattle.content_ser.specs.Sending.TreeScript.{script_of_pairs, loose_script}

pub count_each : (vs : List NamedValue) → length vs ≡ count (loose_each (trees_view vs))
count_each [] = refl
count_each (v ∷ vs) = ap suc (count_each vs)

pub count_each_pair : (ps : List (NamedValue × NamedValue)) → length ps ≡ count_pairs (loose_pairs (pairs_view ps))
count_each_pair [] = refl
count_each_pair (p ∷ ps) = ap suc (count_each_pair ps)

pub count_each_field : (fs : List (CowStr × NamedValue)) → length fs ≡ count_fields (loose_fields (fields_view fs))
count_each_field [] = refl
count_each_field (f ∷ fs) = ap suc (count_each_field fs)

pub count_each_entry : (fs : List (CowStr × NamedValue)) → length fs ≡ count_pairs (loose_field_pairs (fields_view fs))
count_each_entry [] = refl
count_each_entry (f ∷ fs) = ap suc (count_each_entry fs)

pub count_text_pairs : (es : List KeyedTree) → length es ≡ count_pairs (text_pairs es)
count_text_pairs [] = refl
count_text_pairs (e ∷ es) = ap suc (count_text_pairs es)

-- fields by the bytes of their keys, one at a time
pub keyed_each : (fs : List (CowStr × NamedValue)) → map keyed_tree_of fs ≡ keyed (fields_view fs)
keyed_each [] = refl
keyed_each (f ∷ fs) = ap (λ es. keyed_tree_of f ∷ es) (keyed_each fs)

-- the entry of the first place, and what the others mean
pub stands_first : (fs : List (CowStr × NamedValue)) (all : List (Bor (List ℕ) × ℕ)) (p : Bor (List ℕ) × ℕ) (ps : List (Bor (List ℕ) × ℕ)) (es : List KeyedTree)
    → all ≡ p ∷ ps → StandsFor fs all es
    → (e : KeyedTree) × (rest : List KeyedTree) × (es ≡ e ∷ rest) × (slice_get (map keyed_tree_of fs) p.1 ≡ Some e) × (p.0.now ≡ e.0) × StandsFor fs ps rest
stands_first fs all p ps es is h = split es (subst (λ ys. StandsFor fs ys es) is h)
  where
    split : (es : List KeyedTree) → StandsFor fs (p ∷ ps) es
        → (e : KeyedTree) × (rest : List KeyedTree) × (es ≡ e ∷ rest) × (slice_get (map keyed_tree_of fs) p.1 ≡ Some e) × (p.0.now ≡ e.0) × StandsFor fs ps rest
    split [] h = absurd h
    split (e ∷ rest) h = (e, rest, refl, h.0, h.1, h.2)

-- no places mean no entries
pub stands_none : (fs : List (CowStr × NamedValue)) (ps : List (Bor (List ℕ) × ℕ)) (es : List KeyedTree) → ps ≡ [] → StandsFor fs ps es → es ≡ []
stands_none fs [] [] is h = refl
stands_none fs [] (e ∷ es) is h = absurd h
stands_none fs (p ∷ ps) es is h = absurd (cc is)

-- a stop before the first call
pub stopped : {S : Type 0} {step : Step S} {refuses : RefusalRule S} {old : Seen S} (message : List ℕ) {x : Error} → IsCustom message x → Sends step refuses old (λ h. stop_with message) (Err x) old
stopped {S} {step} {refuses} {old} message is = record {
  readable = refl;
  when_failed = λ h. (h, (inl is, refl));
  otherwise = λ h. inr (h, inl (message, refl, is, refl));
}

-- what is sent for one entry and then the others ends what is sent for all of them
pub entries_end : {S : Type 0} {step : Step S} {refuses : RefusalRule S} {old new : Seen S} {r : Answer} (es : List KeyedTree) (e : KeyedTree) (rest : List KeyedTree) → es ≡ e ∷ rest
    → Sends step refuses old (λ h. script_of_pairs (text_pairs (e ∷ rest))) r new → Sends step refuses old (λ h. script_of_pairs (text_pairs es)) r new
entries_end {S} {step} {refuses} {old} {new} {r} es e rest is sent = subst (λ ys. Sends step refuses old (λ h. script_of_pairs (text_pairs ys)) r new) (sym is) sent

-- what is sent for a field's value is what is sent for its entry
pub sends_value : {S : Type 0} {step : Step S} {refuses : RefusalRule S} {old new : Seen S} {r : Answer} (f : CowStr × NamedValue) (e : KeyedTree) → keyed_tree_of f ≡ e
    → Sends step refuses old (loose_script (tree_of f.1)) r new → Sends step refuses old (λ h. script_of e.1) r new
sends_value {S} {step} {refuses} {old} {new} {r} f e same sent = subst (λ (d : KeyedTree). Sends step refuses old (λ h. script_of d.1) r new) same sent

-- a field's value is less deep than the fields
pub field_below : {depth : CowStr × NamedValue → ℕ} {t : ℕ} (fs : List (CowStr × NamedValue)) (i : ℕ) (x : CowStr × NamedValue)
    → 4 * most depth fs + 1 ≡ t → ((f : CowStr × NamedValue) → size-NamedValue f.1 ≤ depth f) → i < length fs → x ≡ get_or fs i x
    → 4 * size-NamedValue x.1 + 0 < t
field_below {depth} fs i x measure deep below is =
    let within : depth x ≤ most depth fs = subst (λ (f : CowStr × NamedValue). depth f ≤ most depth fs) (sym is) (at_most depth fs i x below) in
    let under = deep x in
    omega (arith, within, under, measure)
