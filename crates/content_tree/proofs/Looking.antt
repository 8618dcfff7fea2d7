-- What is found by the last key.
use Rattle.std.proofs.Common.{◌≡◌, ◌<◌, ◌+◌, ◌∙◌, ap, sym, true, length, get_or, ℕ, zero, suc}
use Rattle.std.proofs.Common.{List, [], ◌∷◌, Bool, Some, None, drop}
use Rattle.std.proofs.lemmas.List.{at_drop_more}
use Rattle.std.proofs.Common.{if◌then◌else◌}
use Rattle.std.specs.Str.{bytes_eq}
use Rattle.content_tree.specs.Values.Lookups.{last_field, last_value, or_else}
use Rattle.content_tree.proofs.Views.{tree_data_of-Struct}
use Rattle.content_tree.specs.Values.Text.{text_of}
use Rattle.content_tree.specs.Values.Tree.{Tree}
use Rattle.content_tree.specs.Values.Value.{tree_of, fields_view, pairs_view}
use Rattle.content_tree.specs.declared.cow.CowStr.{CowStr}
use Rattle.content_tree.specs.declared.value.NamedValue.{NamedValue}

-- what is found among the last fields is found among all
pub field_above : (key : List ℕ) (fs : List (CowStr × NamedValue)) (i : ℕ) (t : Tree) → last_field key (fields_view (drop i fs)) ≡ Some t → last_field key (fields_view fs) ≡ Some t
field_above key fs zero t h = h
field_above key [] (suc i) t h = h
field_above key (f ∷ fs) (suc i) t h = ap (λ o. or_else o (if bytes_eq (text_of f.0).content key then Some (tree_of f.1) else None)) (field_above key fs i t h)

-- what is found among the last pairs is found among all
pub value_above : (test : Tree → Bool) (ps : List (NamedValue × NamedValue)) (i : ℕ) (t : Tree) → last_value test (pairs_view (drop i ps)) ≡ Some t → last_value test (pairs_view ps) ≡ Some t
value_above test ps zero t h = h
value_above test [] (suc i) t h = h
value_above test (p ∷ ps) (suc i) t h = ap (λ o. or_else o (if test (tree_of p.0) then Some (tree_of p.1) else None)) (value_above test ps i t h)

-- a field of the key, after which none has it, is the one that is found
pub field_found : (key : List ℕ) (fs : List (CowStr × NamedValue)) (i : ℕ) (d : CowStr × NamedValue) → i < length fs
    → bytes_eq (text_of (get_or fs i d).0).content key ≡ true → last_field key (fields_view (drop (i + 1) fs)) ≡ None
    → Some (tree_of (get_or fs i d).1) ≡ last_field key (fields_view fs)
field_found key fs i d less is none = sym (field_above key fs i (tree_of (get_or fs i d).1)
    (at_drop_more (λ l. last_field key (fields_view l)) fs i d less
    ∙ (ap (λ o. or_else o (if bytes_eq (text_of (get_or fs i d).0).content key then Some (tree_of (get_or fs i d).1) else None)) none
    ∙ ap (λ b. if b then Some (tree_of (get_or fs i d).1) else None) is)))

-- a pair whose key passes, after which none does, is the one that is found
pub value_found : (test : Tree → Bool) (ps : List (NamedValue × NamedValue)) (i : ℕ) (d : NamedValue × NamedValue) → i < length ps
    → test (tree_of (get_or ps i d).0) ≡ true → last_value test (pairs_view (drop (i + 1) ps)) ≡ None
    → Some (tree_of (get_or ps i d).1) ≡ last_value test (pairs_view ps)
value_found test ps i d less is none = sym (value_above test ps i (tree_of (get_or ps i d).1)
    (at_drop_more (λ l. last_value test (pairs_view l)) ps i d less
    ∙ (ap (λ o. or_else o (if test (tree_of (get_or ps i d).0) then Some (tree_of (get_or ps i d).1) else None)) none
    ∙ ap (λ b. if b then Some (tree_of (get_or ps i d).1) else None) is)))

pub ruleset looking = (field_found, value_found, tree_data_of-Struct)
