-- What code that follows a path finds.
use Rattle.std.proofs.Common.{◌≡◌, ◌<◌, ◌≤◌, ◌+◌, ◌^◌, ◌∙◌, ap, sym, refl, true, ℕ, zero, suc, arith, length, get_or, drop}
use Rattle.std.proofs.Common.{List, [], ◌∷◌, Option, Some, None, option_map, option_and_then, IfSome, if◌then◌else◌}
use Rattle.std.proofs.lemmas.Bool.{ltb-true, ltb-false}
use Rattle.std.proofs.lemmas.List.{at_drop_more}
use Rattle.std.proofs.lemmas.Option.{slice_get-get_or}
use Rattle.std.specs.List.{slice_get}
use Rattle.std.specs.Slice.{IsItemAt}
use denote.Ref.{Bor}
use Rattle.content_tree.proofs.Looking.{value_found}
use Rattle.content_tree.proofs.Views.{tree_data_of-Struct}
use Rattle.content_tree.specs.Values.Lookups.{or_else}
use Rattle.content_tree.specs.Values.Places.{found_field, is_part}
use Rattle.content_tree.specs.Values.Pointers.{item_of}
use Rattle.content_tree.specs.Values.Text.{text_of}
use Rattle.content_tree.specs.Values.Tree.{Tree}
use Rattle.content_tree.specs.Values.Value.{tree_of, trees_view, fields_view}
use Rattle.content_tree.specs.declared.cow.CowStr.{CowStr}
use Rattle.content_tree.specs.declared.value.NamedValue.{NamedValue}

-- an item of values is that of their trees
pub item_of-get : (vs : List NamedValue) (n : ℕ) → option_map tree_of (slice_get vs n) ≡ item_of n (trees_view vs)
item_of-get [] n = refl
item_of-get (v ∷ vs) zero = refl
item_of-get (v ∷ vs) (suc n) = item_of-get vs n

-- past the end there is none
pub item_of-past : (vs : List NamedValue) (n : ℕ) → length vs ≤ n → item_of n (trees_view vs) ≡ None
item_of-past [] n h = refl
item_of-past (v ∷ vs) zero h = absurd (omega arith)
item_of-past (v ∷ vs) (suc n) h = item_of-past vs n (omega arith)

-- nor at an index that no list has
pub item_beyond : (vs : List NamedValue) (o : Option ℕ) → length vs < 2 ^ 64 → IfSome o (λ n. 2 ^ 64 ≤ n)
    → option_and_then (λ n. item_of n (trees_view vs)) o ≡ None
item_beyond vs None small large = refl
item_beyond vs (Some n) small large = item_of-past vs n (omega arith)

-- what `get` lends is the item
pub item_got : (vs : List NamedValue) (n : ℕ) (r : Option (Bor NamedValue)) → IsItemAt vs n r → option_map (λ v. tree_of v.now) r ≡ item_of n (trees_view vs)
item_got vs n None h = sym (item_of-past vs n (ltb-false n (length vs) (sym h.0)))
item_got vs n (Some v) h =
    let less : n < length vs = ltb-true n (length vs) (sym h.0) in
    let same : v.now ≡ get_or vs n v.now = h.1 in
    ap (λ x. Some (tree_of x)) same ∙ (ap (option_map tree_of) (sym (slice_get-get_or vs n v.now less)) ∙ item_of-get vs n)

-- what is found among the last fields is found among all
field_above : (o : Option (List ℕ)) (fs : List (CowStr × NamedValue)) (i : ℕ) (t : Tree) → found_field o (fields_view (drop i fs)) ≡ Some t → found_field o (fields_view fs) ≡ Some t
field_above o fs zero t h = h
field_above o [] (suc i) t h = h
field_above o (f ∷ fs) (suc i) t h = ap (λ r. or_else r (if is_part o (text_of f.0).content then Some (tree_of f.1) else None)) (field_above o fs i t h)

-- a field that the part names, after which it names none, is the one that is found
pub named_found : (o : Option (List ℕ)) (fs : List (CowStr × NamedValue)) (i : ℕ) (d : CowStr × NamedValue) → i < length fs
    → is_part o (text_of (get_or fs i d).0).content ≡ true → found_field o (fields_view (drop (i + 1) fs)) ≡ None
    → Some (tree_of (get_or fs i d).1) ≡ found_field o (fields_view fs)
named_found o fs i d less is none = sym (field_above o fs i (tree_of (get_or fs i d).1)
    (at_drop_more (λ l. found_field o (fields_view l)) fs i d less
    ∙ (ap (λ r. or_else r (if is_part o (text_of (get_or fs i d).0).content then Some (tree_of (get_or fs i d).1) else None)) none
    ∙ ap (λ b. if b then Some (tree_of (get_or fs i d).1) else None) is)))

pub ruleset pointing = (named_found, value_found, tree_data_of-Struct)
