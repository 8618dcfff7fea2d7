-- What lookups find.
use Rattle.std.proofs.Common.{◌≡◌, ◌∙◌, sym, refl, ap, ap₂, Bool, true, false, List, [], ◌∷◌}
use Rattle.std.proofs.Common.{Option, Some, None, if◌then◌else◌}
use Rattle.std.specs.Bool.{one_answer}
use Rattle.std.specs.Option.{option_and_then}
use Rattle.content_tree.proofs.SameTree.{trees_tie}
use Rattle.content_tree.specs.Orders.Trees.{same_tree}
use Rattle.content_tree.specs.Values.Lookups.{lookup, last_value, or_else, field_in, text_in}
use Rattle.content_tree.specs.Values.Tree.{Tree, TreeData, text, map, structure, enumeration, unmarked}
use Rattle.content_tree.specs.Values.Tree.{Pairs, no_pairs, pair_then}
use Rattle.content_tree.specs.Values.Text.{Text}
use Rattle.content_tree.specs.Values.Value.{tree_of, pairs_view}
use Rattle.content_tree.specs.declared.value.NamedValue.{NamedValue}
use Rattle.serde_content.specs.Laws.Lookups.{EqualKeys, JoinedPairs, LastPair, NoneEquals, MissingKey}

-- two equal keys pass the same tests
same_test : (key other k : Tree) → unmarked key ≡ unmarked other → same_tree k key ≡ same_tree k other
same_test key other k same =
    let ties = trees_tie k other in
    one_answer (same_tree k key) (same_tree k other) (trees_tie k key) ((λ e. ties.0 e ∙ sym same), (λ e. ties.1 (e ∙ same)))

-- tests that agree find the same
same_last : (f g : Tree → Bool) → ((k : Tree) → f k ≡ g k) → (ps : Pairs) → last_value f ps ≡ last_value g ps
same_last f g same no_pairs = refl
same_last f g same (pair_then k t ps) = ap₂ (λ o b. or_else o (if b then Some t else None)) (same_last f g same ps) (same k)

-- in a struct or a variant a key finds what its text finds
in_struct : (key : Tree) (n : Text) (d : TreeData) → lookup key (structure n d) ≡ option_and_then (λ k. field_in k d) (text_in key)
in_struct (text k) n d = refl
in_struct key n d = refl

in_variant : (key : Tree) (n : Text) (i : _) (v : Text) (d : TreeData) → lookup key (enumeration n i v d) ≡ option_and_then (λ k. field_in k d) (text_in key)
in_variant (text k) n i v d = refl
in_variant key n i v d = refl

-- the text of a key has no mark
text_unmarked : (key : Tree) → text_in (unmarked key) ≡ text_in key
text_unmarked (text k) = refl
text_unmarked key = refl

same_text : (key other : Tree) → unmarked key ≡ unmarked other → text_in key ≡ text_in other
same_text key other same = sym (text_unmarked key) ∙ (ap text_in same ∙ text_unmarked other)

pub equal_keys : EqualKeys
equal_keys key other (map ps) same = same_last (λ k. same_tree k key) (λ k. same_tree k other) (λ k. same_test key other k same) ps
equal_keys key other (structure n d) same =
    in_struct key n d ∙ (ap (option_and_then (λ k. field_in k d)) (same_text key other same) ∙ sym (in_struct other n d))
equal_keys key other (enumeration n i v d) same =
    in_variant key n i v d ∙ (ap (option_and_then (λ k. field_in k d)) (same_text key other same) ∙ sym (in_variant other n i v d))
equal_keys key other t same = refl

-- the first of three that is there
or_later : {A : Type 0} (a b c : Option A) → or_else (or_else a b) c ≡ or_else a (or_else b c)
or_later None b c = refl
or_later (Some x) b c = refl

or_none : {A : Type 0} (a : Option A) → a ≡ or_else a None
or_none None = refl
or_none (Some x) = refl

pub joined_pairs : JoinedPairs
joined_pairs key [] more = or_none (lookup key (map (pairs_view more)))
joined_pairs key (p ∷ ps) more =
    let here = if same_tree (tree_of p.0) key then Some (tree_of p.1) else None in
    ap (λ o. or_else o here) (joined_pairs key ps more)
    ∙ or_later (lookup key (map (pairs_view more))) (lookup key (map (pairs_view ps))) here

pub last_pair : LastPair
last_pair key ps p same =
    let equal : same_tree (tree_of p.0) key ≡ true = (trees_tie (tree_of p.0) key).1 same in
    joined_pairs key ps (p ∷ []) ∙ ap (λ b. or_else (if b then Some (tree_of p.1) else None) (lookup key (map (pairs_view ps)))) equal

-- neither of two is there
neither : {A : Type 0} (a b : Option A) → or_else a b ≡ None → (a ≡ None) × (b ≡ None)
neither None b none = (refl, none)
neither (Some x) b none = absurd (cc none)

-- a test that finds nothing fails
failed : {A : Type 0} (b : Bool) (x : A) → (if b then Some x else None) ≡ None → b ≡ false
failed false x none = refl
failed true x none = absurd (cc none)

-- what doesn't hold isn't found to hold
not_true : {A : Type 0} (b : Bool) → (b ≡ true → A) → (A → ⊥) → b ≡ false
not_true false holds never = refl
not_true true holds never = absurd (never (holds refl))

nothing_found : (key : Tree) (ps : List (NamedValue × NamedValue)) → NoneEquals key ps → lookup key (map (pairs_view ps)) ≡ None
nothing_found key [] none = refl
nothing_found key (p ∷ ps) none =
    ap₂ (λ o b. or_else o (if b then Some (tree_of p.1) else None)) (nothing_found key ps none.1)
    (not_true (same_tree (tree_of p.0) key) (trees_tie (tree_of p.0) key).0 none.0)

none_equals : (key : Tree) (ps : List (NamedValue × NamedValue)) → lookup key (map (pairs_view ps)) ≡ None → NoneEquals key ps
none_equals key [] none = tt
none_equals key (p ∷ ps) none =
    let parts = neither (lookup key (map (pairs_view ps))) _ none in
    let unequal : same_tree (tree_of p.0) key ≡ false = failed _ _ parts.1 in
    ((λ e. cc (unequal, (trees_tie (tree_of p.0) key).1 e)), none_equals key ps parts.0)

pub missing_key : MissingKey
missing_key key ps = (nothing_found key ps, none_equals key ps)
