-- The index of a tag among names.
use Rattle.std.proofs.Common.{◌≡◌, ◌+◌, ◌∙◌, ℕ, List, [], ◌∷◌, Option, Some, None, Bool}
use Rattle.std.proofs.Common.{Bor, cond, map, length, get_or, nat_lt, refl, ap, sym}
use Rattle.std.specs.Prelude.{not}
use Rattle.std.specs.List.{position, prefix_len, position_or_len}
use Rattle.std.specs.Str.{bytes_eq}
use Rattle.std.proofs.lemmas.List.{length-map}
use Rattle.std.proofs.lemmas.List.Quantifiers.{position-Some}
use Rattle.std.proofs.lemmas.Slice.Eq.{bytes_eq-Decides}
use Rattle.serde_content.specs.Variants.{index_among, IsIndexAmong}

-- as many pass a test from the front on, whether what it tests is taken out before or then
prefix_len-map : {A B : Type 0} (p : B → Bool) (f : A → B) (xs : List A) → prefix_len p (map f xs) ≡ prefix_len (λ x. p (f x)) xs
prefix_len-map p f [] = refl
prefix_len-map p f (x ∷ xs) = ap (λ n. cond (p (f x)) (1 + n) 0) (prefix_len-map p f xs)

-- a place, where it is within a length
within : ℕ → ℕ → Option ℕ
within place len = cond (nat_lt place len) (Some place) None

-- the first that passes is at the same place
position-map : {A B : Type 0} (p : B → Bool) (f : A → B) (xs : List A) → position p (map f xs) ≡ position (λ x. p (f x)) xs
unfolding within
position-map p f xs = ap (λ place. within place (length (map f xs))) (prefix_len-map (λ x. not (p x)) f xs)
    ∙ ap (within (position_or_len (λ x. p (f x)) xs)) (length-map xs f)

-- names are found through references as they are without
pub index_among_lent : (tag : List ℕ) (names : List (Bor (List ℕ))) → position (λ name. bytes_eq tag name.now) names ≡ index_among (map (λ name. name.now) names) tag
unfolding index_among
index_among_lent tag names = sym (position-map (bytes_eq tag) (λ name. name.now) names)

-- the name at the index of the tag is the tag
pub index_found : (tag : List ℕ) (names : List (List ℕ)) (r : Option ℕ) → r ≡ index_among names tag → IsIndexAmong names tag r
unfolding index_among
index_found tag names None is = (is, tt)
index_found tag names (Some i) is =
    let there = position-Some (bytes_eq tag) names i [] (sym is) in
    (is, (there.0, sym ((bytes_eq-Decides tag (get_or names i [])).0 there.1)))
