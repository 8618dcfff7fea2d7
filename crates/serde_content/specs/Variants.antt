-- The variants of an enum, told apart by the index of their tag among their names.
use Rattle.std.specs.Prelude.{◌≡◌, ◌<◌, ℕ, zero, suc, List, [], ◌∷◌, Option, Some, None, IfSome}
use Rattle.std.specs.Prelude.{length, map, slice_index_or}
use Rattle.std.specs.List.{position}
use Rattle.std.specs.Str.{bytes_eq}
use Rattle.content_tree.specs.Errors.Cause.{Cause}
use Rattle.content_de.specs.Reads.Own.{unknown_variant}

-- the index of the tag among these names
unfoldable pub index_among : List (List ℕ) → List ℕ → Option ℕ
index_among names tag = position (bytes_eq tag) names

-- the answer is that index, and the name there is the tag
abbrev pub IsIndexAmong : List (List ℕ) → List ℕ → Option ℕ → Type 0
IsIndexAmong names tag r = (r ≡ index_among names tag) × IfSome r (λ i. (i < length names) × (slice_index_or names i [] ≡ tag))

-- the refusal of the variant at an index, and this cause where there is none
abbrev pub refusal_at : {A : Type 0} → List (List ℕ × (A → Option Cause)) → Cause → Option ℕ → A → Option Cause
refusal_at variants unknown None v = Some unknown
refusal_at [] unknown (Some i) v = Some unknown
refusal_at (variant ∷ variants) unknown (Some zero) v = variant.1 v
refusal_at (variant ∷ variants) unknown (Some (suc i)) v = refusal_at variants unknown (Some i) v

-- variants by name, each with what it refuses: the refusal of the one that the tag names
abbrev pub variants : {A : Type 0} → List (List ℕ × (A → Option Cause)) → List ℕ → A → Option Cause
variants by_name tag =
    let names = map (λ variant. variant.0) by_name in
    refusal_at by_name (unknown_variant tag names) (index_among names tag)

-- the tag is this name, and what it tags gives this
abbrev pub VariantGives : {A : Type 0} → List ℕ → (A → Type 0) → List ℕ → A → Type 0
VariantGives name held tag v = (tag ≡ name) × held v
