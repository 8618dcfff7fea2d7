-- Tags that stand for the names of variants: aliases, and those of a variant that takes every other tag.
use Rattle.std.specs.Prelude.{◌≡◌, ℕ, List, [], Option, Some, None, slice_index_or}
use Rattle.content_de.specs.Sources.Origin.{Subject}
use Rattle.content_de.specs.Outcomes.{IsTaken}
use Rattle.content_de.specs.Requests.Leaves.{text_from}
use Rattle.content_de.specs.Accesses.ByName.{FieldsLeft, without_field, buffered_fields}
use Rattle.content_de.specs.Accesses.Enum.{VariantLeft, enum_at, tag_of}
use Rattle.content_de.specs.Reads.Tagged.{tag_at}
use Rattle.serde_content.specs.Variants.{index_among}

-- the name at an index, or this one where there is none
abbrev pub name_or : List (List ℕ) → List ℕ → Option ℕ → List ℕ
name_or names tag None = tag
name_or names tag (Some i) = slice_index_or names i []

-- this name, where there is an index, and else another
abbrev pub known_or : List ℕ → List ℕ → Option ℕ → List ℕ
known_or tag other None = other
known_or tag other (Some i) = tag

-- what a tag stands for: an alias for the name in its place, any other tag for itself
abbrev pub meant : (aliases names : List (List ℕ)) → List ℕ → List ℕ
meant aliases names tag = name_or names tag (index_among aliases tag)

-- a tag that is none of the names stands for this one
abbrev pub meant_among : (names : List (List ℕ)) (other : List ℕ) → List ℕ → List ℕ
meant_among names other tag = known_or tag other (index_among names tag)

-- a variant whose name the tag stands for, which holds this
abbrev pub EnumGivesBy : (List ℕ → List ℕ) → List ℕ → List ℕ → (VariantLeft → Type 0) → Subject → Type 0
EnumGivesBy mean name variant held s = IsTaken (enum_at name s)
    (λ e. IsTaken (text_from (tag_of e).origin) (λ tag. mean tag.content ≡ variant) × held e.variant)

-- the field of this name holds a tag that stands for this variant, and the others give this
abbrev pub TagThenBy : (List ℕ → List ℕ) → List ℕ → List ℕ → (FieldsLeft → Type 0) → FieldsLeft → Type 0
TagThenBy mean name variant held f = IsTaken (tag_at name f) (λ tag. mean tag.content ≡ variant) × held (without_field name f)

-- the same where the others are read out of a buffer
abbrev pub TagThenBufferedBy : (List ℕ → List ℕ) → List ℕ → List ℕ → (FieldsLeft → Type 0) → FieldsLeft → Type 0
TagThenBufferedBy mean name variant held f =
    IsTaken (tag_at name f) (λ tag. mean tag.content ≡ variant) × held (buffered_fields (without_field name f))
