-- What an enum reads whose tag is a field.
use Rattle.std.specs.Prelude.{ℕ, List, Option, Some, None, ◌≡◌}
use Rattle.content_tree.specs.Errors.Cause.{Cause}
use Rattle.content_tree.specs.Values.Text.{Text}
use Rattle.content_de.specs.Sources.Origin.{Subject}
use Rattle.content_de.specs.Outcomes.{Outcome, refused, refusal_then, IsTaken}
use Rattle.content_de.specs.Requests.Leaves.{text_from}
use Rattle.content_de.specs.Accesses.ByName.{FieldsLeft, field_named, without_field, buffered_fields}
use Rattle.content_de.specs.Reads.ByName.{missing_field}

-- the text of what was found, where something was
abbrev pub found_text : List ℕ → Option Subject → Outcome Text
found_text name None = refused (missing_field name)
found_text name (Some s) = text_from s.origin

-- the text of the field of this name
abbrev pub tag_at : List ℕ → FieldsLeft → Outcome Text
tag_at name f = found_text name (field_named name f)

-- the field of this name tells the variant, which reads the others
abbrev pub tag_then : List ℕ → (List ℕ → FieldsLeft → Option Cause) → FieldsLeft → Option Cause
tag_then name variants f = refusal_then (tag_at name f) (λ tag. variants tag.content (without_field name f))

-- the field of this name tells this variant, and the others give this
abbrev pub TagThen : List ℕ → List ℕ → (FieldsLeft → Type 0) → FieldsLeft → Type 0
TagThen name variant held f = IsTaken (tag_at name f) (λ tag. tag.content ≡ variant) × held (without_field name f)

-- the field of this name tells the variant, which reads the others out of a buffer
abbrev pub tag_then_buffered : List ℕ → (List ℕ → FieldsLeft → Option Cause) → FieldsLeft → Option Cause
tag_then_buffered name variants f =
    refusal_then (tag_at name f) (λ tag. variants tag.content (buffered_fields (without_field name f)))

-- the field of this name tells this variant, and the others, read out of a buffer, give this
abbrev pub TagThenBuffered : List ℕ → List ℕ → (FieldsLeft → Type 0) → FieldsLeft → Type 0
TagThenBuffered name variant held f =
    IsTaken (tag_at name f) (λ tag. tag.content ≡ variant) × held (buffered_fields (without_field name f))
