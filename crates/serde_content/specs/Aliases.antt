-- Fields that are read by several names.
use Rattle.std.specs.Prelude.{ℕ, List, [], ◌∷◌, Option, Some, None}
use Rattle.content_tree.specs.Errors.Cause.{Cause}
use Rattle.content_de.specs.Sources.Origin.{Subject}
use Rattle.content_de.specs.Accesses.ByName.{FieldsLeft, field_named, without_field}
use Rattle.content_de.specs.Reads.Read.{Refusal, Gives, first_of}
use Rattle.content_de.specs.Reads.ByName.{found_refusal, FoundGives, duplicate_field}

-- what was found, or else this
abbrev pub found_or : Option Subject → Option Subject → Option Subject
found_or None other = other
found_or (Some s) other = Some s

-- the first, where something was found, and else the other
abbrev pub left_or : Option Subject → FieldsLeft → FieldsLeft → FieldsLeft
left_or None f other = other
left_or (Some s) f other = f

-- the field of the first of these names that there is
abbrev pub found_by : List (List ℕ) → FieldsLeft → Option Subject
found_by [] f = None
found_by (name ∷ names) f = found_or (field_named name f) (found_by names (without_field name f))

-- this name, where something was found, and else the other
abbrev pub name_or : Option Subject → List ℕ → Option (List ℕ) → Option (List ℕ)
name_or None name other = other
name_or (Some s) name other = Some name

-- the first of these names that a field has
abbrev pub name_by : List (List ℕ) → FieldsLeft → Option (List ℕ)
name_by [] f = None
name_by (name ∷ names) f = name_or (field_named name f) name (name_by names (without_field name f))

-- the others
abbrev pub left_by : List (List ℕ) → FieldsLeft → FieldsLeft
left_by [] f = f
left_by (name ∷ names) f = left_or (field_named name f) (without_field name f) (left_by names (without_field name f))

-- the field by one of these names, which is told by this name, no other by any of them, and then the others
unfoldable pub aliased_then : List ℕ → List (List ℕ) → Option Cause → Refusal → (FieldsLeft → Option Cause) → FieldsLeft → Option Cause
aliased_then name names absent refusal others f =
    first_of (first_of (found_refusal absent refusal (found_by names f)) (found_refusal None (λ s. Some (duplicate_field name)) (found_by names (left_by names f))))
    (others (left_by names (left_by names f)))

-- this value for it, or such a value where there is none, and then the others
unfoldable pub AliasedThen : {A : Type 0} → List (List ℕ) → (A → Type 0) → Gives A → A → (FieldsLeft → Type 0) → FieldsLeft → Type 0
AliasedThen names missing gives a others f = FoundGives missing gives (found_by names f) a × others (left_by names (left_by names f))
