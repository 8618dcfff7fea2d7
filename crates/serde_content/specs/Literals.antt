-- Words of a derived module into which its proofs look only where they say so: so they don't depend on how long a name is, or how many fields there are.
use Rattle.std.specs.Prelude.{ℕ, List, Option, codes, ⊤}
use Rattle.content_tree.specs.Errors.Cause.{Cause}
use Rattle.content_de.specs.Accesses.ByName.{FieldsLeft, field_named, without_field}
use Rattle.content_de.specs.Reads.Read.{Refusal, Gives, Memoryless}
use Rattle.content_de.specs.Reads.ByName.{named_then, named_or_then, NamedThen, NamedOrThen, others_skipped, FoundMemoryless}
use Prim.Native.String.{String}

-- the letters of a name
unfoldable pub name : String → List ℕ
name text = codes text

-- the field of this name, and then the others
unfoldable pub row_then : List ℕ → Refusal → (FieldsLeft → Option Cause) → FieldsLeft → Option Cause
row_then name refusal others f = named_then name refusal others f

-- the field of this name where there is one, and then the others
unfoldable pub row_or_then : List ℕ → Refusal → (FieldsLeft → Option Cause) → FieldsLeft → Option Cause
row_or_then name refusal others f = named_or_then name refusal others f

-- this value for the field of this name, and then the others
unfoldable pub RowThen : {A : Type 0} → List ℕ → Gives A → A → (FieldsLeft → Type 0) → FieldsLeft → Type 0
RowThen name gives a others f = NamedThen name gives a others f

-- the same, or such a value where there is no such field
unfoldable pub RowOrThen : {A : Type 0} → List ℕ → (A → Type 0) → Gives A → A → (FieldsLeft → Type 0) → FieldsLeft → Type 0
RowOrThen name missing gives a others f = NamedOrThen name missing gives a others f

-- the field of this name is there and read without memory, and so are the others
unfoldable pub RowMemoryless : List ℕ → Memoryless → (FieldsLeft → Type 0) → FieldsLeft → Type 0
RowMemoryless name memoryless others f = FoundMemoryless ⊥ memoryless (field_named name f) × others (without_field name f)

-- the same, or there is no such field
unfoldable pub RowOrMemoryless : List ℕ → Memoryless → (FieldsLeft → Type 0) → FieldsLeft → Type 0
RowOrMemoryless name memoryless others f = FoundMemoryless ⊤ memoryless (field_named name f) × others (without_field name f)

-- the first of these names that an entry has
unfoldable pub others_left : List (List ℕ) → FieldsLeft → Option Cause
others_left known f = others_skipped known f
