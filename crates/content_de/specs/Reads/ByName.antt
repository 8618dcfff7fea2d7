-- What a type reads by name: each field wherever it is, and then what is left over.
use Rattle.std.specs.Prelude.{ℕ, List, [], ◌∷◌, ◌++◌, Option, Some, None, ⊤, codes, cond}
use Rattle.std.specs.List.{list_any}
use Rattle.std.specs.Str.{bytes_eq}
use Rattle.content_tree.specs.Values.Tree.{Tree, text}
use Rattle.content_tree.specs.Errors.Cause.{Cause, custom, nameless}
use Rattle.content_tree.specs.declared.expected.Expected.TheVariants as want
use Rattle.content_de.specs.Sources.Origin.{Subject, of_tree}
use Rattle.content_de.specs.Outcomes.{mismatch}
use Rattle.content_de.specs.Accesses.Map.{MapLeft}
use Rattle.content_de.specs.Accesses.ByName.{FieldsLeft, by_name, field_named, without_field}
use Rattle.content_de.specs.Reads.Names.{quoted, unknown_text}
use Rattle.content_de.specs.Reads.Read.{Refusal, Gives, Memoryless, first_of}

-- no entry has this name
abbrev pub missing_field : List ℕ → Cause
missing_field name = custom (codes "missing field " ++ quoted name)

-- another entry has this name
abbrev pub duplicate_field : List ℕ → Cause
duplicate_field name = custom (codes "duplicate field " ++ quoted name)

-- an entry has a name that is none of these
abbrev pub unknown_field : List ℕ → List (List ℕ) → Cause
unknown_field name known = custom (unknown_text (codes "field") (codes "there are no fields") name known)

-- what was found is read; where nothing was, this cause or none
abbrev pub found_refusal : Option Cause → Refusal → Option Subject → Option Cause
found_refusal missing refusal None = missing
found_refusal missing refusal (Some s) = refusal s

-- what is found may give; where nothing is, such a value
abbrev pub FoundGives : {A : Type 0} → (A → Type 0) → Gives A → Option Subject → A → Type 0
FoundGives missing gives None a = missing a
FoundGives missing gives (Some s) a = gives s a

-- what is found is read without memory; where nothing is, this holds
abbrev pub FoundMemoryless : Type 0 → Memoryless → Option Subject → Type 0
FoundMemoryless missing memoryless None = missing
FoundMemoryless missing memoryless (Some s) = memoryless s

-- the field of this name, and then the others
abbrev pub named_then : List ℕ → Refusal → (FieldsLeft → Option Cause) → FieldsLeft → Option Cause
named_then name refusal others f = first_of (found_refusal (Some (missing_field name)) refusal (field_named name f)) (others (without_field name f))

-- the field of this name where there is one, and then the others
abbrev pub named_or_then : List ℕ → Refusal → (FieldsLeft → Option Cause) → FieldsLeft → Option Cause
named_or_then name refusal others f = first_of (found_refusal None refusal (field_named name f)) (others (without_field name f))

-- this value for the field of this name, and then the others
abbrev pub NamedThen : {A : Type 0} → List ℕ → Gives A → A → (FieldsLeft → Type 0) → FieldsLeft → Type 0
NamedThen name gives a others f = FoundGives (λ b. ⊥) gives (field_named name f) a × others (without_field name f)

-- the same, or such a value where there is no such field
abbrev pub NamedOrThen : {A : Type 0} → List ℕ → (A → Type 0) → Gives A → A → (FieldsLeft → Type 0) → FieldsLeft → Type 0
NamedOrThen name missing gives a others f = FoundGives missing gives (field_named name f) a × others (without_field name f)

-- the first of these names that an entry has
abbrev pub others_skipped : List (List ℕ) → FieldsLeft → Option Cause
others_skipped [] f = None
others_skipped (name ∷ known) f = first_of (found_refusal None (λ s. Some (duplicate_field name)) (field_named name f)) (others_skipped known f)

-- a name that is left over
abbrev pub other_name : List (List ℕ) → List ℕ → Cause
other_name known name = cond (list_any (λ one. bytes_eq name one) known) (duplicate_field name) (unknown_field name known)

-- a key that is left over
abbrev pub other_key : List (List ℕ) → Tree → Cause
other_key known (text t) = other_name known t.content
other_key known t = mismatch (of_tree t) (nameless want.String)

-- the first key that is left over
abbrev pub first_other : List (List ℕ) → List (Tree × Tree) → Option Cause
first_other known [] = None
first_other known (e ∷ es) = Some (other_key known e.0)

-- the first entry that is left over
abbrev pub no_others : List (List ℕ) → FieldsLeft → Option Cause
no_others known f = first_other known f.entries

-- what is left over gives nothing
abbrev pub NoOthers : FieldsLeft → Type 0
NoOthers f = ⊤

-- the fields of a map, by name
abbrev pub read_by_name : (FieldsLeft → Option Cause) → MapLeft → Option Cause
read_by_name fields m = fields (by_name m)

-- what they give
abbrev pub ReadByName : (FieldsLeft → Type 0) → MapLeft → Type 0
ReadByName fields m = fields (by_name m)
