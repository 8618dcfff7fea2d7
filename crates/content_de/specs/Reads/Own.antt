-- What a type of your own reads: structs by the names of their fields, and enums by their tag.
use Rattle.std.specs.Prelude.{ℕ, List, Option, Some, None, ◌≡◌, ⊤, codes, cond, IsTrue}
use Rattle.std.specs.Str.{bytes_eq}
use Rattle.content_tree.specs.Errors.Cause.{Cause, custom}
use Rattle.content_de.specs.Sources.Origin.{Subject}
use Rattle.content_de.specs.Outcomes.{refusal_of, refusal_then, IsTaken}
use Rattle.content_de.specs.Requests.Leaves.{text_from}
use Rattle.content_de.specs.Requests.Compounds.{unit_struct_from, newtype_from}
use Rattle.content_de.specs.Accesses.Seq.{SeqLeft, tuple_struct_at}
use Rattle.content_de.specs.Accesses.Map.{MapLeft, first_entry, after_entry, struct_at}
use Rattle.content_de.specs.Accesses.Enum.{VariantLeft, enum_at, tag_of, unit_variant_of}
use Rattle.content_de.specs.Accesses.Enum.{newtype_variant_of, tuple_variant_of, struct_variant_of}
use Rattle.content_de.specs.Reads.Names.{unknown_text}
use Rattle.content_de.specs.Reads.Read.{Refusal, Gives, Memoryless, first_of}

-- a struct that holds nothing
abbrev pub unit_struct_refusal : List ℕ → Refusal
unit_struct_refusal name s = refusal_of (unit_struct_from name s.origin)

-- a struct around one value
abbrev pub newtype_struct_refusal : List ℕ → Refusal → Refusal
newtype_struct_refusal name refusal s = refusal_then (newtype_from name s) refusal

-- this value in it
abbrev pub NewtypeStructGives : {A : Type 0} → List ℕ → Gives A → A → Subject → Type 0
NewtypeStructGives name gives a s = IsTaken (newtype_from name s) (λ held. gives held a)

-- a struct of values by place, each part in turn
abbrev pub tuple_struct_refusal : List ℕ → (SeqLeft → Option Cause) → Refusal
tuple_struct_refusal name parts s = refusal_then (tuple_struct_at name s) parts

-- such parts in it
abbrev pub TupleStructGives : List ℕ → (SeqLeft → Type 0) → Subject → Type 0
TupleStructGives name parts s = IsTaken (tuple_struct_at name s) parts

-- a struct of values by key, each field in turn
abbrev pub struct_refusal : List ℕ → (MapLeft → Option Cause) → Refusal
struct_refusal name fields s = refusal_then (struct_at name s) fields

-- such fields in it
abbrev pub StructGives : List ℕ → (MapLeft → Type 0) → Subject → Type 0
StructGives name fields s = IsTaken (struct_at name s) fields

-- the refusal of a name other than this
abbrev pub unless_named : List ℕ → List ℕ → Cause → Option Cause
unless_named name found c = cond (bytes_eq found name) None (Some c)

-- the refusal of the field that comes next: of its key, then of its value, then of another name
abbrev pub field_refusal : List ℕ → Refusal → Option (Subject × Subject) → Option Cause
field_refusal name refusal None = Some (custom (codes "missing field"))
field_refusal name refusal (Some e) = refusal_then (text_from e.0.origin)
    (λ key. first_of (refusal e.1) (unless_named name key.content (custom (codes "unexpected field"))))

-- there is such an entry, and its key is a text, of this name
abbrev pub IsNamed : List ℕ → Option (Subject × Subject) → Type 0
IsNamed name None = ⊥
IsNamed name (Some e) = IsTaken (text_from e.0.origin) (λ key. IsTrue (bytes_eq key.content name))

-- what the field may give
abbrev pub FieldGives : {A : Type 0} → Gives A → Option (Subject × Subject) → A → Type 0
FieldGives gives None a = ⊥
FieldGives gives (Some e) a = gives e.1 a

-- the field has this name, and is read without memory
abbrev pub FieldMemoryless : List ℕ → Memoryless → Option (Subject × Subject) → Type 0
FieldMemoryless name memoryless None = ⊥
FieldMemoryless name memoryless (Some e) = IsNamed name (Some e) × memoryless e.1

-- the field of this name, and then the others
abbrev pub field_then : List ℕ → Refusal → (MapLeft → Option Cause) → MapLeft → Option Cause
field_then name refusal others m =
    first_of (field_refusal name refusal (first_entry m)) (others (after_entry m))

-- no field is left to read
abbrev pub no_field : MapLeft → Option Cause
no_field m = None

-- this value for one field, and then the others
abbrev pub FieldThen : {A : Type 0} → Gives A → A → (MapLeft → Type 0) → MapLeft → Type 0
FieldThen gives a others m = FieldGives gives (first_entry m) a × others (after_entry m)

-- no field is left to read
abbrev pub NoField : MapLeft → Type 0
NoField m = ⊤

-- an enum, its variants told apart by the text of the tag
abbrev pub enum_refusal : List ℕ → (List ℕ → VariantLeft → Option Cause) → Refusal
enum_refusal name variants s = refusal_then (enum_at name s)
    (λ e. refusal_then (text_from (tag_of e).origin) (λ tag. variants tag.content e.variant))

-- the variant of this name, and else one of the others
abbrev pub variant_or : {A : Type 0} → List ℕ → (A → Option Cause) → (List ℕ → A → Option Cause) → List ℕ → A → Option Cause
variant_or name refusal others tag v = cond (bytes_eq tag name) (refusal v) (others tag v)

-- no variant has this name
abbrev pub no_variant : {A : Type 0} → List ℕ → A → Option Cause
no_variant tag v = Some (custom (codes "unknown variant"))

-- the tag is none of these names of variants
abbrev pub unknown_variant : List ℕ → List (List ℕ) → Cause
unknown_variant tag known = custom (unknown_text (codes "variant") (codes "there are no variants") tag known)

-- no variant has this name, but these are known
abbrev pub no_variant_of : {A : Type 0} → List (List ℕ) → List ℕ → A → Option Cause
no_variant_of known tag v = Some (unknown_variant tag known)

-- the variant of this name, which holds this
abbrev pub EnumGives : List ℕ → List ℕ → (VariantLeft → Type 0) → Subject → Type 0
EnumGives name variant held s = IsTaken (enum_at name s)
    (λ e. IsTaken (text_from (tag_of e).origin) (λ tag. tag.content ≡ variant) × held e.variant)

-- a variant that holds nothing
abbrev pub unit_variant_refusal : VariantLeft → Option Cause
unit_variant_refusal v = refusal_of (unit_variant_of v)

-- nothing in it
abbrev pub UnitVariantGives : VariantLeft → Type 0
UnitVariantGives v = IsTaken (unit_variant_of v) (λ u. ⊤)

-- a variant around one value
abbrev pub newtype_variant_refusal : Refusal → VariantLeft → Option Cause
newtype_variant_refusal refusal v = refusal_then (newtype_variant_of v) refusal

-- this value in it
abbrev pub NewtypeVariantGives : {A : Type 0} → Gives A → A → VariantLeft → Type 0
NewtypeVariantGives gives a v = IsTaken (newtype_variant_of v) (λ held. gives held a)

-- a variant of values by place, each part in turn
abbrev pub tuple_variant_refusal : (SeqLeft → Option Cause) → VariantLeft → Option Cause
tuple_variant_refusal parts v = refusal_then (tuple_variant_of v) parts

-- such parts in it
abbrev pub TupleVariantGives : (SeqLeft → Type 0) → VariantLeft → Type 0
TupleVariantGives parts v = IsTaken (tuple_variant_of v) parts

-- a variant of values by key, each field in turn
abbrev pub struct_variant_refusal : (MapLeft → Option Cause) → VariantLeft → Option Cause
struct_variant_refusal fields v = refusal_then (struct_variant_of v) fields

-- such fields in it
abbrev pub StructVariantGives : (MapLeft → Type 0) → VariantLeft → Type 0
StructVariantGives fields v = IsTaken (struct_variant_of v) fields
