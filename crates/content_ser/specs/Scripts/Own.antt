-- The scripts of a type of your own: structs and the variants of an enum.
use Rattle.std.specs.Prelude.{ℕ, Bool, List}
use Rattle.content_ser.specs.Calls.Event as event
use Rattle.content_ser.specs.Scripts.Script.{Script}
use Rattle.content_ser.specs.Scripts.Standard.{only, call_first, item_first}

-- a struct that holds nothing: its name
abbrev pub unit_struct_script : List ℕ → Bool → Script
unit_struct_script name = only (event.unit_struct name)

-- a struct around one value: its name, and the value's script
abbrev pub newtype_struct_script : List ℕ → (Bool → Script) → Bool → Script
newtype_struct_script name = call_first (event.newtype_struct name)

-- a struct of values by place: its name, its length, and its values up to the end
abbrev pub tuple_struct_script : List ℕ → ℕ → (Bool → Script) → Bool → Script
tuple_struct_script name len = call_first (event.tuple_struct name len)

-- a struct of values by key: its name, its length, and its fields up to the end
abbrev pub struct_script : List ℕ → ℕ → (Bool → Script) → Bool → Script
struct_script name len = call_first (event.structure name len)

-- a variant that holds nothing: the enum's name, the variant's index and its name
abbrev pub unit_variant_script : List ℕ → ℕ → List ℕ → Bool → Script
unit_variant_script name index variant = only (event.unit_variant name index variant)

-- a variant around one value
abbrev pub newtype_variant_script : List ℕ → ℕ → List ℕ → (Bool → Script) → Bool → Script
newtype_variant_script name index variant = call_first (event.newtype_variant name index variant)

-- a variant of values by place
abbrev pub tuple_variant_script : List ℕ → ℕ → List ℕ → ℕ → (Bool → Script) → Bool → Script
tuple_variant_script name index variant len = call_first (event.tuple_variant name index variant len)

-- a variant of values by key
abbrev pub struct_variant_script : List ℕ → ℕ → List ℕ → ℕ → (Bool → Script) → Bool → Script
struct_variant_script name index variant len = call_first (event.struct_variant name index variant len)

-- a field, and then the others
abbrev pub field_first : List ℕ → (Bool → Script) → (Bool → Script) → Bool → Script
field_first key = item_first (event.field key)

-- a value by place, and then the others
abbrev pub tuple_field_first : (Bool → Script) → (Bool → Script) → Bool → Script
tuple_field_first = item_first event.tuple_field

-- the end of what was opened
abbrev pub end_script : Bool → Script
end_script = only event.end
