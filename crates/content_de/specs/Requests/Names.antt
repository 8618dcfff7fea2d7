-- What is expected where a struct or a variant of some name is asked for.
use Rattle.std.specs.Prelude.{ℕ, List, Some, None}
use Rattle.content_tree.specs.Errors.Cause.{Expectation, structure, enumeration}
use Rattle.content_tree.specs.declared.expected.DataType.{DataType}

-- a struct of this name and type
abbrev pub a_struct : List ℕ → DataType → Expectation
a_struct name typ = structure (Some name) (Some typ)

-- some variant of the enum of this name
abbrev pub an_enum : List ℕ → Expectation
an_enum name = enumeration (Some name) None

-- a variant of this type, of the enum of this name
abbrev pub a_variant : List ℕ → DataType → Expectation
a_variant name typ = enumeration (Some name) (Some typ)
