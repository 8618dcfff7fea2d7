-- Expectations and errors by their contents.
use Rattle.std.specs.Prelude.{ℕ, List, Option, option_map, string_bytes}
use Rattle.std.specs.declared.alloc.Global.{Global}
use Rattle.std.specs.declared.string.String.{String}
use Rattle.content_tree.specs.Images.Image.{Image}
use Rattle.content_tree.specs.Images.Found.{image_view}
use Rattle.content_tree.specs.declared.expected.DataType.{DataType}
use Rattle.content_tree.specs.declared.expected.Expected.{Expected}
use Rattle.content_tree.specs.declared.expected.Expected.TheVariants as want
use Rattle.content_tree.specs.declared.error.ErrorKind.{ErrorKind}
use Rattle.content_tree.specs.declared.error.ErrorKind.TheVariants as error

-- what was expected: a struct or a variant, of a name and a type where they matter, or a case with no name
pub data Expectation : Type 0 where
  structure : Option (List ℕ) → Option DataType → Expectation
  enumeration : Option (List ℕ) → Option DataType → Expectation
  nameless : Expected → Expectation

-- the bytes of a name, where there is one
abbrev pub name_view : Option (String Global) → Option (List ℕ)
name_view = option_map string_bytes

-- what an `Expected` says
abbrev pub expectation_of : Expected → Expectation
expectation_of (want.Struct n t) = structure (name_view n) t
expectation_of (want.Enum n t) = enumeration (name_view n) t
expectation_of e = nameless e

-- why a call was refused
pub data Cause : Type 0 where
  unexpected : Image → Expectation → Cause
  custom : List ℕ → Cause
  out_of_memory : Cause
  misplaced : Cause
  failed : Cause
  unfinished : Cause

-- what a kind of error says
abbrev pub cause_of : ErrorKind → Cause
cause_of (error.Unexpected found expected) = unexpected (image_view found) (expectation_of expected)
cause_of (error.Custom t) = custom (string_bytes t)
cause_of error.OutOfMemory = out_of_memory
cause_of error.Misplaced = misplaced
cause_of error.Failed = failed
cause_of error.Unfinished = unfinished
