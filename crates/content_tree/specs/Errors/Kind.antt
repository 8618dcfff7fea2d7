-- The kind of an error.
use Rattle.std.specs.Prelude.{ℕ, List, ◌≡◌, ⊤, string_bytes}
use Rattle.content_tree.specs.declared.error.Error.{Error}
use Rattle.content_tree.specs.declared.error.ErrorKind.{ErrorKind}
use Rattle.content_tree.specs.declared.error.ErrorKind.TheVariants.{Unexpected, Custom, OutOfMemory}
use Rattle.content_tree.specs.declared.error.ErrorKind.TheVariants.{Misplaced, Failed, Unfinished}

-- the kind of an error
abbrev pub kind_of : Error → ErrorKind
kind_of e = e.kind

-- an allocation failed
abbrev pub IsOutOfMemory : Error → Type 0
IsOutOfMemory e = kind_of e ≡ OutOfMemory

-- an error of this text, or an allocation failed
abbrev pub IsCustomOrMemory : List ℕ → ErrorKind → Type 0
IsCustomOrMemory text (Unexpected found expected) = ⊥
IsCustomOrMemory text (Custom own) = string_bytes own ≡ text
IsCustomOrMemory text OutOfMemory = ⊤
IsCustomOrMemory text Misplaced = ⊥
IsCustomOrMemory text Failed = ⊥
IsCustomOrMemory text Unfinished = ⊥
