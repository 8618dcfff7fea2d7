-- The line and the status that an input earns.
use Rattle.std.specs.Prelude.{◌≡◌, ◌≢◌, ◌⊎◌, ℕ, ◌+◌, List, ◌++◌, codes, Option, Some, None}
use Rattle.std.specs.Fmt.{decimal}
use Rattle.std.specs.Io.KnownBytes.{Appends}
use Rattle.serde_content.specs.Names.Words.{Tree, image, printed, kind_text, ErrorKind, SpellsWithin}
use Rattle.serde_content.specs.Names.Words.{IsWholeWithin, IsRefusalWithin}
use Rattle.serde_content.specs.Names.ErrorKind.{OutOfMemory}
use Rattle.content_lines.specs.Lines.{limit_of, body_of, first_bad, calls_of}

-- some line is no call, nor a first one that sets a limit: the first of them is named, counted from 1
pub record IsBad (input line : List ℕ) (status : ℕ) : Type 0 where
  pub place : ℕ
  pub bad : first_bad (body_of input) ≡ Some place
  pub says : line ≡ codes "bad line " ++ (decimal (place + 1) ++ codes "\n")
  pub code : status ≡ 2

-- the calls spell a tree within the limit, which is printed
pub record IsTaken (input line : List ℕ) (status : ℕ) : Type 0 where
  pub good : first_bad (body_of input) ≡ None
  pub tree : Tree
  pub spelled : SpellsWithin (limit_of input) (calls_of (body_of input)) tree
  pub says : line ≡ codes "ok " ++ (printed (image tree) ++ codes "\n")
  pub code : status ≡ 0

-- the calls spell no tree within the limit: the place and the cause, misplaced or unfinished, are named
pub record IsRefused (input line : List ℕ) (status : ℕ) : Type 0 where
  pub good : first_bad (body_of input) ≡ None
  pub at : ℕ
  pub cause : ErrorKind
  pub refused : IsRefusalWithin (limit_of input) (calls_of (body_of input)) at cause
  pub caused : cause ≢ OutOfMemory
  pub says : line ≡ codes "refused at " ++ (decimal at ++ (codes ": " ++ (kind_text cause ++ codes "\n")))
  pub code : status ≡ 1

-- the line, with its line feed, and the status that the input earns
abbrev pub Earns : List ℕ → List ℕ → ℕ → Type 0
Earns input line status = IsBad input line status ⊎ (IsTaken input line status ⊎ IsRefused input line status)

-- the line that the input earns with this status is written, and nothing else
abbrev pub Tells : List ℕ → ℕ → Option (List ℕ) → Option (List ℕ) → Type 0
Tells input status old new = (line : List ℕ) × Earns input line status × Appends old new line

-- which inputs earn the status
pub record EarnsStatus (input : List ℕ) (status : ℕ) : Type 0 where
  pub tree : first_bad (body_of input) ≡ None → IsWholeWithin (limit_of input) (calls_of (body_of input)) → status ≡ 0
  pub none : first_bad (body_of input) ≡ None → ¬ IsWholeWithin (limit_of input) (calls_of (body_of input)) → status ≡ 1
  pub bad : (place : ℕ) → first_bad (body_of input) ≡ Some place → status ≡ 2
