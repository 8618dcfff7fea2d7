-- What a program writes, and the status that it ends with.
use Rattle.std.specs.Prelude.{◌≡◌, ℕ, List, codes, Option, Result, Ok, Err}
use Rattle.std.specs.String.{string_bytes}
use Rattle.std.specs.Io.KnownBytes.{Appends}
use Rattle.content_lines.specs.declared.answer.Answer.{Answer}
use Rattle.content_lines.specs.declared.failure.Failure.{Failure}
use Rattle.content_lines.specs.declared.failure.Failure.TheVariants.{OutOfMemory, ReadFailed}

-- the line that names a failure, with its line feed
abbrev pub failure_line : Failure → List ℕ
failure_line ReadFailed = codes "read failed\n"
failure_line OutOfMemory = codes "out of memory\n"

-- the status of a failure
abbrev pub failure_status : Failure → ℕ
failure_status ReadFailed = 4
failure_status OutOfMemory = 3

-- the answer's text and its status, or the line and the status of the failure, and nothing else
abbrev pub Tells : Result Answer Failure → ℕ → Option (List ℕ) → Option (List ℕ) → Type 0
Tells (Ok answer) status old new =
    (status ≡ answer.status) × Appends old new (string_bytes answer.text)
Tells (Err failure) status old new =
    (status ≡ failure_status failure) × Appends old new (failure_line failure)
