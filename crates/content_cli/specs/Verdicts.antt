-- What lines of calls come to.
use Rattle.std.specs.Prelude.{◌≡◌, ◌≢◌, ℕ, List, [], ◌∷◌, ◌++◌, length, Option, Some, None}
use Rattle.std.specs.Prelude.{Result, Ok, Err}
use Rattle.serde_content.specs.Names.Words.{Event, seen_of, HasTaken, IsRefusalWithin, CallsError, Builder}
use Rattle.serde_content.specs.Names.Words.{kind_of, Error}
use Rattle.serde_content.specs.Names.ErrorKind.{OutOfMemory}
use Rattle.content_lines.specs.Lines.{calls_of, first_bad}
use Rattle.content_cli.specs.declared.calls.Verdict.{Verdict}
use Rattle.content_cli.specs.declared.calls.Verdict.TheVariants.{BadLine, Taken, Refused}

-- the calls are refused as the error says, unless memory is the cause
abbrev pub IsRefusedWithin : Option ℕ → List Event → CallsError → Type 0
IsRefusedWithin limit calls e = kind_of e.error ≢ OutOfMemory → IsRefusalWithin limit calls e.at (kind_of e.error)

-- a line's call after these calls: it is taken, or each list that begins so is refused there, unless memory is the cause
abbrev pub AnswersLine : Option ℕ → List Event → Event → Result (Unit {0}) Error → Builder → Type 0
AnswersLine limit calls c (Ok u) new = HasTaken limit (calls ++ c ∷ []) (seen_of new)
AnswersLine limit calls c (Err e) new = kind_of e ≢ OutOfMemory → (rest : List Event) → IsRefusalWithin limit (calls ++ c ∷ rest) (length calls) (kind_of e)

-- the first bad line; or all calls, taken in order and counted; or how they are refused
abbrev pub IsVerdict : Option ℕ → List ℕ → Verdict → Type 0
IsVerdict limit body (BadLine place) = first_bad body ≡ Some place
IsVerdict limit body (Taken builder count) = (first_bad body ≡ None) × HasTaken limit (calls_of body) (seen_of builder) × (count ≡ length (calls_of body))
IsVerdict limit body (Refused e) = (first_bad body ≡ None) × IsRefusedWithin limit (calls_of body) e
