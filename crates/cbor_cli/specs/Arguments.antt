-- What an argument asks for, and what the program then does.
use Rattle.std.specs.Prelude.{◌≡◌, ◌⊎◌, ℕ, ◌≤◌, List, codes, Option, IfSome, if◌then◌else◌}
use Rattle.std.specs.Io.KnownBytes.{Appends, IsAtEnd}
use Rattle.std.specs.Str.{bytes_eq}
use Rattle.cbor_cli.specs.Answers.{Tells}
use Rattle.cbor_cli.specs.declared.arguments.Request.{Request}
use Rattle.cbor_cli.specs.declared.arguments.Request.TheVariants.{Answers, Help, Unknown}
use Rattle.cbor_cli.specs.declared.form.Form.TheVariants.{Pretty}

-- values on several lines, the help, or nothing that is known
abbrev pub asked_by : List ℕ → Request
asked_by word =
    if bytes_eq word (codes "--pretty") then Answers Pretty
    else (if bytes_eq word (codes "--help") then Help else Unknown)

-- the statuses of a request: it was done, or memory ran out, the reader or a writer failed
abbrev pub IsStatus : Request → ℕ → Type 0
IsStatus (Answers form) status = (status ≡ 0) ⊎ ((3 ≤ status) × (status ≤ 5))
IsStatus Help status = (status ≡ 0) ⊎ (status ≡ 5)
IsStatus Unknown status = (status ≡ 2) ⊎ (status ≡ 5)

-- what is written where the request was done: the answers to what is left of the input, the help, or nothing
abbrev pub Writes : (help : List ℕ) → Request → (left old new : Option (List ℕ)) → Type 0
Writes help (Answers form) left old new = IfSome left (λ input. Tells form input old new)
Writes help Help left old new = Appends old new help
Writes help Unknown left old new = new ≡ old

-- what is told of a mistake: the text, of what isn't known alone
abbrev pub TellsMistake : (text : List ℕ) → Request → (old new : Option (List ℕ)) → Type 0
TellsMistake text (Answers form) old new = new ≡ old
TellsMistake text Help old new = new ≡ old
TellsMistake text Unknown old new = Appends old new text

-- the input is read to its end for answers alone
abbrev pub ReadsFor : Request → (left rest : Option (List ℕ)) → Type 0
ReadsFor (Answers form) left rest = IsAtEnd rest
ReadsFor Help left rest = rest ≡ left
ReadsFor Unknown left rest = rest ≡ left
