-- What the refusal of a list of calls prints.
use Rattle.std.specs.Prelude.{ℕ, List, ◌++◌, codes}
use Rattle.std.specs.Fmt.{decimal}
use Rattle.content_tree.specs.Printed.Errors.{error_text}
use Rattle.content_build.specs.declared.calls_error.CallsError.{CallsError}

-- the place, and then why
abbrev pub refusal_text : CallsError → List ℕ
refusal_text e = codes "refused at " ++ (decimal e.at ++ (codes ": " ++ error_text e.error))
