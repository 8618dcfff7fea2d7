-- How it prints that bytes are no records.
use Rattle.std.specs.Prelude.{ℕ, List, codes}
use Rattle.content_cbor.specs.PrintedFault.{error_text}
use Rattle.content_uses.specs.declared.load_error.LoadError.{LoadError}
use Rattle.content_uses.specs.declared.load_error.LoadError.TheVariants as load

-- why
abbrev pub load_text : LoadError → List ℕ
load_text (load.Decode e) = error_text e
load_text load.NotArray = codes "no array of records"
