-- How errors of encoding print.
use Rattle.std.specs.Prelude.{ℕ, List, ◌++◌, codes}
use Rattle.content_json.specs.declared.encode_error.BadKey.{BadKey}
use Rattle.content_json.specs.declared.encode_error.BadKey.TheVariants as bad
use Rattle.content_json.specs.declared.encode_error.EncodeError.{EncodeError}
use Rattle.content_json.specs.declared.encode_error.EncodeError.TheVariants as error

-- what a key is
abbrev pub kind_text : BadKey → List ℕ
kind_text bad.Unit = codes "a unit"
kind_text bad.Bytes = codes "bytes"
kind_text bad.Seq = codes "a sequence"
kind_text bad.Map = codes "a map"
kind_text bad.None = codes "none"
kind_text bad.Struct = codes "a struct"
kind_text bad.Variant = codes "a variant with data"
kind_text bad.Tuple = codes "a tuple"

-- why a value can't be encoded
abbrev pub error_text : EncodeError → List ℕ
error_text error.OutOfMemory = codes "out of memory"
error_text (error.Key kind) = codes "a key of a map is " ++ kind_text kind
