-- What encoding answers to a value whose keys can't all be keys.
use Rattle.std.specs.Prelude.{◌≡◌, Option, Some}
use Rattle.content_json.specs.declared.encode_error.BadKey.{BadKey}
use Rattle.content_json.specs.declared.encode_error.EncodeError.{EncodeError}
use Rattle.content_json.specs.declared.encode_error.EncodeError.TheVariants as error

-- the first key that can't be one, or out of memory
abbrev pub IsRefusal : Option BadKey → EncodeError → Type 0
IsRefusal first error.OutOfMemory = Unit {0}
IsRefusal first (error.Key kind) = first ≡ Some kind
