-- How faults of bytes print.
use Rattle.std.specs.Prelude.{ℕ, List, ◌++◌, codes}
use Rattle.std.specs.Fmt.{decimal}
use Rattle.content_cbor.specs.declared.decode_error.Fault.{Fault}
use Rattle.content_cbor.specs.declared.decode_error.Fault.TheVariants as fault
use Rattle.content_cbor.specs.declared.decode_error.DecodeError.{DecodeError}
use Rattle.content_cbor.specs.declared.decode_error.DecodeError.TheVariants as error

-- what is wrong
abbrev pub fault_text : Fault → List ℕ
fault_text fault.Ended = codes "the bytes end inside an item"
fault_text fault.Trailing = codes "bytes after the item"
fault_text fault.Reserved = codes "no first byte of an item"
fault_text fault.Break = codes "a break out of place"
fault_text fault.WrongChunk = codes "an item that is no chunk"
fault_text fault.WrongKind = codes "an item of a wrong kind"
fault_text fault.Float = codes "a float"
fault_text fault.Simple = codes "an unknown simple value"
fault_text fault.Tag = codes "an unknown tag"
fault_text fault.TooDeep = codes "items nest too deep"
fault_text fault.TooWide = codes "a number past 128 bits"
fault_text fault.NotUtf8 = codes "a text that is no UTF-8"

-- where, and what is wrong
abbrev pub error_text : DecodeError → List ℕ
error_text error.OutOfMemory = codes "out of memory"
error_text (error.Refused at f) =
    codes "refused at byte " ++ (decimal at ++ (codes ": " ++ fault_text f))
