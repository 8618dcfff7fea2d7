-- How faults of texts print.
use Rattle.std.specs.Prelude.{ℕ, List, ◌++◌, codes}
use Rattle.std.specs.Fmt.{decimal}
use Rattle.content_json.specs.declared.decode_error.Fault.{Fault}
use Rattle.content_json.specs.declared.decode_error.Fault.TheVariants as fault
use Rattle.content_json.specs.declared.decode_error.DecodeError.{DecodeError}
use Rattle.content_json.specs.declared.decode_error.DecodeError.TheVariants as error

-- what is wrong
abbrev pub fault_text : Fault → List ℕ
fault_text fault.Ended = codes "the text ends inside a value"
fault_text fault.Trailing = codes "more after the value"
fault_text fault.TooDeep = codes "values nest too deep"
fault_text fault.Unexpected = codes "a byte out of place"
fault_text fault.LeadingZero = codes "a digit after a leading zero"
fault_text fault.Float = codes "a float"
fault_text fault.TooWide = codes "a number past 128 bits"
fault_text fault.Escape = codes "an unknown escape"
fault_text fault.Surrogate = codes "half of a surrogate pair"
fault_text fault.Control = codes "a control character"
fault_text fault.NotUtf8 = codes "no UTF-8"

-- where, and what is wrong
abbrev pub decode_error_text : DecodeError → List ℕ
decode_error_text error.OutOfMemory = codes "out of memory"
decode_error_text (error.Refused at f) =
    codes "refused at byte " ++ (decimal at ++ (codes ": " ++ fault_text f))
