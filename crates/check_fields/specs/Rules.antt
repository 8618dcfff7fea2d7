-- How fields of by_functions are read and sent.
use Rattle.std.specs.Prelude.{◌≡◌, Bool, true, false, Option, Some, None, pos, not, codes, string_bytes, refl}
use Rattle.std.specs.Ordering.{int_eq}
use Rattle.std.specs.declared.alloc.Global.{Global}
use Rattle.std.specs.declared.string.String.{String}
use Rattle.content_tree.specs.Values.Ranges.{u8}
use Rattle.content_de.specs.Outcomes.{refusal_of, IsTaken}
use Rattle.content_de.specs.Requests.Leaves.{text_from}
use Rattle.content_de.specs.Requests.Numbers.{number_from}
use Rattle.content_de.specs.Reads.Read.{Refusal, Gives}
use Rattle.content_de.specs.Reads.Standard.{HasContent}
use Rattle.content_ser.specs.Calls.Event as event
use Rattle.content_ser.specs.Scripts.Script.{Script, IsLawful}
use Rattle.content_ser.specs.Scripts.Standard.{only}
use Rattle.content_ser.specs.Laws.StandardScripts.{leaf_lawful}

-- a flag is a number
abbrev pub deserialize_refusal : Refusal
deserialize_refusal s = refusal_of (number_from u8 s)

-- which is not 0 where it is set
abbrev pub DeserializeGives : Gives Bool
DeserializeGives s b = IsTaken (number_from u8 s) (λ i. b ≡ not (int_eq i (pos 0)))

-- a flag as a word
abbrev pub serialize_script : Bool → Bool → Script
serialize_script true = only (event.text (codes "yes"))
serialize_script false = only (event.text (codes "no"))

-- one call
pub serialize_lawful : (b : Bool) (readable : Bool) → IsLawful (serialize_script b readable)
serialize_lawful true readable = leaf_lawful refl
serialize_lawful false readable = leaf_lawful refl

-- a text, whatever it is
abbrev pub read_text_refusal : Refusal
read_text_refusal s = refusal_of (text_from s.origin)

-- that text
abbrev pub ReadTextGives : Gives (Option (String Global))
ReadTextGives s None = ⊥
ReadTextGives s (Some x) = IsTaken (text_from s.origin) (HasContent (string_bytes x))

-- the text, or an empty one
abbrev pub send_text_script : Option (String Global) → Bool → Script
send_text_script None = only (event.text (codes ""))
send_text_script (Some x) = only (event.text (string_bytes x))

-- one call
pub send_text_lawful : (x : Option (String Global)) (readable : Bool) → IsLawful (send_text_script x readable)
send_text_lawful None readable = leaf_lawful refl
send_text_lawful (Some x) readable = leaf_lawful refl
