-- What contracts see of the types of a line.
use Rattle.std.specs.Prelude.{◌≡◌, Bool, true, false, Option, None, Some, MatchOption}
use Rattle.serde_content.specs.Names.Event as event
use Rattle.serde_content.specs.Names.Words.{Call, Event, event_of}
use Rattle.content_lines.specs.Numerals.{unhex}
use Rattle.content_lines.specs.Forms as forms
use Rattle.content_lines.specs.declared.line.Line.{Line}
use Rattle.content_lines.specs.declared.line.Line.TheVariants as line
use Rattle.content_lines.specs.declared.line.Variant.{Variant}

-- a variant, by its contents
abbrev pub variant_parts : Variant → forms.Variant
variant_parts v = record { name = v.name.now; index = v.index; variant = v.variant.now }

-- the call that a line says
abbrev pub line_event : Line → Event
line_event (line.Call call) = event_of call
line_event (line.Bytes digits) = event.octets (unhex digits.now)

-- whether a line says a call of bytes
abbrev pub says_bytes : Line → Bool
says_bytes (line.Call call) = false
says_bytes (line.Bytes digits) = true

-- a reader's answer, where this call is wanted
abbrev pub Spells : Option Call → Option Event → Type 0
Spells result wanted = MatchOption result (wanted ≡ None) (λ call. wanted ≡ Some (event_of call))

-- the same of a line
abbrev pub Reads : Option Line → Option Event → Type 0
Reads result wanted = MatchOption result (wanted ≡ None) (λ l. wanted ≡ Some (line_event l))
