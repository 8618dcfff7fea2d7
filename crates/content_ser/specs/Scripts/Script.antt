-- Scripts: lists of calls, and perhaps a text with which they stop.
use Rattle.std.specs.Prelude.{◌≡◌, List, [], ◌∷◌, Option, Some, None, string_bytes, ℕ}
use Rattle.content_tree.specs.Errors.Kind.{kind_of}
use Rattle.content_tree.specs.declared.error.Error.{Error}
use Rattle.content_tree.specs.declared.error.ErrorKind.TheVariants.{Custom}
use Rattle.content_ser.specs.Calls.Event.{Event}
use Rattle.content_ser.specs.Grammar.Spells.{IsWhole, IsViable}

-- calls, and then nothing or a text with which they stop
pub data Script : Type 0 where
  done : Script
  stop_with : List ℕ → Script
  call_then : Event → Script → Script

-- the calls of a script
abbrev pub calls_of : Script → List Event
calls_of done = []
calls_of (stop_with message) = []
calls_of (call_then c sc) = c ∷ calls_of sc

-- the text with which it stops, if it stops
abbrev pub stop_of : Script → Option (List ℕ)
stop_of done = None
stop_of (stop_with message) = Some message
stop_of (call_then c sc) = stop_of sc

-- one script after another, unless the first stops
abbrev pub and_then : Script → Script → Script
and_then done b = b
and_then (stop_with message) b = stop_with message
and_then (call_then c a) b = call_then c (and_then a b)

-- without a stop its calls spell a tree, and with a stop some calls can follow that make them spell one
pub record IsLawful (sc : Script) : Type 0 where
  pub whole : stop_of sc ≡ None → IsWhole (calls_of sc)
  pub viable : IsViable (calls_of sc)

-- an error of the caller's or the library's own words
abbrev pub IsCustom : List ℕ → Error → Type 0
IsCustom message e = (t : _) × (kind_of e ≡ Custom t) × (string_bytes t ≡ message)
