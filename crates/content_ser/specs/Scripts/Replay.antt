-- The script of a list of calls.
use Rattle.std.specs.Prelude.{List, [], ◌∷◌}
use Rattle.content_ser.specs.Calls.Event.{Event}
use Rattle.content_ser.specs.Scripts.Script.{Script, done, call_then}

-- these calls, and no stop
abbrev pub calls_script : List Event → Script
calls_script [] = done
calls_script (c ∷ cs) = call_then c (calls_script cs)
