use Rattle.std.proofs.Common.{map, take}
use Rattle.content_ser.specs.Sending.Loose.{sorted}
use Rattle.content_ser.specs.Sending.Places.{keyed_tree_of, StandsFor}
use Rattle.content_ser.proofs.send.places.last_places.Given as goal

-- the places so far mean the entries so far
abbrev pub invariant-loop-i : goal.invariant-loop-i
invariant-loop-i l = StandsFor l.fields.items l.places.entries (sorted (map keyed_tree_of (take l.i l.fields.items)))
