use Rattle.std.proofs.Common.{◌≡◌, ◌-◌, None, take, length}
use Rattle.std.specs.Map.{lookup}
use Rattle.content_de.proofs.by_name.place_of.Given as goal

-- no entry before has the name
abbrev pub invariant-loop-place : goal.invariant-loop-place
invariant-loop-place g l = lookup (g.K.Key.is_text l.fn.name) (take l.place l.fn.entries.items) ≡ None

abbrev pub decreases-loop-place : goal.decreases-loop-place
decreases-loop-place g l = length l.fn.entries.items - l.place
