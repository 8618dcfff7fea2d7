use Rattle.std.proofs.Common.{◌≡◌, ◌++◌, vec_len}
use Rattle.content_de.proofs.impls.map.from_the_back.Given as goal

-- the entries that are left, and then the map's, are all
abbrev pub invariant-loop-key : goal.invariant-loop-key
invariant-loop-key g l = l.entries.items ++ l.map.entries ≡ l.fn.entries.items

abbrev pub decreases-loop-key : goal.decreases-loop-key
decreases-loop-key g l = vec_len l.entries
