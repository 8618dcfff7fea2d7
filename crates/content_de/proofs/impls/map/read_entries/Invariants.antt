use Rattle.std.proofs.Common.{◌≡◌, ◌+◌, List, ◌++◌, length}
use Rattle.std.specs.Vec.{vec_len, vec_capacity}
use Rattle.content_de.specs.Accesses.Map.{map_view}
use Rattle.content_de.specs.Reads.Maps.{map_refusal}
use Rattle.content_de.specs.Reads.Pairs.{LeftGives}
use Rattle.content_de.proofs.impls.map.read_entries.Given as goal

-- what is left is refused where all is, and what it may give, put after the entries so far, all may give; there is room
-- for what is left
abbrev pub invariant-loop-entry : goal.invariant-loop-entry
invariant-loop-entry g l = record {
  refusal : map_refusal g.K.Deserialize.refusal g.V.Deserialize.refusal (map_view l.from) ≡ map_refusal g.K.Deserialize.refusal g.V.Deserialize.refusal (map_view l.initial.from);
  gives : (rest : List _) → LeftGives g.K.Deserialize.gives g.V.Deserialize.gives (map_view l.from) rest → LeftGives g.K.Deserialize.gives g.V.Deserialize.gives (map_view l.initial.from) (l.entries.items ++ rest);
  room : vec_len l.entries + length (map_view l.from).entries ≡ vec_capacity l.entries;
}

abbrev pub decreases-loop-entry : goal.decreases-loop-entry
decreases-loop-entry g l = length (map_view l.from).entries
