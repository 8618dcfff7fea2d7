use Rattle.std.proofs.Common.{◌≡◌, ◌-◌, List, ◌++◌}
use Rattle.std.specs.Vec.{vec_len, vec_capacity}
use Rattle.content_de.specs.Accesses.Seq.{seq_view}
use Rattle.content_de.specs.Reads.Arrays.{parts_alike, array_refusal, PartsAlike}
use Rattle.content_de.proofs.impls.array.read_parts.Given as goal

-- what is left is refused where all is, and what it may give, put after the items so far, all may give; there is room for
-- what is left
abbrev pub invariant-loop-found : goal.invariant-loop-found
invariant-loop-found g l = record {
  refusal : parts_alike g.row.N l.found (g.row.N - l.found) g.T.Deserialize.refusal (seq_view l.from) ≡ array_refusal g.row.N g.T.Deserialize.refusal (seq_view l.initial.from);
  gives : (rest : List _) → PartsAlike g.T.Deserialize.gives (g.row.N - l.found) rest (seq_view l.from) → PartsAlike g.T.Deserialize.gives g.row.N (l.items.items ++ rest) (seq_view l.initial.from);
  len : vec_len l.items ≡ l.found;
  room : vec_capacity l.items ≡ g.row.N;
}
