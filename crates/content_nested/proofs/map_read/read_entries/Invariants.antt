use Rattle.std.proofs.Common.{◌≡◌, List, [], length}
use Rattle.content_de.specs.Accesses.Map.{map_view}
use Rattle.content_de.specs.Reads.Maps.{map_refusal, MapGives}
use Rattle.content_nested.proofs.map_read.read_entries.Given as goal

-- what is left is refused where all is, and where it leads from the entries so far, all leads from none
abbrev pub invariant-loop-entries : goal.invariant-loop-entries
invariant-loop-entries g l =
    let levels = l.levels in
    let refusal = g.L.ReadsWithin.refusal levels in
    let gives = g.L.ReadsWithin.gives levels in
    record {
      refusal : map_refusal g.K.Deserialize.refusal refusal (map_view l.from) ≡ map_refusal g.K.Deserialize.refusal refusal (map_view l.initial.from);
      gives : (new : List _) → MapGives g.K.Deserialize.gives gives g.K.Ord.cmp (map_view l.from) l.entries.entries new → MapGives g.K.Deserialize.gives gives g.K.Ord.cmp (map_view l.initial.from) [] new;
    }

abbrev pub decreases-loop-entries : goal.decreases-loop-entries
decreases-loop-entries g l = length (map_view l.from).entries
