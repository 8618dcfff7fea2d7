use Rattle.std.proofs.Common.{◌≡◌, [], subst, sym}
use Rattle.content_de.specs.Accesses.Map.{map_at, map_view}
use Rattle.content_de.specs.Outcomes.{taken}
use Rattle.content_de.specs.Reads.Maps.{MapGives}
use Rattle.content_de.specs.Sources.Deserializer.{subject}
use Rattle.content_de.proofs.PutIn.{pairs_put_in}
use Rattle.content_de.proofs.impls.map.BTreeMapDeserialize.deserialize.Goals as goal

pub returns-clause-value : goal.returns-clause-value
returns-clause-value g c =
    let m = c.in_ok-deserialize_map.field-0 in
    let there : map_at (subject c.args.from) ≡ taken (map_view m) = c.in_ok-deserialize_map.ensures.value in
    rw there (
      c.in_ok-entries.ensures.0,
      subst (λ es. MapGives g.K.Deserialize.gives g.V.Deserialize.gives g.K.Ord.cmp (map_view m) [] es) (sym c.in_ok-collect.ensures)
          (pairs_put_in g.K.Deserialize.gives g.V.Deserialize.gives g.K.Ord.cmp _ _ c.in_ok-entries.entries.items [] c.in_ok-entries.ensures.1),
    )
