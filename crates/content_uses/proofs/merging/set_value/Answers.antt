use Rattle.content_uses.proofs.Putting.{set_view}
use Rattle.content_uses.proofs.merging.set_value.Goals as goal

pub returns : goal.returns
returns g c =
    set_view g.K.Key.tree c.args.pairs.now.items c.args.place c.index_mut-pair.result.now c.args.value
    c.requires c.index_mut-pair.ensures.value
