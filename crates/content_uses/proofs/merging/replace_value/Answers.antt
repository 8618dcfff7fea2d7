use Rattle.std.proofs.Common.{Some, ap, ◌∙◌}
use Rattle.serde_content.specs.Names.Words.{tree_of}
use Rattle.content_uses.specs.Places.{with_value, keyed}
use Rattle.content_uses.proofs.Putting.{set_view, value_view}
use Rattle.content_uses.proofs.merging.replace_value.Goals as goal

pub returns-clause-value : goal.returns-clause-value
returns-clause-value g c =
    ap (λ v. Some (tree_of v)) c.replace.ensures.value
    ∙ value_view g.K.Key.tree c.args.pairs.now.items c.args.place c.index_mut-pair.result.now
    c.requires c.index_mut-pair.ensures.value

pub returns-clause-placed : goal.returns-clause-placed
returns-clause-placed g c =
    set_view g.K.Key.tree c.args.pairs.now.items c.args.place c.index_mut-pair.result.now
    c.replace.new.dest c.requires c.index_mut-pair.ensures.value
    ∙ ap (λ v. with_value c.args.place (tree_of v) (keyed g.K.Key.tree c.args.pairs.now.items))
    c.replace.ensures.after
