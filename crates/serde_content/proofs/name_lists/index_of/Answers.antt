use Rattle.std.proofs.Common.{◌∙◌, ap}
use Rattle.serde_content.specs.Variants.{index_among}
use Rattle.serde_content.proofs.VariantIndex.{index_among_lent, index_found}
use Rattle.serde_content.proofs.name_lists.index_of.Goals as goal

pub returns : goal.returns
returns g c =
    let among = index_among_lent c.args.tag.now c.names.result.now ∙ ap (λ names. index_among names c.args.tag.now) c.names.ensures in
    index_found _ _ _ (c.position_of.ensures ∙ among)
