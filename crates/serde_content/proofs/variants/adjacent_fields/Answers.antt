use Rattle.serde_content.proofs.variants.adjacent_fields.Goals as goal

pub returns : goal.returns
returns g c = rw c.tag.ensures at c.adjacent_at.ensures
