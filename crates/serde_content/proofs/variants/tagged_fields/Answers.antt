use Rattle.serde_content.proofs.variants.tagged_fields.Goals as goal

pub returns : goal.returns
returns g c = rw c.tag.ensures at c.tagged_at.ensures
