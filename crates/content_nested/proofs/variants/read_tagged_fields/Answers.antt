use Rattle.content_nested.proofs.variants.read_tagged_fields.Goals as goal

pub returns : goal.returns
returns g c = rw c.tag.ensures at c.read_tagged_by.ensures
