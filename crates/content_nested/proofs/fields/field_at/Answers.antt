use Rattle.content_nested.proofs.fields.field_at.Goals as goal

pub returns-clause-value : goal.returns-clause-value
returns-clause-value g c = rw c.name_at.ensures at c.named_field.ensures.value
