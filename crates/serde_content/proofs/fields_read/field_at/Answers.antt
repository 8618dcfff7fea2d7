use Rattle.serde_content.proofs.fields_read.field_at.Goals as goal

pub returns-clause-succeeds : goal.returns-clause-succeeds
returns-clause-succeeds g c = rw c.name_at.ensures at c.named_field.ensures.succeeds

pub returns-clause-value : goal.returns-clause-value
returns-clause-value g c = rw c.name_at.ensures at c.named_field.ensures.value
