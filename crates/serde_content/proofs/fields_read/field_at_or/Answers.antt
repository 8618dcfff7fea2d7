use Rattle.serde_content.proofs.fields_read.field_at_or.Goals as goal

pub returns-clause-succeeds : goal.returns-clause-succeeds
returns-clause-succeeds g c = rw c.name_at.ensures at c.field_or.ensures.succeeds
