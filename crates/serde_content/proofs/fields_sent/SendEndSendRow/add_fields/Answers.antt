use Rattle.content_ser.proofs.Making.{fields_end_added}
use Rattle.serde_content.proofs.fields_sent.SendEndSendRow.add_fields.Goals as goal

pub returns : goal.returns
returns c = fields_end_added _ _
