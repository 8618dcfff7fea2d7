use Rattle.content_ser.proofs.Making.{items_end_added}
use Rattle.serde_content.proofs.fields_sent.SendEndSendRow.add_elements.Goals as goal

pub returns : goal.returns
returns c = items_end_added _ _
