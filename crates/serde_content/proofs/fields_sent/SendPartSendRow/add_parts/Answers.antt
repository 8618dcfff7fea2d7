use Rattle.std.proofs.Common.{refl}
use Rattle.content_ser.specs.Calls.Event.{tuple_field}
use Rattle.content_ser.proofs.Making.{item_added}
use Rattle.serde_content.proofs.fields_sent.SendPartSendRow.add_parts.Goals as goal

pub returns : goal.returns
returns g c = item_added tuple_field _ _ refl c.in_ok-direct.ensures c.in_ok-push.ensures.items c.add_parts.ensures
