use Rattle.std.proofs.Common.{ap}
use Rattle.content_tree.specs.Values.Text.{static_name}
use Rattle.content_tree.specs.declared.cow.CowStr.TheVariants as cow_str
use Rattle.content_ser.proofs.Making.{field_added}
use Rattle.serde_content.proofs.fields_sent.SendInsideSendRow.add_fields.Goals as goal

pub returns : goal.returns
returns g c = field_added _ _ (cow_str.Borrowed c.name_at.result) (ap static_name c.name_at.ensures) c.in_ok-value.ensures c.in_ok-push.ensures.items c.add_fields.ensures
