use Rattle.std.proofs.Common.{Ok, ap, subst}
use Rattle.content_tree.specs.Values.Text.{static_name}
use Rattle.content_tree.specs.declared.cow.CowStr.TheVariants as cow_str
use Rattle.content_ser.specs.Calls.Event.{text}
use Rattle.content_ser.specs.Scripts.Direct.{Spelled}
use Rattle.content_ser.specs.Scripts.Script.{call_then, done}
use Rattle.content_ser.proofs.Making.{field_added}
use Rattle.serde_content.proofs.fields_sent.SendTagSendRow.add_fields.Goals as goal

pub returns : goal.returns
returns g c =
    let named = subst (λ t. Spelled c.args.room (call_then (text t) done) (Ok c.in_ok-variant.variant)) c.name_at.ensures (c.in_ok-variant.ensures c.args.room) in
    field_added _ _ (cow_str.Borrowed c.name_at-2.result) (ap static_name c.name_at-2.ensures) named c.in_ok-push.ensures.items c.add_fields.ensures
