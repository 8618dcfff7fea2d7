use Rattle.serde_content.proofs.fields_sent.send_call.Goals as goal

pub returns : goal.returns
returns g c = rw c.lend.ensures at c.call_aside.ensures
