use Rattle.serde_content.proofs.Scripts.{unsent_refused}
use Rattle.serde_content.proofs.fields_sent.refuse_unsent.Goals as goal

pub returns : goal.returns
returns g c = unsent_refused c.args.text.now c.custom.result c.custom.ensures.kind
