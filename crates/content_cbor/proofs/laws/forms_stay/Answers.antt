use Rattle.content_cbor.proofs.Forms.{form_own, form_item}
use Rattle.content_cbor.proofs.laws.forms_stay.Goals as goal

pub returns : goal.returns
returns c = record { form = form_own; item = form_item }
