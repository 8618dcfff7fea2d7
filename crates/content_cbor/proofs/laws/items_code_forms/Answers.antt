use Rattle.content_cbor.proofs.Coded.{codes_form}
use Rattle.content_cbor.proofs.laws.items_code_forms.Goals as goal

pub returns : goal.returns
returns c = codes_form
