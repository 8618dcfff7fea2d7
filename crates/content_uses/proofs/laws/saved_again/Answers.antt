use Rattle.std.proofs.Common.{ap, sym, ◌∙◌}
use Rattle.content_cbor.specs.Item.{item}
use Rattle.content_uses.specs.Saved.{array_of}
use Rattle.content_uses.proofs.Loaded.{array_form}
use Rattle.content_uses.proofs.laws.saved_again.Goals as goal

pub returns : goal.returns
returns c = λ ts. ap item (sym (array_form ts)) ∙ c.forms_stay.ensures.item (array_of ts)
