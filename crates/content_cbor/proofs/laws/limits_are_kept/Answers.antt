use Rattle.content_cbor.proofs.Kept.{forms_kept, limits_kept, limits_widen}
use Rattle.content_cbor.proofs.laws.limits_are_kept.Goals as goal

pub returns : goal.returns
returns c = record { kept = limits_kept; form = forms_kept; widened = limits_widen }
