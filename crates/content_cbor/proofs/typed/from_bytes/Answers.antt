use Rattle.std.proofs.Common.{subst, inr}
use Rattle.content_cbor.specs.Decoded.{IsPlaced, StopsAt}
use Rattle.content_cbor.specs.Inner.Reading.{whole_at}
use Rattle.content_cbor.proofs.typed.from_bytes.Goals as goal

pub returns-in_ok-text-in-Err-Refused-clause-fault :
    goal.returns-in_ok-text-in-Err-Refused-clause-fault
returns-in_ok-text-in-Err-Refused-clause-fault g c = λ none.
    let bs = c.args.bytes.now in
    let limit = c.args.depth_limit in
    let refused = c.in-Err-Refused in
    let text = c.in_ok-text-in-Err-Refused in
    inr (
      refused.at,
      refused.fault,
      subst (λ e. StopsAt bs e (whole_at limit bs)) refused.field-0-is refused.ensures.fault,
      subst (IsPlaced limit bs) refused.field-0-is refused.ensures.place,
      (text.text, c.from-in-Err-Refused.ensures.0, text.ensures.ok),
    )
