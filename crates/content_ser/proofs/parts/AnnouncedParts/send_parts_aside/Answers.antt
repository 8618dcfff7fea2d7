use Rattle.content_ser.proofs.Beginning.{begun_exit_aside, begun_value}
use Rattle.content_ser.proofs.parts.AnnouncedParts.send_parts_aside.Goals as goal

pub returns-in_err-send_first : goal.returns-in_err-send_first
returns-in_err-send_first g c = begun_exit_aside _ _ c.from_residual.ensures.1 (λ rest. c.in_err-send_first.ensures _)

pub returns-in_err-send_first-2 : goal.returns-in_err-send_first-2
returns-in_err-send_first-2 g c =
    begun_exit_aside _ _ c.from_residual-in_err-send_first-2.ensures.1
    (λ rest. c.in_ok-send_first.ensures _ _ _ (c.in_err-send_first-2.ensures _))

pub returns : goal.returns
returns g c =
    begun_value {start = g.P.Parts.first c.args.self.now.before} {item_call = g.M.Parts.first c.args.self.now.item_call} _
    c.in_ok-send_first.ensures c.in_ok-send_first-2.ensures c.serialize_aside.ensures
