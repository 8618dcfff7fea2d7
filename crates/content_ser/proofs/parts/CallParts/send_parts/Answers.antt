use Rattle.content_ser.proofs.Beginning.{begun_call}
use Rattle.content_ser.proofs.parts.CallParts.send_parts.Goals as goal

pub returns : goal.returns
returns g c = begun_call _ c.lend.ensures c.call.ensures
