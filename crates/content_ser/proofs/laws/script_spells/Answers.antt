use Rattle.content_ser.proofs.Spelling.{script_spells}
use Rattle.content_ser.proofs.laws.script_spells.Goals as goal

pub returns : goal.returns
returns c = script_spells
