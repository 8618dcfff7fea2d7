use Rattle.std.proofs.Common.{ap}
use Rattle.content_de.specs.Sources.Deserializer.{flags_of}
use Rattle.content_de.proofs.KeyTrees.{pair_keys}
use Rattle.content_de.proofs.map.Map.by_name.Goals as goal

pub returns-in-Pairs-clause-value : goal.returns-in-Pairs-clause-value
returns-in-Pairs-clause-value c = rw c.in-Pairs.is (ap (λ es. record { entries = es; flags = flags_of c.args.self.flags }) (pair_keys c.in-Pairs.pairs.items))
