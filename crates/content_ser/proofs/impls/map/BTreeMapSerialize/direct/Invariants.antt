use Rattle.std.proofs.Common.{List, ◌++◌, ◌+◌, ◌≤◌, length}
use Rattle.std.specs.List.{AllZip}
use Rattle.std.specs.Vec.{vec_len, vec_capacity}
use Rattle.content_tree.specs.declared.value.NamedValue.{NamedValue}
use Rattle.content_ser.specs.Scripts.Direct.{ArePairMadeBy}
use Rattle.content_ser.proofs.impls.map.BTreeMapSerialize.direct.Given as goal

-- whatever is made of the rest can be put after what was made, and there is room for it
abbrev pub invariant-loop-key : goal.invariant-loop-key
invariant-loop-key g l =
    ((more : List (NamedValue × NamedValue)) → AllZip (ArePairMadeBy g.K.Serialize.script g.V.Serialize.script l.readable l.levels) l.key-iterator more
    → AllZip (ArePairMadeBy g.K.Serialize.script g.V.Serialize.script l.readable l.levels) l.self.entries (l.pairs.items ++ more))
    × (vec_len l.pairs + length l.key-iterator ≤ vec_capacity l.pairs)
