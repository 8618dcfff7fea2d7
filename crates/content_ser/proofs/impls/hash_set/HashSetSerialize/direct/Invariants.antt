use Rattle.std.proofs.Common.{List, ◌++◌, ◌+◌, ◌≤◌, length}
use Rattle.std.specs.List.{AllZip}
use Rattle.std.specs.Vec.{vec_len, vec_capacity}
use Rattle.content_tree.specs.declared.value.NamedValue.{NamedValue}
use Rattle.content_ser.specs.Scripts.Direct.{IsMadeBy}
use Rattle.content_ser.proofs.impls.hash_set.HashSetSerialize.direct.Given as goal

-- whatever is made of the rest can be put after what was made, and there is room for it
abbrev pub invariant-loop-item : goal.invariant-loop-item
invariant-loop-item g l =
    ((more : List NamedValue) → AllZip (IsMadeBy g.T.Serialize.script l.readable l.levels) l.item-iterator more
    → AllZip (IsMadeBy g.T.Serialize.script l.readable l.levels) l.self.keys (l.items.items ++ more))
    × (vec_len l.items + length l.item-iterator ≤ vec_capacity l.items)
