use Rattle.std.proofs.Common.{◌≡◌, drop}
use Rattle.std.specs.Str.{bytes_eq}
use Rattle.content_tree.specs.Values.Paths.{escape}
use Rattle.content_tree.proofs.pointer.spells.Given as goal

-- what is left of the piece spells what is left of the text exactly if the whole does
abbrev pub invariant-loop-byte : goal.invariant-loop-byte
invariant-loop-byte l = bytes_eq l.fn.piece (escape l.fn.text) ≡ bytes_eq l.left (escape (drop l.byte-index l.fn.text))
