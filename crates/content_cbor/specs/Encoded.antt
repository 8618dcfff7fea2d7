-- What anything that can be serialised is as bytes.
use Rattle.std.specs.Prelude.{◌≡◌, ◌⊎◌, ℕ, List, None, Some, Result, Ok, Err}
use Rattle.std.specs.declared.alloc.Global.{Global}
use Rattle.std.specs.declared.vec.Vec.{Vec}
use Rattle.content_tree.specs.Errors.Kind.{IsOutOfMemory}
use Rattle.content_tree.specs.Values.Tree.{Tree}
use Rattle.content_tree.specs.declared.error.Error.{Error}
use Rattle.content_ser.specs.Scripts.Script.{Script, calls_of, stop_of, IsCustom}
use Rattle.content_ser.specs.Grammar.Spells.{SpellsWhole}
use Rattle.content_cbor.specs.Form.{CodesForm, Fits}
use Rattle.content_cbor.specs.Item.{item}

-- the item of the tree that the calls spell, which fits, coding its form; or the stop's error; or out of memory
abbrev pub Encoded : Script → Result (Vec ℕ Global) Error → Type 0
Encoded script (Ok bytes) = (t : Tree)
    × (stop_of script ≡ None) × SpellsWhole (calls_of script) t × Fits t
    × (bytes.items ≡ item t) × CodesForm t bytes.items
Encoded script (Err e) = IsOutOfMemory e
    ⊎ ((message : List ℕ) × (stop_of script ≡ Some message) × IsCustom message e)
