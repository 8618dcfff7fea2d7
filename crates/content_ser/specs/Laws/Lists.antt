-- Laws of the grammar.
use Rattle.std.specs.Prelude.{◌≡◌, List, [], ◌++◌}
use Rattle.content_tree.specs.Values.Tree.{Tree}
use Rattle.content_ser.specs.Calls.Event.{Event}
use Rattle.content_ser.specs.Grammar.Spells.{SpellsWhole, IsWhole}

-- no whole list is a proper beginning of another
abbrev pub UniqueCut : Type 0
UniqueCut = (calls more : List Event) → IsWhole calls → IsWhole (calls ++ more) → more ≡ []

-- one list spells one tree
abbrev pub OneTree : Type 0
OneTree = (calls : List Event) (t u : Tree) → SpellsWhole calls t → SpellsWhole calls u → t ≡ u
