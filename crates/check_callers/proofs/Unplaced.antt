-- A unit where a sequence waits for an element can be followed by nothing.
use Rattle.std.proofs.Common.{◌≡◌, List, ◌∷◌}
use Rattle.content_tree.specs.Values.Tree.{Tree, Trees}
use Rattle.content_ser.specs.Grammar.Token.{Token, ItemCall, Series, leaf, open_series}
use Rattle.content_ser.specs.Grammar.Spells.{Spells, SpellsElements}
use Rattle.content_ser.specs.Grammar.Spells.{spells_leaf, spells_wrap, spells_series, spells_map}
use Rattle.content_ser.specs.Grammar.Spells.{spells_record}
use Rattle.content_ser.specs.Grammar.Spells.{elements_end, elements_more}

-- no element, and not the end
no_element : {m : ItemCall} {calls rest : List Token} {ts : Trees} (t : Tree) (more : List Token) → SpellsElements m calls ts rest → calls ≡ leaf t ∷ more → ⊥
no_element t more elements_end e = absurd (cc e)
no_element t more (elements_more s es) e = absurd (cc e)

-- no sequence
pub no_sequence : {calls rest : List Token} {u : Tree} (r : Series) (t : Tree) (more : List Token) → Spells calls u rest → calls ≡ open_series r ∷ leaf t ∷ more → ⊥
no_sequence r t more spells_leaf e = absurd (cc e)
no_sequence r t more (spells_wrap s) e = absurd (cc e)
no_sequence r t more (spells_series s) e = no_element t more s (cc e)
no_sequence r t more (spells_map s) e = absurd (cc e)
no_sequence r t more (spells_record s) e = absurd (cc e)
