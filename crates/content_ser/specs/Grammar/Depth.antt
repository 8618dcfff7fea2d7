-- Which lists of calls spell a tree within a limit on how deep trees nest.
use Rattle.std.specs.Prelude.{ℕ, suc, ◌≤◌, List, ◌++◌, Option, Some, None}
use Rattle.content_tree.specs.Values.Tree.{Tree, Trees, Fields}
use Rattle.content_ser.specs.Calls.Event.{Event}
use Rattle.content_ser.specs.Grammar.Token.{Token, ItemCall}
use Rattle.content_ser.specs.Grammar.Spells.{Spells, SpellsElements, SpellsMapItems, SpellsFields}
use Rattle.content_ser.specs.Grammar.Spells.{MapItem, SpellsWhole, spells_leaf, spells_wrap}
use Rattle.content_ser.specs.Grammar.Spells.{spells_series, spells_map, spells_record, elements_end}
use Rattle.content_ser.specs.Grammar.Spells.{elements_more, items_end, items_key, items_value}
use Rattle.content_ser.specs.Grammar.Spells.{items_entry, fields_end, fields_more}

abbrev mutual
  -- where the tree has this depth, it and each tree spelled inside it, dropped ones too, keep the limit
  pub Keeps : {calls rest : List Token} {t : Tree} → Spells calls t rest → ℕ → ℕ → Type 0
  Keeps spells_leaf limit depth = depth ≤ limit
  Keeps (spells_wrap s) limit depth = (depth ≤ limit) × Keeps s limit (suc depth)
  Keeps (spells_series es) limit depth = (depth ≤ limit) × ElementsKeep es limit (suc depth)
  Keeps (spells_map is) limit depth = (depth ≤ limit) × MapItemsKeep is limit (suc depth)
  Keeps (spells_record fs) limit depth = (depth ≤ limit) × FieldsKeep fs limit (suc depth)

  -- the items at this depth
  pub ElementsKeep : {m : ItemCall} {calls rest : List Token} {ts : Trees}
      → SpellsElements m calls ts rest → ℕ → ℕ → Type 0
  ElementsKeep elements_end limit depth = Unit {0}
  ElementsKeep (elements_more s es) limit depth = Keeps s limit depth × ElementsKeep es limit depth

  -- the keys and values at this depth, those that are dropped too
  pub MapItemsKeep : {calls rest : List Token} {items : List MapItem}
      → SpellsMapItems calls items rest → ℕ → ℕ → Type 0
  MapItemsKeep items_end limit depth = Unit {0}
  MapItemsKeep (items_key s is) limit depth = Keeps s limit depth × MapItemsKeep is limit depth
  MapItemsKeep (items_value s is) limit depth = Keeps s limit depth × MapItemsKeep is limit depth
  MapItemsKeep (items_entry k v is) limit depth =
      Keeps k limit depth × Keeps v limit depth × MapItemsKeep is limit depth

  -- the fields at this depth
  pub FieldsKeep : {calls rest : List Token} {fs : Fields}
      → SpellsFields calls fs rest → ℕ → ℕ → Type 0
  FieldsKeep fields_end limit depth = Unit {0}
  FieldsKeep (fields_more s fs) limit depth = Keeps s limit depth × FieldsKeep fs limit depth

-- a limit leaves room for a tree
abbrev pub IsLimit : Option ℕ → Type 0
IsLimit None = Unit {0}
IsLimit (Some limit) = 1 ≤ limit

-- the list spells the tree, and no depth passes the limit, if there is one; the tree's own depth is 1
abbrev pub SpellsWithin : Option ℕ → List Event → Tree → Type 0
SpellsWithin None calls t = SpellsWhole calls t
SpellsWithin (Some limit) calls t = (s : SpellsWhole calls t) × Keeps s limit 1

-- the list spells some tree within the limit
abbrev pub IsWholeWithin : Option ℕ → List Event → Type 0
IsWholeWithin limit calls = (t : Tree) × SpellsWithin limit calls t

-- some list, perhaps empty, makes it whole within the limit when put after it
abbrev pub IsViableWithin : Option ℕ → List Event → Type 0
IsViableWithin limit calls = (more : List Event) × IsWholeWithin limit (calls ++ more)
