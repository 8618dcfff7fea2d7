-- Which lists of calls spell a tree.
use Rattle.std.specs.Prelude.{ℕ, List, [], ◌∷◌, ◌++◌}
use Rattle.content_tree.specs.Values.Text.{static_name}
use Rattle.content_tree.specs.Values.Tree as tree
use Rattle.content_tree.specs.Values.Tree.{Tree, Trees, no_trees, tree_then, Pairs, no_pairs}
use Rattle.content_tree.specs.Values.Tree.{pair_then, Fields, no_fields, field_then}
use Rattle.content_ser.specs.Calls.Event.{Event}
use Rattle.content_ser.specs.Calls.Head.{Head}
use Rattle.content_ser.specs.Grammar.Token as token
use Rattle.content_ser.specs.Grammar.Token.{Token, tokens, leaf, wrap, open_series, open_map}
use Rattle.content_ser.specs.Grammar.Token.{open_record, finish, Wrap, wrapped, Series, item_call}
use Rattle.content_ser.specs.Grammar.Token.{series_tree, record_tree, ItemCall}

-- an item of an opened map
pub data MapItem : Type 0 where
  key : Tree → MapItem
  value : Tree → MapItem
  entry : Tree → Tree → MapItem

-- the value of the last value item before the next key or entry item, or this one where there is none
abbrev pub value_among : Tree → List MapItem → Tree
value_among without [] = without
value_among without (value v ∷ items) = value_among v items
value_among without (key k ∷ items) = without
value_among without (entry k v ∷ items) = without

-- one pair for each key or entry item, in order; a value item before the first of them gives nothing
abbrev pub pairs : List MapItem → Pairs
pairs [] = no_pairs
pairs (value v ∷ items) = pairs items
pairs (key k ∷ items) = pair_then k (value_among tree.unit items) (pairs items)
pairs (entry k v ∷ items) = pair_then k (value_among v items) (pairs items)

mutual
  -- what comes before the rest spells the tree
  pub data Spells : List Token → Tree → List Token → Type 0 where
    spells_leaf : {t : Tree} {rest : List Token} → Spells (leaf t ∷ rest) t rest
    spells_wrap : {w : Wrap} {calls rest : List Token} {t : Tree}
        → Spells calls t rest
        → Spells (wrap w ∷ calls) (wrapped w t) rest
    spells_series : {r : Series} {calls rest : List Token} {ts : Trees}
        → SpellsElements (item_call r) calls ts rest
        → Spells (open_series r ∷ calls) (series_tree r ts) rest
    spells_map : {calls rest : List Token} {items : List MapItem}
        → SpellsMapItems calls items rest
        → Spells (open_map ∷ calls) (tree.map (pairs items)) rest
    spells_record : {h : Head} {calls rest : List Token} {fs : Fields}
        → SpellsFields calls fs rest
        → Spells (open_record h ∷ calls) (record_tree h fs) rest

  -- items after this item call, and the end
  pub data SpellsElements : ItemCall → List Token → Trees → List Token → Type 0 where
    elements_end : {m : ItemCall} {rest : List Token}
        → SpellsElements m (finish ∷ rest) no_trees rest
    elements_more : {m : ItemCall} {calls mid rest : List Token} {t : Tree} {ts : Trees}
        → Spells calls t mid
        → SpellsElements m mid ts rest
        → SpellsElements m (token.item m ∷ calls) (tree_then t ts) rest

  -- the items of a map, and the end
  pub data SpellsMapItems : List Token → List MapItem → List Token → Type 0 where
    items_end : {rest : List Token} → SpellsMapItems (finish ∷ rest) [] rest
    items_key : {calls mid rest : List Token} {t : Tree} {items : List MapItem}
        → Spells calls t mid
        → SpellsMapItems mid items rest
        → SpellsMapItems (token.key ∷ calls) (key t ∷ items) rest
    items_value : {calls mid rest : List Token} {t : Tree} {items : List MapItem}
        → Spells calls t mid
        → SpellsMapItems mid items rest
        → SpellsMapItems (token.value ∷ calls) (value t ∷ items) rest
    items_entry : {calls mid last rest : List Token} {k v : Tree} {items : List MapItem}
        → Spells calls k mid
        → Spells mid v last
        → SpellsMapItems last items rest
        → SpellsMapItems (token.entry ∷ calls) (entry k v ∷ items) rest

  -- the fields of a struct or a struct variant, and the end
  pub data SpellsFields : List Token → Fields → List Token → Type 0 where
    fields_end : {rest : List Token} → SpellsFields (finish ∷ rest) no_fields rest
    fields_more : {calls mid rest : List Token} {k : List ℕ} {t : Tree} {fs : Fields}
        → Spells calls t mid
        → SpellsFields mid fs rest
        → SpellsFields (token.field k ∷ calls) (field_then (static_name k) t fs) rest

-- the list spells the tree
abbrev pub SpellsWhole : List Event → Tree → Type 0
SpellsWhole calls t = Spells (tokens calls) t []

-- the list spells some tree
abbrev pub IsWhole : List Event → Type 0
IsWhole calls = (t : Tree) × SpellsWhole calls t

-- some list, perhaps empty, makes it whole when put after it
abbrev pub IsViable : List Event → Type 0
IsViable calls = (more : List Event) × IsWhole (calls ++ more)
