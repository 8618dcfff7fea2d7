-- The partial tree of a tape and its openings.
use Rattle.std.specs.Prelude.{ℕ, ◌+◌, List, [], ◌∷◌, take, drop}
use Rattle.std.proofs.Math.ListN.{get_or}
use Rattle.content_tree.specs.Values.Tree as tree
use Rattle.content_tree.specs.Values.Tree.{Tree, Trees, no_trees, tree_then, Pairs, no_pairs}
use Rattle.content_tree.specs.Values.Tree.{pair_then, Fields, no_fields, field_then}
use Rattle.content_ser.specs.Calls.Head as calls
use Rattle.content_ser.specs.Calls.Head.{Head}
use Rattle.content_ser.specs.Grammar.Token as token
use Rattle.content_ser.specs.Grammar.Token.{Wrap, Series}
use Rattle.content_build.specs.Partial as partial
use Rattle.content_build.specs.Partial.{Partial, Slot}
use Rattle.content_build.specs.Inner.Cells.{Names, of_struct, of_variant, Cell, cell, leaf}
use Rattle.content_build.specs.Inner.Cells.{tuple, headed, key, unit, Wait, child, item}
use Rattle.content_build.specs.Inner.Cells.{a_key, a_value, entry_key, entry_value, field, in_series}
use Rattle.content_build.specs.Inner.Cells.{in_map, in_record, Open, opened}
use Rattle.content_build.specs.Inner.Forest.{Grown, grown, read}

-- all trees, in order
abbrev pub all_trees : List Grown → Trees
all_trees [] = no_trees
all_trees (grown k t n ∷ f) = tree_then t (all_trees f)

-- all fields, in order
abbrev pub all_fields : List Grown → Fields
all_fields [] = no_fields
all_fields (grown k t n ∷ f) = field_then k t (all_fields f)

-- all pairs, in order
abbrev pub all_pairs : List Grown → Pairs
all_pairs [] = no_pairs
all_pairs (g ∷ []) = no_pairs
all_pairs (grown k t n ∷ grown l u o ∷ f) = pair_then t u (all_pairs f)

-- what comes after the pairs
abbrev pub odd_one : List Grown → Tree
odd_one [] = tree.unit
odd_one (grown k t n ∷ []) = t
odd_one (g ∷ h ∷ f) = odd_one f

-- the key at the end
abbrev pub last_key : List Cell → List ℕ
last_key [] = []
last_key (cell (key k) n ∷ []) = k.content
last_key (c ∷ []) = []
last_key (c ∷ d ∷ cs) = last_key (d ∷ cs)

-- a head of these names
abbrev pub head_from : Names → Head
head_from (of_struct n) = calls.of_struct n.content
head_from (of_variant n i v) = calls.of_variant n.content i v.content

-- the head of a node
abbrev pub head_at : Cell → Head
head_at (cell (headed sort names) n) = head_from names
head_at c = calls.of_struct []

-- what holds one child
abbrev pub wrap_at : Cell → Wrap
wrap_at (cell (headed sort names) n) = token.in_head (head_from names)
wrap_at c = token.in_some

-- what holds items by place
abbrev pub series_at : Cell → Series
series_at (cell (headed sort names) n) = token.series_head (head_from names)
series_at (cell tuple n) = token.series_tuple
series_at c = token.series_seq

-- the slot of an opening that waits for this, with what is inside it
abbrev pub slot_of : Wait → Cell → List Cell → Slot
slot_of child c inside = partial.child (wrap_at c)
slot_of (item m) c inside = partial.element (series_at c) (all_trees (read inside []))
slot_of a_key c inside = partial.key (all_pairs (read inside []))
slot_of a_value c inside = partial.value (all_pairs (read inside []))
slot_of entry_key c inside = partial.entry_key (all_pairs (read inside []))
slot_of entry_value c inside = partial.entry_value (all_pairs (read inside [])) (odd_one (read inside []))
slot_of field c inside = partial.field_value (head_at c) (all_fields (read inside [])) (last_key inside)
slot_of (in_series m) c inside = partial.child token.in_some
slot_of in_map c inside = partial.child token.in_some
slot_of in_record c inside = partial.child token.in_some

-- a cell where there is none
abbrev pub nowhere : Cell
nowhere = cell (leaf unit) 0

-- the slots of openings
abbrev pub slots_of : List Cell → List Open → List Slot
slots_of cs [] = []
slots_of cs (opened at last w ∷ os) = slot_of w (get_or cs at nowhere) (drop (at + 1) cs) ∷ slots_of (take at cs) os

-- the partial tree whose innermost opening waits for this
abbrev pub standing : Wait → Cell → List Cell → List Slot → Partial
standing child c inside ps = partial.due (slot_of child c inside ∷ ps)
standing (item m) c inside ps = partial.due (slot_of (item m) c inside ∷ ps)
standing a_key c inside ps = partial.due (slot_of a_key c inside ∷ ps)
standing a_value c inside ps = partial.due (slot_of a_value c inside ∷ ps)
standing entry_key c inside ps = partial.due (slot_of entry_key c inside ∷ ps)
standing entry_value c inside ps = partial.due (slot_of entry_value c inside ∷ ps)
standing field c inside ps = partial.due (slot_of field c inside ∷ ps)
standing (in_series m) c inside ps = partial.between (partial.in_series (series_at c) (all_trees (read inside []))) ps
standing in_map c inside ps = partial.between (partial.in_map (all_pairs (read inside []))) ps
standing in_record c inside ps = partial.between (partial.in_record (head_at c) (all_fields (read inside []))) ps

-- the partial tree in which no head is open
abbrev pub outermost : List Grown → Partial
outermost [] = partial.due []
outermost (grown k t n ∷ f) = partial.done t

-- the partial tree of a tape and its openings
abbrev pub decode : List Cell → List Open → Partial
decode cs [] = outermost (read cs [])
decode cs (opened at last w ∷ os) = standing w (get_or cs at nowhere) (drop (at + 1) cs) (slots_of (take at cs) os)
