-- A partial tree, and the step that each call takes in it.
use Rattle.std.specs.Prelude.{ℕ, ◌+◌, List, [], ◌∷◌, length, Option, Some, None}
use Rattle.content_tree.specs.Values.Text.{Text, static_name}
use Rattle.content_tree.specs.Values.Tree as tree
use Rattle.content_tree.specs.Values.Tree.{Tree, Trees, no_trees, tree_then, Pairs, no_pairs}
use Rattle.content_tree.specs.Values.Tree.{pair_then, Fields, no_fields, field_then}
use Rattle.content_ser.specs.Calls.Event.{Event}
use Rattle.content_ser.specs.Calls.Head.{Head}
use Rattle.content_ser.specs.Grammar.Token as token
use Rattle.content_ser.specs.Grammar.Token.{Token, leaf, wrap, open_series, open_map, open_record}
use Rattle.content_ser.specs.Grammar.Token.{finish, Wrap, wrapped, Series, item_call, series_tree}
use Rattle.content_ser.specs.Grammar.Token.{record_tree, ItemCall}
use Rattle.content_ser.specs.Serializers.Step as serializer

-- one tree more, at the end
abbrev pub push_tree : Trees → Tree → Trees
push_tree no_trees u = tree_then u no_trees
push_tree (tree_then t ts) u = tree_then t (push_tree ts u)

-- one pair more, at the end
abbrev pub push_pair : Pairs → Tree → Tree → Pairs
push_pair no_pairs k v = pair_then k v no_pairs
push_pair (pair_then a b ps) k v = pair_then a b (push_pair ps k v)

-- the last pair gets this value, where there is one
abbrev pub set_last : Pairs → Tree → Pairs
set_last no_pairs v = no_pairs
set_last (pair_then a b no_pairs) v = pair_then a v no_pairs
set_last (pair_then a b (pair_then c d ps)) v = pair_then a b (set_last (pair_then c d ps) v)

-- one field more, at the end
abbrev pub push_field : Fields → Text → Tree → Fields
push_field no_fields k u = field_then k u no_fields
push_field (field_then l t fs) k u = field_then l t (push_field fs k u)

-- a slot that waits for a tree, with what is finished around it
pub data Slot : Type 0 where
  child : Wrap → Slot
  element : Series → Trees → Slot
  key : Pairs → Slot
  value : Pairs → Slot
  entry_key : Pairs → Slot
  entry_value : Pairs → Tree → Slot
  field_value : Head → Fields → List ℕ → Slot

-- an opened compound in which no slot waits
pub data Compound : Type 0 where
  in_series : Series → Trees → Compound
  in_map : Pairs → Compound
  in_record : Head → Fields → Compound

-- a partial tree: its waiting slots, from the innermost to the outermost, and what is due
pub data Partial : Type 0 where
  due : List Slot → Partial
  between : Compound → List Slot → Partial
  done : Tree → Partial

-- no call yet
abbrev pub fresh : Partial
fresh = due []

-- how many trees are open
abbrev pub open_count : Partial → ℕ
open_count (due ps) = length ps
open_count (between c ps) = length ps + 1
open_count (done t) = 0

-- the innermost slot gets this tree, and what is finished by it fills the next
abbrev pub fill : List Slot → Tree → Partial
fill [] t = done t
fill (child w ∷ ps) t = fill ps (wrapped w t)
fill (element r ts ∷ ps) t = between (in_series r (push_tree ts t)) ps
fill (key prs ∷ ps) t = between (in_map (push_pair prs t tree.unit)) ps
fill (value prs ∷ ps) t = between (in_map (set_last prs t)) ps
fill (entry_key prs ∷ ps) t = due (entry_value prs t ∷ ps)
fill (entry_value prs k ∷ ps) t = between (in_map (push_pair prs k t)) ps
fill (field_value r fs k ∷ ps) t = between (in_record r (push_field fs (static_name k) t)) ps

-- the tree of a closed compound
abbrev pub closed : Compound → Tree
closed (in_series r ts) = series_tree r ts
closed (in_map prs) = tree.map prs
closed (in_record r fs) = record_tree r fs

-- a call where a tree is due
abbrev pub begin : List Slot → Token → Option Partial
begin ps (leaf t) = Some (fill ps t)
begin ps (wrap w) = Some (due (child w ∷ ps))
begin ps (open_series r) = Some (between (in_series r no_trees) ps)
begin ps open_map = Some (between (in_map no_pairs) ps)
begin ps (open_record r) = Some (between (in_record r no_fields) ps)
begin ps _ = None

-- an item call in a series, where the series' items are announced by it
abbrev pub next_item : ItemCall → ItemCall → Partial → Option Partial
next_item token.element token.element s = Some s
next_item token.tuple_field token.tuple_field s = Some s
next_item _ _ s = None

-- a call where no slot waits
abbrev pub follow : Compound → List Slot → Token → Option Partial
follow (in_series r ts) ps (token.item m) = next_item (item_call r) m (due (element r ts ∷ ps))
follow (in_map prs) ps token.key = Some (due (key prs ∷ ps))
follow (in_map prs) ps token.value = Some (due (value prs ∷ ps))
follow (in_map prs) ps token.entry = Some (due (entry_key prs ∷ ps))
follow (in_record r fs) ps (token.field k) = Some (due (field_value r fs k ∷ ps))
follow c ps finish = Some (fill ps (closed c))
follow _ _ _ = None

-- a call of this token
abbrev pub step_token : Partial → Token → Option Partial
step_token (due ps) call = begin ps call
step_token (between c ps) call = follow c ps call
step_token (done t) call = None

-- a call
abbrev pub step : Partial → Event → Option Partial
step s call = step_token s (token.token_of call)

-- calls, one after another
abbrev pub run : Partial → List Event → Option Partial
run = serializer.run step
