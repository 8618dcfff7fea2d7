-- The tape of a partial tree: a cell for each node, in the order in which nodes begin.
use Rattle.std.specs.Prelude.{◌≡◌, ℕ, zero, suc, ◌+◌, List, [], ◌∷◌, ◌++◌, length, Bool}
use Rattle.content_tree.specs.declared.number.Number.{Number}
use Rattle.content_tree.specs.Values.Text.{Text, static_name}
use Rattle.content_tree.specs.Values.Tree as tree
use Rattle.content_tree.specs.Values.Tree.{Tree, TreeData, Trees, no_trees, tree_then, Pairs}
use Rattle.content_tree.specs.Values.Tree.{no_pairs, pair_then, Fields, no_fields, field_then}
use Rattle.content_ser.specs.Calls.Head as calls
use Rattle.content_ser.specs.Calls.Head.{Head}
use Rattle.content_ser.specs.Grammar.Token as token
use Rattle.content_ser.specs.Grammar.Token.{Wrap, Series, ItemCall, item_call}
use Rattle.content_build.specs.Partial as partial
use Rattle.content_build.specs.Partial.{Partial, Slot, Compound}

-- the names of a struct or of a variant with its index
pub data Names : Type 0 where
  of_struct : Text → Names
  of_variant : Text → ℕ → Text → Names
  deriving IsSet as Names-set

-- what a struct or a variant holds
pub data Sort : Type 0 where
  nothing : Sort
  one : Sort
  many : Sort
  fields : Sort
  deriving IsSet as Sort-set

-- a node that has no children and no names
pub data Leaf : Type 0 where
  unit : Leaf
  absent : Leaf
  boolean : Bool → Leaf
  number : Number → Leaf
  character : ℕ → Leaf
  text : Text → Leaf
  octets : Text → Leaf
  deriving IsSet as Leaf-set

-- the label of a node, which is the node without its children, or the key of the field whose node comes next
pub data Label : Type 0 where
  leaf : Leaf → Label
  present : Label
  seq : Label
  tuple : Label
  map : Label
  headed : Sort → Names → Label
  key : Text → Label
  deriving IsSet as Label-set

-- the label of a node, and the number of cells of its whole tree, or 0 while it is open
pub data Cell : Type 0 where
  cell : Label → ℕ → Cell
  deriving IsSet as Cell-set

-- the number of cells of its whole tree
abbrev pub cell_size : Cell → ℕ
cell_size (cell label n) = n

-- a finished node with what is inside it
abbrev pub enclose : Label → List Cell → List Cell
enclose label inside = cell label (suc (length inside)) ∷ inside

-- what a struct or a variant holds
abbrev pub sort_of : TreeData → Sort
sort_of tree.no_data = nothing
sort_of (tree.one t) = one
sort_of (tree.many ts) = many
sort_of (tree.named fs) = fields

-- the tape of a tree
abbrev mutual
  pub flat : Tree → List Cell
  flat tree.unit = cell (leaf unit) 1 ∷ []
  flat (tree.boolean b) = cell (leaf (boolean b)) 1 ∷ []
  flat (tree.number n) = cell (leaf (number n)) 1 ∷ []
  flat (tree.character c) = cell (leaf (character c)) 1 ∷ []
  flat (tree.text t) = cell (leaf (text t)) 1 ∷ []
  flat (tree.octets t) = cell (leaf (octets t)) 1 ∷ []
  flat (tree.seq ts) = enclose seq (flat_trees ts)
  flat (tree.map ps) = enclose map (flat_pairs ps)
  flat tree.absent = cell (leaf absent) 1 ∷ []
  flat (tree.present t) = enclose present (flat t)
  flat (tree.structure name d) = enclose (headed (sort_of d) (of_struct name)) (flat_data d)
  flat (tree.enumeration name i variant d) = enclose (headed (sort_of d) (of_variant name i variant)) (flat_data d)
  flat (tree.tuple ts) = enclose tuple (flat_trees ts)

  -- of what a struct or a variant holds
  pub flat_data : TreeData → List Cell
  flat_data tree.no_data = []
  flat_data (tree.one t) = flat t
  flat_data (tree.many ts) = flat_trees ts
  flat_data (tree.named fs) = flat_fields fs

  -- of trees, one after another
  pub flat_trees : Trees → List Cell
  flat_trees no_trees = []
  flat_trees (tree_then t ts) = flat t ++ flat_trees ts

  -- of pairs, each key and then its value
  pub flat_pairs : Pairs → List Cell
  flat_pairs no_pairs = []
  flat_pairs (pair_then k v ps) = flat k ++ (flat v ++ flat_pairs ps)

  -- of fields, each after its key
  pub flat_fields : Fields → List Cell
  flat_fields no_fields = []
  flat_fields (field_then k t fs) = cell (key k) 1 ∷ (flat t ++ flat_fields fs)

-- what an opening waits for
pub data Wait : Type 0 where
  child : Wait
  item : ItemCall → Wait
  a_key : Wait
  a_value : Wait
  entry_key : Wait
  entry_value : Wait
  field : Wait
  in_series : ItemCall → Wait
  in_map : Wait
  in_record : Wait
  deriving IsSet as Wait-set

-- an opening: its place on the tape, where the last value of a map begins or 0, and what it waits for
pub data Open : Type 0 where
  opened : ℕ → ℕ → Wait → Open
  deriving IsSet as Open-set

-- the names of a head, which are static
abbrev pub names_of : Head → Names
names_of (calls.of_struct n) = of_struct (static_name n)
names_of (calls.of_variant n i v) = of_variant (static_name n) i (static_name v)

-- the label of the node around one child
abbrev pub wrap_label : Wrap → Label
wrap_label token.in_some = present
wrap_label (token.in_head h) = headed one (names_of h)

-- the label of the node of items by place
abbrev pub series_label : Series → Label
series_label token.series_seq = seq
series_label token.series_tuple = tuple
series_label (token.series_head h) = headed many (names_of h)

-- the label of the node of fields
abbrev pub record_label : Head → Label
record_label h = headed fields (names_of h)

-- the label of an opened compound
abbrev pub compound_label : Compound → Label
compound_label (partial.in_series r ts) = series_label r
compound_label (partial.in_map prs) = map
compound_label (partial.in_record h fs) = record_label h

-- what is finished in it
abbrev pub compound_cells : Compound → List Cell
compound_cells (partial.in_series r ts) = flat_trees ts
compound_cells (partial.in_map prs) = flat_pairs prs
compound_cells (partial.in_record h fs) = flat_fields fs

-- that no slot waits in it
abbrev pub compound_wait : Compound → Wait
compound_wait (partial.in_series r ts) = in_series (item_call r)
compound_wait (partial.in_map prs) = in_map
compound_wait (partial.in_record h fs) = in_record

-- the label of a slot's head
abbrev pub slot_label : Slot → Label
slot_label (partial.child w) = wrap_label w
slot_label (partial.element r ts) = series_label r
slot_label (partial.key prs) = map
slot_label (partial.value prs) = map
slot_label (partial.entry_key prs) = map
slot_label (partial.entry_value prs k) = map
slot_label (partial.field_value h fs k) = record_label h

-- what is finished in it, and the key of the field that is due
abbrev pub slot_cells : Slot → List Cell
slot_cells (partial.child w) = []
slot_cells (partial.element r ts) = flat_trees ts
slot_cells (partial.key prs) = flat_pairs prs
slot_cells (partial.value prs) = flat_pairs prs
slot_cells (partial.entry_key prs) = flat_pairs prs
slot_cells (partial.entry_value prs k) = flat_pairs prs ++ flat k
slot_cells (partial.field_value h fs k) = flat_fields fs ++ cell (key (static_name k)) 1 ∷ []

-- what it waits for
abbrev pub slot_wait : Slot → Wait
slot_wait (partial.child w) = child
slot_wait (partial.element r ts) = item (item_call r)
slot_wait (partial.key prs) = a_key
slot_wait (partial.value prs) = a_value
slot_wait (partial.entry_key prs) = entry_key
slot_wait (partial.entry_value prs k) = entry_value
slot_wait (partial.field_value h fs k) = field

-- how many cells come before the last value, beyond those before the pairs; 0 where there is none
abbrev pub last_value : ℕ → Pairs → ℕ
last_value before no_pairs = 0
last_value before (pair_then k v no_pairs) = before + length (flat k)
last_value before (pair_then k v (pair_then a b ps)) = last_value ((before + length (flat k)) + length (flat v)) (pair_then a b ps)

-- where the last value of a compound begins
abbrev pub compound_last : ℕ → Compound → ℕ
compound_last before (partial.in_series r ts) = 0
compound_last before (partial.in_map prs) = last_value before prs
compound_last before (partial.in_record h fs) = 0

-- where the last value of a slot's head begins
abbrev pub slot_last : ℕ → Slot → ℕ
slot_last before (partial.child w) = 0
slot_last before (partial.element r ts) = 0
slot_last before (partial.key prs) = last_value before prs
slot_last before (partial.value prs) = last_value before prs
slot_last before (partial.entry_key prs) = last_value before prs
slot_last before (partial.entry_value prs k) = (before + length (flat_pairs prs)) + length (flat k)
slot_last before (partial.field_value h fs k) = 0

-- the tape of slots that wait, from the innermost to the outermost
abbrev pub slots_cells : List Slot → List Cell
slots_cells [] = []
slots_cells (p ∷ ps) = slots_cells ps ++ (cell (slot_label p) 0 ∷ slot_cells p)

-- their openings, from the innermost to the outermost
abbrev pub slots_opens : List Slot → List Open
slots_opens [] = []
slots_opens (p ∷ ps) = opened (length (slots_cells ps)) (slot_last (length (slots_cells ps) + 1) p) (slot_wait p) ∷ slots_opens ps

-- the tape of a partial tree
abbrev pub cells : Partial → List Cell
cells (partial.due ps) = slots_cells ps
cells (partial.between c ps) = slots_cells ps ++ (cell (compound_label c) 0 ∷ compound_cells c)
cells (partial.done t) = flat t

-- its openings, from the innermost to the outermost
abbrev pub opens : Partial → List Open
opens (partial.due ps) = slots_opens ps
opens (partial.between c ps) = opened (length (slots_cells ps)) (compound_last (length (slots_cells ps) + 1) c) (compound_wait c) ∷ slots_opens ps
opens (partial.done t) = []

-- the cells, with this size at an index
abbrev pub with_size : List Cell → ℕ → ℕ → List Cell
with_size [] i n = []
with_size (cell label m ∷ cs) zero n = cell label n ∷ cs
with_size (c ∷ cs) (suc i) n = c ∷ with_size cs i n

-- the tape and its openings represent slots that wait, with a finished tree after them
abbrev pub Waiting : List Cell → List Open → List Slot → Tree → Type 0
Waiting cs os ps t = (cs ≡ slots_cells ps ++ flat t) × (os ≡ slots_opens ps)

-- the tape and its openings represent the partial tree
abbrev pub Stood : List Cell → List Open → Partial → Type 0
Stood cs os s = (cs ≡ cells s) × (os ≡ opens s)
