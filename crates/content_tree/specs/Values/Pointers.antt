-- What an index finds in a value, and what a path leads to.
use Rattle.std.specs.Prelude.{ℕ, zero, suc, List, [], ◌∷◌, Option, Some, None, option_map}
use Rattle.std.specs.Prelude.{option_and_then, if◌then◌else◌}
use Rattle.std.specs.Str.{bytes_eq}
use Rattle.content_tree.specs.Values.Lookups.{is_text, last_field, last_value}
use Rattle.content_tree.specs.Values.Paths.{index_of, parts_of}
use Rattle.content_tree.specs.Values.Tree.{Tree, seq, map, structure, enumeration, tuple}
use Rattle.content_tree.specs.Values.Tree.{TreeData, one, many, named, Trees, no_trees, tree_then}

-- the item of this index, from 0
abbrev pub item_of : ℕ → Trees → Option Tree
item_of n no_trees = None
item_of zero (tree_then t ts) = Some t
item_of (suc n) (tree_then t ts) = item_of n ts

-- the item of this index in what a struct or a variant holds
abbrev pub item_in : ℕ → TreeData → Option Tree
item_in n (many ts) = item_of n ts
item_in n d = None

-- the item of this index in a sequence, a tuple, or a struct or a variant of items
abbrev pub lookup_index : ℕ → Tree → Option Tree
lookup_index n (seq ts) = item_of n ts
lookup_index n (tuple ts) = item_of n ts
lookup_index n (structure name d) = item_in n d
lookup_index n (enumeration name i v d) = item_in n d
lookup_index n t = None

-- what a part finds in items: the one of the index that it names
abbrev pub part_of : List ℕ → Trees → Option Tree
part_of part ts = option_and_then (λ n. item_of n ts) (index_of part)

-- what a part finds in what a struct or a variant holds: an item by its index, the last field of its name
abbrev pub part_in : List ℕ → TreeData → Option Tree
part_in part (many ts) = part_of part ts
part_in part (named fs) = last_field part fs
part_in part d = None

-- where a path has come: at a value, or inside a variant
pub data Place : Type 0 where
  at : Tree → Place
  inside : TreeData → Place

-- a variant of one value is entered at that value
abbrev pub entered : TreeData → Place
entered (one t) = at t
entered d = inside d

-- where a part leads from a value: to an item, to the value of the last key that is this text, to the last field,
-- into the variant of this name
abbrev pub step_in : List ℕ → Tree → Option Place
step_in part (seq ts) = option_map at (part_of part ts)
step_in part (tuple ts) = option_map at (part_of part ts)
step_in part (map ps) = option_map at (last_value (is_text part) ps)
step_in part (structure n d) = option_map at (part_in part d)
step_in part (enumeration n i v d) = if bytes_eq v.content part then Some (entered d) else None
step_in part t = None

-- where a part leads from a place
abbrev pub step : List ℕ → Place → Option Place
step part (at t) = step_in part t
step part (inside d) = option_map at (part_in part d)

-- where parts lead, one after another
abbrev pub follow : List (List ℕ) → Place → Option Place
follow [] place = Some place
follow (part ∷ parts) place = option_and_then (follow parts) (step part place)

-- where a path leads: nowhere, if it is no JSON Pointer
abbrev pub leads : List ℕ → Place → Option Place
leads path place = option_and_then (λ parts. follow parts place) (parts_of path)

-- the value at a place: none inside a variant
abbrev pub value_at : Place → Option Tree
value_at (at t) = Some t
value_at (inside d) = None

-- the value that a path leads to
abbrev pub pointer : List ℕ → Tree → Option Tree
pointer path t = option_and_then value_at (leads path (at t))
