-- What code that follows a path computes: where it has come, and what it finds by a part, or by no part where a
-- piece of the path spells none.
use Rattle.std.specs.Prelude.{ℕ, List, Bool, false, Option, Some, None, option_map}
use Rattle.std.specs.Prelude.{if◌then◌else◌}
use Rattle.content_tree.specs.Values.Lookups.{last_value, or_else}
use Rattle.std.specs.Str.{bytes_eq}
use Rattle.content_tree.specs.Values.Pointers.{Place, at, inside, entered, part_of}
use Rattle.content_tree.specs.Values.Tree.{Tree, text, seq, map, structure, enumeration, tuple, TreeData}
use Rattle.content_tree.specs.Values.Tree.{many, named, Trees, Fields, no_fields, field_then}
use Rattle.content_tree.specs.Values.Value.{tree_of, tree_data_of}
use Rattle.content_tree.specs.declared.pointer.Place as code
use Rattle.content_tree.specs.declared.pointer.Place.TheVariants as place

-- a place
abbrev pub place_view : code.Place → Place
place_view (place.Value v) = at (tree_of v.now)
place_view (place.Variant d) = inside (tree_data_of d.now)

-- the part is the text of this content
abbrev pub is_part : Option (List ℕ) → List ℕ → Bool
is_part None content = false
is_part (Some part) content = bytes_eq content part

-- the key is the text of the part
abbrev pub is_key : Option (List ℕ) → Tree → Bool
is_key o (text t) = is_part o t.content
is_key o t = false

-- the item that the part names
abbrev pub found_item : Option (List ℕ) → Trees → Option Tree
found_item None ts = None
found_item (Some part) ts = part_of part ts

-- the value of the last field that the part names
abbrev pub found_field : Option (List ℕ) → Fields → Option Tree
found_field o no_fields = None
found_field o (field_then k t fs) = or_else (found_field o fs) (if is_part o k.content then Some t else None)

-- what the part finds in what a struct or a variant holds
abbrev pub found_in : Option (List ℕ) → TreeData → Option Tree
found_in o (many ts) = found_item o ts
found_in o (named fs) = found_field o fs
found_in o d = None

-- where the part leads from a value
abbrev pub found_step_in : Option (List ℕ) → Tree → Option Place
found_step_in o (seq ts) = option_map at (found_item o ts)
found_step_in o (tuple ts) = option_map at (found_item o ts)
found_step_in o (map ps) = option_map at (last_value (is_key o) ps)
found_step_in o (structure n d) = option_map at (found_in o d)
found_step_in o (enumeration n i v d) = if is_part o v.content then Some (entered d) else None
found_step_in o t = None

-- where the part leads from a place
abbrev pub found_step : Option (List ℕ) → Place → Option Place
found_step o (at t) = found_step_in o t
found_step o (inside d) = option_map at (found_in o d)
