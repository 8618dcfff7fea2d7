-- A tree put over another: maps key by key, structs of one name field by field, deeply; anything
-- else is the tree that is put over.
use Rattle.std.specs.Prelude.{Bool, false, true, not, ◌&&◌, if◌then◌else◌}
use Rattle.std.specs.Option.{is_some}
use Rattle.std.specs.Str.{bytes_eq}
use Rattle.serde_content.specs.Names.Words.{same_tree, last_value, Tree}
use Rattle.serde_content.specs.Names.Tree.{text, map, structure, named, Pairs, no_pairs, pair_then}
use Rattle.serde_content.specs.Names.Tree.{Fields, no_fields, field_then}

-- some pair has this key
abbrev pub has_key : Tree → Pairs → Bool
has_key k ps = is_some (last_value (λ j. same_tree j k) ps)

-- the key of this pair is this one, and no later pair has it
abbrev pub is_last : (key of_pair : Tree) → (later : Pairs) → Bool
is_last k j ps = not (has_key k ps) && same_tree j k

-- the last value of the key changed; where there is none, the key with the new one at the end
abbrev pub put : (key new : Tree) (change : Tree → Tree) → Pairs → Pairs
put k new change no_pairs = pair_then k new no_pairs
put k new change (pair_then j t ps) =
    if is_last k j ps then pair_then j (change t) ps else pair_then j t (put k new change ps)

-- fields as pairs, whose keys are texts
abbrev pub as_pairs : Fields → Pairs
as_pairs no_fields = no_pairs
as_pairs (field_then k t fs) = pair_then (text k) t (as_pairs fs)

-- and such pairs as fields
abbrev pub as_fields : Pairs → Fields
as_fields no_pairs = no_fields
as_fields (pair_then (text k) t ps) = field_then k t (as_fields ps)
as_fields (pair_then k t ps) = as_fields ps

-- the pairs of a map, or the fields of a struct
abbrev pub parts : Tree → Pairs
parts (map ps) = ps
parts (structure n (named fs)) = as_pairs fs
parts t = no_pairs

-- the map or the struct with others
abbrev pub with_parts : Pairs → Tree → Tree
with_parts ps (map qs) = map ps
with_parts ps (structure n (named fs)) = structure n (named (as_fields ps))
with_parts ps t = t

-- both are maps, or structs of one name with fields
abbrev pub same_sort : Tree → Tree → Bool
same_sort (map qs) (map ps) = true
same_sort (structure n (named fs)) (structure m (named gs)) = bytes_eq n.content m.content
same_sort u t = false

abbrev mutual
  -- the first put over the second: where they are of one sort, its parts over those of the second
  pub merged : (over base : Tree) → Tree
  merged (map qs) t =
      if same_sort (map qs) t then with_parts (merged_pairs qs (parts t)) t else map qs
  merged (structure n (named fs)) t =
      if same_sort (structure n (named fs)) t then with_parts (merged_fields fs (parts t)) t
      else structure n (named fs)
  merged u t = u

  -- each pair of the first in turn: its value put over that of its key in the second
  pub merged_pairs : (over base : Pairs) → Pairs
  merged_pairs no_pairs ps = ps
  merged_pairs (pair_then k u qs) ps = merged_pairs qs (put k u (merged u) ps)

  -- and so each field
  pub merged_fields : (over : Fields) (base : Pairs) → Pairs
  merged_fields no_fields ps = ps
  merged_fields (field_then k u fs) ps = merged_fields fs (put (text k) u (merged u) ps)
