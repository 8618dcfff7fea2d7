-- What a value becomes where it is edited by a path.
use Rattle.std.specs.Prelude.{◌≡◌, ℕ, zero, suc, Bool, false, ◌==◌, ◌||◌, List, [], ◌∷◌, codes, Option, Some, None}
use Rattle.std.specs.Prelude.{option_map, option_and_then, unwrap_or, is_some, if◌then◌else◌, MatchOption}
use Rattle.std.specs.Str.{bytes_eq}
use Rattle.content_tree.specs.Values.Edits.{item_added, pair_added, pair_removed}
use Rattle.content_tree.specs.Values.Lookups.{is_text, last_field, last_value, or_else}
use Rattle.content_tree.specs.Values.Paths.{index_of, parts_of}
use Rattle.content_tree.specs.Values.Text.{owned_text}
use Rattle.content_tree.specs.Values.Tree.{Tree, text, seq, map, structure, enumeration, tuple}
use Rattle.content_tree.specs.Values.Tree.{TreeData, one, many, named, Trees, no_trees, tree_then, count}
use Rattle.content_tree.specs.Values.Tree.{Pairs, no_pairs, pair_then, Fields, no_fields, field_then}
use Rattle.content_tree.specs.Values.Value.{tree_of}
use Rattle.content_tree.specs.declared.value.NamedValue.{NamedValue}

-- what an edit takes out, if it takes anything, and what it leaves: none where it can't be made
abbrev pub Edited : Type 0 → Type 0
Edited A = Option (Option Tree × A)

-- the edit of a part is one of the whole
abbrev pub around : {A B : Type 0} → (A → B) → Edited A → Edited B
around whole None = None
around whole (Some e) = Some (e.0, whole e.1)

-- an edit of the item of this index
abbrev pub at_item : (Tree → Edited Tree) → ℕ → Trees → Edited Trees
at_item edit n no_trees = None
at_item edit zero (tree_then t ts) = around (λ u. tree_then u ts) (edit t)
at_item edit (suc n) (tree_then t ts) = around (tree_then t) (at_item edit n ts)

-- of the item that a part names
abbrev pub at_part_of : (Tree → Edited Tree) → List ℕ → Trees → Edited Trees
at_part_of edit part ts = option_and_then (λ n. at_item edit n ts) (index_of part)

-- of the value of the last key that passes the test
abbrev pub at_value : (Tree → Edited Tree) → (Tree → Bool) → Pairs → Edited Pairs
at_value edit test no_pairs = None
at_value edit test (pair_then k t ps) =
    if is_some (last_value test ps) then around (pair_then k t) (at_value edit test ps)
    else (if test k then around (λ u. pair_then k u ps) (edit t) else None)

-- of the value of the last field of this name
abbrev pub at_field : (Tree → Edited Tree) → List ℕ → Fields → Edited Fields
at_field edit key no_fields = None
at_field edit key (field_then k t fs) =
    if is_some (last_field key fs) then around (field_then k t) (at_field edit key fs)
    else (if bytes_eq k.content key then around (λ u. field_then k u fs) (edit t) else None)

-- of what a part finds in what a struct or a variant holds
abbrev pub at_part : (Tree → Edited Tree) → List ℕ → TreeData → Edited TreeData
at_part edit part (many ts) = around many (at_part_of edit part ts)
at_part edit part (named fs) = around named (at_field edit part fs)
at_part edit part d = None

-- an edit of a value, and one of what a variant holds whose name was the last part
abbrev pub Edits : Type 0
Edits = (Tree → Edited Tree) × (TreeData → Edited TreeData)

-- in a variant: of its one value, or of what else it holds
abbrev pub at_entered : Edits → TreeData → Edited TreeData
at_entered edits (one t) = around one (edits.0 t)
at_entered edits d = edits.1 d

-- where a part leads from a value
abbrev pub at_step : Edits → List ℕ → Tree → Edited Tree
at_step edits part (seq ts) = around seq (at_part_of edits.0 part ts)
at_step edits part (tuple ts) = around tuple (at_part_of edits.0 part ts)
at_step edits part (map ps) = around map (at_value edits.0 (is_text part) ps)
at_step edits part (structure n d) = around (structure n) (at_part edits.0 part d)
at_step edits part (enumeration n i v d) =
    if bytes_eq v.content part then around (enumeration n i v) (at_entered edits d) else None
at_step edits part t = None

-- where parts lead, one after another
abbrev pub at_parts : (Tree → Edited Tree) → List (List ℕ) → Edits
at_parts edit [] = (edit, λ d. None)
at_parts edit (part ∷ parts) = (at_step (at_parts edit parts) part, at_part (at_parts edit parts).0 part)

-- parts without the last one, and that one
abbrev pub last_apart : List (List ℕ) → Option (List (List ℕ) × List ℕ)
last_apart [] = None
last_apart (part ∷ []) = Some ([], part)
last_apart (part ∷ next ∷ parts) = option_map (λ r. (part ∷ r.0, r.1)) (last_apart (next ∷ parts))

-- an edit, by the last part, of the value that the others lead to
abbrev pub at_last : (List ℕ → Tree → Edited Tree) → List (List ℕ) → Tree → Edited Tree
at_last edit parts t = option_and_then (λ r. (at_parts (edit r.1) r.0).0 t) (last_apart parts)

-- the value itself, which another replaces
abbrev pub replaced : Tree → Tree → Edited Tree
replaced v t = Some (Some t, v)

-- the item of this index is removed
abbrev pub item_removed : ℕ → Trees → Edited Trees
item_removed n no_trees = None
item_removed zero (tree_then t ts) = Some (Some t, ts)
item_removed (suc n) (tree_then t ts) = around (tree_then t) (item_removed n ts)

-- a sequence loses an item, a map the last entry whose key is this text; nothing else loses a part
abbrev pub part_removed : List ℕ → Tree → Edited Tree
part_removed part (seq ts) = around seq (option_and_then (λ n. item_removed n ts) (index_of part))
part_removed part (map ps) = option_map (λ rest. (last_value (is_text part) ps, map rest)) (pair_removed (is_text part) ps)
part_removed part t = None

-- the end of the items: `-`, or their number
abbrev pub names_end : List ℕ → Trees → Bool
names_end part ts = bytes_eq part (codes "-") || unwrap_or (option_map (λ n. n == count ts) (index_of part)) false

-- a sequence takes an item at its end, a map an entry under the text, owned; nothing else takes a part
abbrev pub part_added : Tree → List ℕ → Tree → Edited Tree
part_added v part (seq ts) = if names_end part ts then Some (None, seq (item_added v ts)) else None
part_added v part (map ps) = Some (None, map (pair_added (text (owned_text part)) v ps))
part_added v part t = None

-- what the path leads to is removed
abbrev pub removed_at : List ℕ → Tree → Edited Tree
removed_at path t = option_and_then (λ parts. at_last part_removed parts t) (parts_of path)

-- what the path leads to is replaced; where only its last part finds nothing, the value is added
abbrev pub set_at : List ℕ → Tree → Tree → Edited Tree
set_at path v t = option_and_then
    (λ parts. or_else ((at_parts (replaced v) parts).0 t) (at_last (part_added v) parts t)) (parts_of path)

-- the value that is given is taken out; none is where the edit can't be made, and then nothing has changed
abbrev pub IsTakenOut : {A : Type 0} → Edited A → A → Option NamedValue → A → Type 0
IsTakenOut edited old given new = MatchOption given ((edited ≡ None) × (new ≡ old)) (λ v. edited ≡ Some (Some (tree_of v), new))
