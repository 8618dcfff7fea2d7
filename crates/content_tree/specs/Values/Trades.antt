-- What code that puts a value in place of the one that a path leads to computes.
use Rattle.std.specs.Prelude.{◌≡◌, ◌≢◌, ℕ, ◌<◌, ◌+◌, Bool, true, false, if◌then◌else◌, List, length, drop, ◌∷◌, Option, Some, None}
use Rattle.std.specs.Prelude.{is_some, option_map, option_and_then, MatchOption, MatchResult}
use Rattle.std.specs.List.{HoldsAt, AllByRecursion}
use Rattle.std.specs.declared.result.Result.{Result}
use Rattle.content_tree.specs.Values.Edits.{IsRefused, pair_removed}
use Rattle.content_tree.specs.Values.Lookups.{is_text, last_value}
use Rattle.content_tree.specs.Values.PathEdits.{Edited, around, at_part_of, at_value, at_field, at_part}
use Rattle.content_tree.specs.Values.PathEdits.{at_entered, at_step, at_parts, at_last, replaced}
use Rattle.content_tree.specs.Values.PathEdits.{part_removed, part_added, item_removed, names_end}
use Rattle.content_tree.specs.Values.Paths.{unescape, parts_of}
use Rattle.content_tree.specs.Values.Places.{is_part, found_field}
use Rattle.content_tree.specs.Values.Text.{text_of}
use Rattle.content_tree.specs.Values.Tree.{Tree, seq, map, tuple, structure, enumeration, TreeData, one, many}
use Rattle.content_tree.specs.Values.Tree.{named, Trees, Pairs, Fields}
use Rattle.content_tree.specs.Values.Value.{tree_of, fields_view}
use Rattle.content_tree.specs.declared.cow.CowStr.{CowStr}
use Rattle.content_tree.specs.declared.edits.InsertError.{InsertError}
use Rattle.content_tree.specs.declared.value.NamedValue.{NamedValue}

-- the value is put in place of one that comes back; or it comes back itself, and nothing has changed
abbrev pub IsTraded : {A : Type 0} → Edited A → A → NamedValue → A → Result NamedValue NamedValue → Type 0
IsTraded edited old value new result = MatchResult result
    (λ before. edited ≡ Some (Some (tree_of before), new))
    (λ back. (edited ≡ None) × (new ≡ old) × (back ≡ value))

-- an edit by the part that a piece spells and those that the rest of the path does, if they spell any
abbrev pub spelled : {A : Type 0} → List ℕ → List ℕ → (List ℕ → List (List ℕ) → Edited A) → Edited A
spelled piece rest edit = option_and_then (λ parts. option_and_then (λ part. edit part parts) (unescape piece)) (parts_of rest)

-- a part, if one is spelled, before those of the rest
abbrev pub first_parts : Option (List ℕ) → Option (List (List ℕ)) → Option (List (List ℕ))
first_parts o os = option_and_then (λ part. option_map (λ parts. part ∷ parts) os) o

-- from a value
abbrev pub traded : List ℕ → Tree → Tree → Edited Tree
traded path v t = option_and_then (λ parts. (at_parts (replaced v) parts).0 t) (parts_of path)

-- from what a variant holds whose name was the last part
abbrev pub traded_inside : List ℕ → Tree → TreeData → Edited TreeData
traded_inside path v d = option_and_then (λ parts. at_entered (at_parts (replaced v) parts) d) (parts_of path)

-- by the next piece, among items
abbrev pub traded_item : List ℕ → List ℕ → Tree → Trees → Edited Trees
traded_item piece rest v ts = spelled piece rest (λ part parts. at_part_of (at_parts (replaced v) parts).0 part ts)

-- among entries
abbrev pub traded_entry : List ℕ → List ℕ → Tree → Pairs → Edited Pairs
traded_entry piece rest v ps = spelled piece rest (λ part parts. at_value (at_parts (replaced v) parts).0 (is_text part) ps)

-- among fields
abbrev pub traded_field : List ℕ → List ℕ → Tree → Fields → Edited Fields
traded_field piece rest v fs = spelled piece rest (λ part parts. at_field (at_parts (replaced v) parts).0 part fs)

-- in what a struct or a variant holds
abbrev pub traded_part : List ℕ → List ℕ → Tree → TreeData → Edited TreeData
traded_part piece rest v (many ts) = around many (traded_item piece rest v ts)
traded_part piece rest v (named fs) = around named (traded_field piece rest v fs)
traded_part piece rest v d = None

-- in a value
abbrev pub traded_in : List ℕ → List ℕ → Tree → Tree → Edited Tree
traded_in piece rest v (seq ts) = around seq (traded_item piece rest v ts)
traded_in piece rest v (tuple ts) = around tuple (traded_item piece rest v ts)
traded_in piece rest v (map ps) = around map (traded_entry piece rest v ps)
traded_in piece rest v (structure n d) = around (structure n) (traded_part piece rest v d)
traded_in piece rest v (enumeration n i s d) =
    if is_part (unescape piece) s.content then around (enumeration n i s) (traded_inside rest v d) else None
traded_in piece rest v t = None

-- one value
abbrev pub is_one : TreeData → Bool
is_one (one t) = true
is_one d = false

-- the index is that of the last field of the part's name: none if there is no such field
abbrev pub IsLastField : Option (List ℕ) → List (CowStr × NamedValue) → Option ℕ → Type 0
IsLastField o fs found = MatchOption found (found_field o (fields_view fs) ≡ None)
    (λ i. (i < length fs) × HoldsAt (λ f. is_part o (text_of f.0).content ≡ true) fs i
    × (found_field o (fields_view (drop (i + 1) fs)) ≡ None))

-- no `/` is in it
abbrev pub HasNoSlash : List ℕ → Type 0
HasNoSlash bs = AllByRecursion (λ x. x ≢ 47) bs

-- `~` and the first byte spell this character, below 128, and then comes the rest
abbrev pub IsCut : List ℕ → ℕ → List ℕ → Type 0
IsCut after character rest = (length after ≡ length rest + 1) × (character < 128) × (HasNoSlash after → HasNoSlash rest)
    × (unescape (126 ∷ after) ≡ option_map (λ part. character ∷ part) (unescape rest))

-- the part that a piece spells is removed
abbrev pub piece_removed : List ℕ → Tree → Edited Tree
piece_removed piece (seq ts) = option_and_then (λ part. part_removed part (seq ts)) (unescape piece)
piece_removed piece (map ps) = option_and_then (λ part. part_removed part (map ps)) (unescape piece)
piece_removed piece t = None

-- it is added with this value
abbrev pub piece_added : List ℕ → Tree → Tree → Edited Tree
piece_added piece v (seq ts) = option_and_then (λ part. part_added v part (seq ts)) (unescape piece)
piece_added piece v (map ps) = option_and_then (λ part. part_added v part (map ps)) (unescape piece)
piece_added piece v t = None

-- the last part of a path is added with this value
abbrev pub added_at : List ℕ → Tree → Tree → Edited Tree
added_at path v t = option_and_then (λ parts. at_last (part_added v) parts t) (parts_of path)

-- the value is added and nothing taken out; or it comes back, and nothing has changed
abbrev pub IsAdded : {T : Type 0} → Edited Tree → Tree → NamedValue → Tree → Result T (InsertError NamedValue) → Type 0
IsAdded edited old value new result = MatchResult result
    (λ done. edited ≡ Some (None, new))
    (λ e. (new ≡ old) × IsRefused (is_some edited) value e)
