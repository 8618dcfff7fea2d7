-- Paths by JSON Pointer (RFC 6901): the parts that one spells.
use Rattle.std.specs.Prelude.{ℕ, Bool, false, ◌==◌, ◌&&◌, ◌||◌, not, length, List, [], ◌∷◌, ◌++◌}
use Rattle.std.specs.Prelude.{Option, Some, None, option_map, option_and_then, if◌then◌else◌}
use Rattle.std.specs.List.{slice_split}
use Rattle.std.specs.Str.{all_ascii_digits}
use Rattle.std.specs.Str.Parse.{digits_value}

-- a byte of a part, as a path spells it: `~` as `~0`, `/` as `~1`
abbrev pub escaped : ℕ → List ℕ
escaped x = if x == 126 then 126 ∷ 48 ∷ [] else (if x == 47 then 126 ∷ 49 ∷ [] else x ∷ [])

-- a part, as a path spells it
abbrev pub escape : List ℕ → List ℕ
escape [] = []
escape (x ∷ xs) = escaped x ++ escape xs

-- the path of these parts: each after a `/`
abbrev pub path_of : List (List ℕ) → List ℕ
path_of [] = []
path_of (part ∷ parts) = 47 ∷ (escape part ++ path_of parts)

-- a byte that spells itself: neither `~` nor `/`
abbrev pub is_plain : ℕ → Bool
is_plain x = not (x == 126) && not (x == 47)

-- the byte that `~` and this one spell
abbrev pub after_tilde : ℕ → Option ℕ
after_tilde x = if x == 48 then Some 126 else (if x == 49 then Some 47 else None)

-- the part that a piece spells: none if the piece has a `/`, or a `~` that neither 0 nor 1 follows
abbrev pub unescape : List ℕ → Option (List ℕ)
unescape [] = Some []
unescape (x ∷ []) = if is_plain x then Some (x ∷ []) else None
unescape (x ∷ y ∷ xs) =
    if is_plain x then option_map (λ part. x ∷ part) (unescape (y ∷ xs))
    else (if x == 126 then option_and_then (λ z. option_map (λ part. z ∷ part) (unescape xs)) (after_tilde y) else None)

-- the parts that pieces spell, if each spells one
abbrev pub unescape_each : List (List ℕ) → Option (List (List ℕ))
unescape_each [] = Some []
unescape_each (s ∷ ss) = option_and_then (λ part. option_map (λ parts. part ∷ parts) (unescape_each ss)) (unescape s)

-- what is after the first piece, which must be empty
abbrev pub after_root : List (List ℕ) → Option (List (List ℕ))
after_root ([] ∷ ss) = Some ss
after_root ss = None

-- the pieces of a path, each after a `/`: none if the path begins with anything else
abbrev pub pieces_of : List ℕ → Option (List (List ℕ))
pieces_of path = after_root (slice_split (λ x. x == 47) path)

-- the parts that a path spells, or none where it is no JSON Pointer
abbrev pub parts_of : List ℕ → Option (List (List ℕ))
parts_of path = option_and_then unescape_each (pieces_of path)

-- `0`, or digits of which the first isn't 0
abbrev pub is_index : List ℕ → Bool
is_index [] = false
is_index (x ∷ xs) = all_ascii_digits (x ∷ xs) && (not (x == 48) || length xs == 0)

-- the index that a part names
abbrev pub index_of : List ℕ → Option ℕ
index_of part = if is_index part then Some (digits_value 10 part) else None
