-- The limit, the calls and the first bad line of an input.
use Rattle.std.specs.Prelude.{ℕ, ◌==◌, Bool, cond, ◌&&◌, not, List, [], ◌∷◌, length, drop, Option, is_none}
use Rattle.std.specs.Option.{option_to_list}
use Rattle.std.specs.List.{slice_split, position, position_or_len, flat_map, before_first}
use Rattle.serde_content.specs.Names.Words.{Event}
use Rattle.content_lines.specs.Forms.{is_printable}
use Rattle.content_lines.specs.Words.{event_in, limit_in}

-- the byte that ends a line
abbrev pub is_line_feed : ℕ → Bool
is_line_feed b = b == 10

-- a byte that no line may hold
abbrev pub is_foreign : ℕ → Bool
is_foreign b = not (is_printable b)

-- the limit that the first line of an input sets, if it sets one
abbrev pub limit_of : List ℕ → Option ℕ
limit_of input = limit_in (before_first is_line_feed input)

-- the lines of calls: a first line that sets a limit is emptied
abbrev pub body_of : List ℕ → List ℕ
body_of input = cond (is_none (limit_of input)) input (drop (position_or_len is_line_feed input) input)

-- the lines of calls are cut at each line feed
abbrev pub lines_of : List ℕ → List (List ℕ)
lines_of body = slice_split (λ b. b == 10) body

-- a line of no bytes
abbrev pub is_blank : List ℕ → Bool
is_blank line = length line == 0

-- a line that is neither blank nor a call
abbrev pub is_bad : List ℕ → Bool
is_bad line = not (is_blank line) && is_none (event_in line)

-- where the first bad line is, counted from 0
abbrev pub first_bad : List ℕ → Option ℕ
first_bad body = position is_bad (lines_of body)

-- the calls of the lines, in order; a blank line spells none
abbrev pub calls_of : List ℕ → List Event
calls_of body = flat_map (λ line. option_to_list (event_in line)) (lines_of body)

-- lines without the last, if that is empty
abbrev pub without_last_blank : List (List ℕ) → List (List ℕ)
without_last_blank [] = []
without_last_blank (line ∷ []) = cond (is_blank line) [] (line ∷ [])
without_last_blank (line ∷ next ∷ lines) = line ∷ without_last_blank (next ∷ lines)

-- the lines of a text: a line feed ends each, but need not end the last
abbrev pub each_line : List ℕ → List (List ℕ)
each_line text = without_last_blank (lines_of text)
