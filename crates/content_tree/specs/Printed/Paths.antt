-- What paths and located errors print.
use Rattle.std.specs.Prelude.{ℕ, Bool, true, false, ◌==◌, ◌||◌, ◌&&◌, not, length, List, [], ◌∷◌, ◌++◌, codes}
use Rattle.std.specs.Prelude.{Option, Some, None, if◌then◌else◌}
use Rattle.std.specs.Char.{is_ascii_alphanumeric}
use Rattle.std.specs.Fmt.{decimal}
use Rattle.std.specs.List.{list_all}
use Rattle.content_tree.specs.Values.Paths.{escape}
use Rattle.content_tree.specs.Images.Found.{image_view}
use Rattle.content_tree.specs.Printed.Images.{printed, quoted}
use Rattle.content_tree.specs.Printed.Errors.{expected_text, kind_text}
use Rattle.content_tree.specs.Errors.Kind.{kind_of}
use Rattle.content_tree.specs.Errors.Where.{Place, item, under, places}
use Rattle.content_tree.specs.declared.error.Error.{Error}
use Rattle.content_tree.specs.declared.error.ErrorKind.{ErrorKind}
use Rattle.content_tree.specs.declared.error.ErrorKind.TheVariants as error

-- a place as a JSON Pointer has it: a `/`, and the index in decimal or the escaped name
abbrev pub place_text : Place → List ℕ
place_text (item n) = 47 ∷ decimal n
place_text (under text) = 47 ∷ escape text

-- a path, as a JSON Pointer
abbrev pub path_text : List Place → List ℕ
path_text [] = []
path_text (place ∷ inner) = place_text place ++ path_text inner

-- a byte that a part of a path escapes
abbrev pub is_special : ℕ → Bool
is_special c = c == 126 || c == 47

-- a letter or a digit of ASCII, `_` or `-`
abbrev pub is_word_byte : ℕ → Bool
is_word_byte c = is_ascii_alphanumeric c || (c == 95 || c == 45)

-- one such byte or more
abbrev pub is_word : List ℕ → Bool
is_word text = not (length text == 0) && list_all is_word_byte text

-- a place in a readable path: a word after this lead, an index or any other name in brackets
abbrev pub written_place : List ℕ → Place → List ℕ
written_place lead (item n) = codes "[" ++ (decimal n ++ codes "]")
written_place lead (under text) = if is_word text then lead ++ text else codes "[" ++ (quoted text ++ codes "]")

-- a readable path, `servers[3].port`, with this lead before its first place if that is a word
abbrev pub written_path : List ℕ → List Place → List ℕ
written_path lead [] = []
written_path lead (place ∷ inner) = written_place lead place ++ written_path (codes ".") inner

-- where, if it is inside the value and known
abbrev pub written_where : Option (List Place) → List ℕ
written_where None = []
written_where (Some []) = []
written_where (Some (place ∷ inner)) = written_path [] (place ∷ inner) ++ codes ": "

-- a kind of error, in short
abbrev pub short_text : ErrorKind → List ℕ
short_text (error.Unexpected found expected) = codes "expected " ++ (expected_text expected ++ (codes ", found " ++ printed (image_view found)))
short_text kind = kind_text kind

-- an error with the place
abbrev pub located_text : Error → List ℕ
located_text e = written_where (places e) ++ short_text (kind_of e)
