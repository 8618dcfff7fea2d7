-- How a text is laid out: on one line, or by lines, as serde_json's two formatters have it.
use Rattle.std.specs.Prelude.{ℕ, ◌+◌, List, [], ◌∷◌, ◌++◌, codes}
use Rattle.std.specs.List.{join_by, repeat}
use Rattle.content_json.specs.declared.layout.Layout.{Layout}
use Rattle.content_json.specs.declared.layout.Layout.TheVariants.{Compact, Pretty}

-- what leads to a line: nothing, or a new line and two spaces a level
abbrev pub line : Layout → List ℕ
line Compact = []
line (Pretty level) = codes "\n" ++ repeat level (codes "  ")

-- the layout of parts
abbrev pub deeper : Layout → Layout
deeper Compact = Compact
deeper (Pretty level) = Pretty (level + 1)

-- what comes between a key and its value
abbrev pub colon : Layout → List ℕ
colon Compact = codes ":"
colon (Pretty level) = codes ": "

-- parts between brackets, a comma between two, each on a line of its own
abbrev pub enclosed : List ℕ → List ℕ → Layout → List (List ℕ) → List ℕ
enclosed open_ close layout [] = open_ ++ close
enclosed open_ close layout (p ∷ ps) =
    open_ ++ (line (deeper layout)
    ++ (join_by (λ x. x) (codes "," ++ line (deeper layout)) (p ∷ ps) ++ (line layout ++ close)))

-- parts in order
abbrev pub array : Layout → List (List ℕ) → List ℕ
array = enclosed (codes "[") (codes "]")

-- members: keys with values
abbrev pub object : Layout → List (List ℕ) → List ℕ
object = enclosed (codes "{") (codes "}")

-- a key and its value
abbrev pub member : Layout → List ℕ → List ℕ → List ℕ
member layout key value = key ++ (colon layout ++ value)
