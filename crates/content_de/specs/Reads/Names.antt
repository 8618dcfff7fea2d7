-- How an error tells a name that is none of those that are known.
use Rattle.std.specs.Prelude.{ℕ, List, [], ◌∷◌, ◌++◌, codes, length, nat_eq, nat_lt, if◌then◌else◌}
use Rattle.std.specs.List.{flat_map}

-- a name between quotes
abbrev pub quoted : List ℕ → List ℕ
quoted name = codes "`" ++ (name ++ codes "`")

-- how a list of this many names begins, or that there are none
abbrev pub opening : List ℕ → ℕ → List ℕ
opening none n = if nat_eq n 0 then none else (if nat_lt n 3 then codes "expected " else codes "expected one of ")

-- what comes between two of this many names
abbrev pub separator : ℕ → List ℕ
separator n = if nat_eq n 2 then codes " or " else codes ", "

-- names between quotes, with this between them
abbrev pub joined : List ℕ → List (List ℕ) → List ℕ
joined between [] = []
joined between (name ∷ names) = quoted name ++ flat_map (λ other. between ++ quoted other) names

-- one of these names, or that there are none
abbrev pub one_of : List ℕ → List (List ℕ) → List ℕ
one_of none names = opening none (length names) ++ joined (separator (length names)) names

-- what a name of this sort that is none of these is told as
abbrev pub unknown_text : (sort none name : List ℕ) → List (List ℕ) → List ℕ
unknown_text sort none name known = codes "unknown " ++ (sort ++ (codes " " ++ (quoted name ++ (codes ", " ++ one_of none known))))
