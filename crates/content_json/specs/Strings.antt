-- Texts in quotes, as serde_json escapes them.
use Rattle.std.specs.Prelude.{ℕ, Bool, List, [], ◌∷◌, ◌++◌, codes, flat_map, if◌then◌else◌, nat_lt}
use Rattle.std.specs.Prelude.{◌==◌, ◌||◌, ◌/◌, ◌%◌}
use Rattle.std.specs.Char.{digit_char}

-- whether a byte of a text is written as anything but itself: a control character, a quote or a backslash
abbrev pub has_escape : ℕ → Bool
has_escape b = nat_lt b 32 || (b == 34 || b == 92)

-- a byte of a text: its short escape where JSON has one, \u and four digits, or itself
abbrev pub escaped : ℕ → List ℕ
escaped b =
    if b == 34 then codes "\\\"" else (if b == 92 then codes "\\\\"
    else (if b == 8 then codes "\\b" else (if b == 9 then codes "\\t"
    else (if b == 10 then codes "\\n" else (if b == 12 then codes "\\f"
    else (if b == 13 then codes "\\r" else (if nat_lt b 32
    then codes "\\u00" ++ (digit_char (b / 16) ∷ digit_char (b % 16) ∷ []) else b ∷ [])))))))

-- bytes in quotes
abbrev pub in_quotes : List ℕ → List ℕ
in_quotes bs = codes "\"" ++ (bs ++ codes "\"")

-- a text of these bytes in quotes
abbrev pub quoted : List ℕ → List ℕ
quoted bs = in_quotes (flat_map escaped bs)
