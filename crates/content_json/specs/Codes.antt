-- Which bytes are a JSON text of a tree: RFC 8259 without floats.
use Rattle.std.specs.Prelude.{◌≡◌, ◌⊎◌, ℕ, suc, zero, ◌+◌, ◌*◌, ◌-◌, ◌<◌, ◌≤◌, ◌^◌, ℤ, pos, negsuc, Bool, true, false, not, nat_lt}
use Rattle.std.specs.Prelude.{List, [], ◌∷◌, ◌++◌, length, map, codes, encode_utf8, if◌then◌else◌, Option, Some, None, ◌==◌, ◌||◌}
use Rattle.std.specs.Int.{is_in_range}
use Rattle.std.specs.Int.Digits.{number_from_digits}
use Rattle.std.specs.List.{list_all}
use Rattle.std.specs.Str.{IsUtf8}
use Rattle.content_tree.specs.Values.Text.{Text}
use Rattle.content_tree.specs.Values.Tree as tree
use Rattle.content_tree.specs.Values.Tree.{Tree}
use Rattle.content_tree.specs.Values.Value.{trees_of, pairs_of}
use Rattle.content_tree.specs.declared.number.Number.{Number}
use Rattle.content_tree.specs.declared.number.Number.TheVariants as number
use Rattle.content_json.specs.Strings.{has_escape}

-- a space, a tab or the end of a line
abbrev pub is_blank : ℕ → Bool
is_blank b = b == 32 || (b == 9 || (b == 10 || b == 13))

-- whether this byte comes next
abbrev pub begins_with : ℕ → List ℕ → Bool
begins_with due [] = false
begins_with due (b ∷ bs) = b == due

-- the greatest size
abbrev pub greatest : Bool → ℕ
greatest true = 2 ^ 127
greatest false = 2 ^ 128 - 1

-- the number of this size
abbrev pub signed : Bool → ℕ → ℤ
signed true (suc n) = negsuc n
signed is_negative n = pos n

-- the kind that an integer gets: 64 bits where it has room there, and else 128
abbrev pub number_of : ℤ → Number
number_of (pos n) = if nat_lt n (2 ^ 64) then number.U64 n else number.U128 n
number_of (negsuc n) = if nat_lt n (2 ^ 63) then number.I64 (negsuc n) else number.I128 (negsuc n)

-- the value of a hexadecimal digit
abbrev pub hex_value : ℕ → Option ℕ
hex_value b =
    if is_in_range 48 57 b then Some (b - 48)
    else if is_in_range 97 102 b then Some (b - 87)
    else if is_in_range 65 70 b then Some (b - 55)
    else None

-- the character of a letter after a backslash
abbrev pub short_escape : ℕ → Option ℕ
short_escape b =
    if b == 34 then Some 34
    else if b == 92 then Some 92
    else if b == 47 then Some 47
    else if b == 98 then Some 8
    else if b == 102 then Some 12
    else if b == 110 then Some 10
    else if b == 114 then Some 13
    else if b == 116 then Some 9
    else None

-- spaces, tabs and ends of lines
abbrev pub AreBlanks : List ℕ → Type 0
AreBlanks bs = list_all is_blank bs ≡ true

-- what may come after a value: a blank, a comma, a closing bracket, or nothing
abbrev pub ends_value : ℕ → Bool
ends_value b = is_blank b || (b == 44 || (b == 93 || b == 125))

-- the same of bytes
abbrev pub follows : List ℕ → Bool
follows [] = true
follows (b ∷ bs) = ends_value b

-- blanks, a part and blanks
abbrev pub Spaced : (List ℕ → Type 0) → List ℕ → Type 0
Spaced Part bs = (before part after : List ℕ) × AreBlanks before × Part part × AreBlanks after
    × (bs ≡ before ++ (part ++ after))

-- the decimal digits of a number, without a zero at their front
abbrev pub IsSize : ℕ → List ℕ → Type 0
IsSize n bs = (list_all (is_in_range 48 57) bs ≡ true)
    × (n ≡ number_from_digits 10 (map (λ b. b - 48) bs))
    × ((bs ≡ 48 ∷ []) ⊎ ((0 < length bs) × (begins_with 48 bs ≡ false)))

-- an integer of at most 128 bits
abbrev pub IsInteger : ℤ → List ℕ → Type 0
IsInteger z bs = (is_negative : Bool) × (n : ℕ) × (digits : List ℕ) × (n ≤ greatest is_negative)
    × IsSize n digits × (z ≡ signed is_negative n)
    × (bs ≡ (if is_negative then 45 ∷ digits else digits))

-- characters that stand for themselves: no control character, quote or backslash
abbrev pub IsRun : List ℕ → Type 0
IsRun bs = IsUtf8 bs × (list_all (λ b. not (has_escape b)) bs ≡ true)

-- four hexadecimal digits of a number
abbrev pub IsHex : ℕ → List ℕ → Type 0
IsHex u bs = (a b c d p q r s : ℕ) × (hex_value a ≡ Some p) × (hex_value b ≡ Some q)
    × (hex_value c ≡ Some r) × (hex_value d ≡ Some s) × (bs ≡ a ∷ b ∷ c ∷ d ∷ [])
    × (u ≡ p * 4096 + q * 256 + r * 16 + s)

-- a character after a backslash: a letter; u and its four digits; or those of two surrogates
abbrev pub IsEscape : ℕ → List ℕ → Type 0
IsEscape c bs = ((b : ℕ) × (short_escape b ≡ Some c) × (bs ≡ b ∷ []))
    ⊎ (((digits : List ℕ) × IsHex c digits
    × (is_in_range 0xD800 0xDFFF c ≡ false) × (bs ≡ 117 ∷ digits))
    ⊎ ((u v : ℕ) × (first second : List ℕ) × IsHex u first × IsHex v second
    × (is_in_range 0xD800 0xDBFF u ≡ true) × (0xDC00 ≤ v) × (v < 0xE000)
    × (c ≡ 0x10000 + ((u - 0xD800) * 1024 + (v - 0xDC00)))
    × (bs ≡ 117 ∷ (first ++ (92 ∷ 117 ∷ second)))))

-- escapes, each with the characters after it, and what they spell
abbrev pub Escapes : List (ℕ × List ℕ) → List ℕ → List ℕ → Type 0
Escapes [] content bs = (content ≡ []) × (bs ≡ [])
Escapes (p ∷ ps) content bs = (escape more rest : List ℕ) × IsEscape p.0 escape × IsRun p.1
    × Escapes ps rest more × (content ≡ (encode_utf8 p.0 ++ p.1) ++ rest)
    × (bs ≡ 92 ∷ (escape ++ (p.1 ++ more)))

-- whether there is none
abbrev pub is_empty : {A : Type 0} → List A → Bool
is_empty [] = true
is_empty (x ∷ xs) = false

-- a text in quotes: borrowed if it has no escape, and else owned
abbrev pub IsString : Text → List ℕ → Type 0
IsString x bs = (run : List ℕ) × (escapes : List (ℕ × List ℕ)) × (content inside : List ℕ)
    × IsRun run × Escapes escapes content inside
    × (x ≡ record { content = run ++ content; borrowed = is_empty escapes })
    × (bs ≡ 34 ∷ (run ++ (inside ++ (34 ∷ []))))

-- parts with blanks around them and commas between them
abbrev pub Joined : {A : Type 0} → (A → List ℕ → Type 0) → List A → List ℕ → Type 0
Joined Part [] bs = ⊥
Joined Part (x ∷ []) bs = Spaced (Part x) bs
Joined Part (x ∷ y ∷ xs) bs = (front back : List ℕ) × Spaced (Part x) front
    × Joined Part (y ∷ xs) back × (bs ≡ front ++ (44 ∷ back))

-- parts between brackets
abbrev pub Between : {A : Type 0} → ℕ → ℕ → (A → List ℕ → Type 0) → List A → List ℕ → Type 0
Between open_ close Part xs bs = (inside : List ℕ)
    × (((xs ≡ []) × AreBlanks inside) ⊎ Joined Part xs inside)
    × (bs ≡ open_ ∷ (inside ++ (close ∷ [])))

-- a key, a colon and a value
abbrev pub IsMember : (Tree → List ℕ → Type 0) → (Tree × Tree) → List ℕ → Type 0
IsMember Inner p bs = (x : Text) × (key before after value : List ℕ) × (p.0 ≡ tree.text x)
    × IsString x key × AreBlanks before × AreBlanks after × Inner p.1 value
    × (bs ≡ key ++ (before ++ (58 ∷ (after ++ value))))

-- a tree in which such trees are
abbrev pub IsValue : (Tree → List ℕ → Type 0) → Tree → List ℕ → Type 0
IsValue Inner tree.absent bs = bs ≡ codes "null"
IsValue Inner (tree.boolean b) bs = bs ≡ (if b then codes "true" else codes "false")
IsValue Inner (tree.number n) bs = (z : ℤ) × (n ≡ number_of z) × IsInteger z bs
IsValue Inner (tree.text x) bs = IsString x bs
IsValue Inner (tree.seq ts) bs =
    (items : List Tree) × (ts ≡ trees_of items) × Between 91 93 Inner items bs
IsValue Inner (tree.map ps) bs =
    (pairs : List (Tree × Tree)) × (ps ≡ pairs_of pairs) × Between 123 125 (IsMember Inner) pairs bs
IsValue Inner t bs = ⊥

-- the bytes are a value that codes the tree, in which no tree is deeper than the limit; its own depth is 1
abbrev pub IsValueOf : ℕ → Tree → List ℕ → Type 0
IsValueOf zero t bs = ⊥
IsValueOf (suc limit) t bs = IsValue (IsValueOf limit) t bs

-- the same with blanks around it: a JSON text
abbrev pub Codes : ℕ → Tree → List ℕ → Type 0
Codes limit t bs = Spaced (IsValueOf limit t) bs
