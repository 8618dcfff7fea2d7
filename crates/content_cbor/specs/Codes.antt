-- Which bytes code a tree: heads of any length, definite and indefinite lengths.
use Rattle.std.specs.Prelude.{◌≡◌, ◌⊎◌, ℕ, suc, zero, ◌^◌, ◌<◌, ℤ, pos, negsuc, true}
use Rattle.std.specs.Prelude.{List, [], ◌∷◌, ◌++◌, length, nat_lt, if◌then◌else◌}
use Rattle.std.specs.List.{concat}
use Rattle.std.specs.Int.{Width, to_be_bytes, w8, w16, w32, w64}
use Rattle.std.specs.Int.Digits.{number_from_digits}
use Rattle.std.specs.Str.{IsUtf8}
use Rattle.content_tree.specs.Values.Text.{Text, owned_text}
use Rattle.content_tree.specs.Values.Tree as tree
use Rattle.content_tree.specs.Values.Tree.{Tree}
use Rattle.content_tree.specs.Values.Value.{trees_of, pairs_of}
use Rattle.content_tree.specs.declared.number.Number.{Number}
use Rattle.content_tree.specs.declared.number.Number.TheVariants as number
use Rattle.content_cbor.specs.Heads.{first_byte}
use Rattle.content_cbor.specs.declared.heads.Major.{Major}
use Rattle.content_cbor.specs.declared.heads.Major.TheVariants as major

-- how many bytes of a head stand behind its first
pub data Size : Type 0 where
  one : Size
  two : Size
  four : Size
  eight : Size

-- what the first byte says of that
abbrev pub info_of : Size → ℕ
info_of one = 24
info_of two = 25
info_of four = 26
info_of eight = 27

-- the width of a number in so many bytes
abbrev pub width_of : Size → Width
width_of one = w8
width_of two = w16
width_of four = w32
width_of eight = w64

-- numbers below this have room
abbrev pub room : Size → ℕ
room one = 2 ^ 8
room two = 2 ^ 16
room four = 2 ^ 32
room eight = 2 ^ 64

-- a head of a major type and a number, in as many bytes as one likes
abbrev pub IsHead : Major → ℕ → List ℕ → Type 0
IsHead m n bs = ((n < 24) × (bs ≡ first_byte m n ∷ []))
    ⊎ ((s : Size) × (n < room s) × (bs ≡ first_byte m (info_of s) ∷ to_be_bytes (width_of s) n))

-- one part after another
abbrev pub Each : {A : Type 0} → (A → List ℕ → Type 0) → List A → List ℕ → Type 0
Each Part [] bs = bs ≡ []
Each Part (x ∷ xs) bs =
    (front back : List ℕ) × Part x front × Each Part xs back × (bs ≡ front ++ back)

-- no length, the parts, and a break
abbrev pub Open : {A : Type 0} → Major → (A → List ℕ → Type 0) → List A → List ℕ → Type 0
Open m Part xs bs =
    (body : List ℕ) × Each Part xs body × (bs ≡ first_byte m 31 ∷ (body ++ (255 ∷ [])))

-- how many parts there are and the parts, or the parts up to a break
abbrev pub Parts : {A : Type 0} → Major → (A → List ℕ → Type 0) → List A → List ℕ → Type 0
Parts m Part xs bs =
    ((head body : List ℕ) × IsHead m (length xs) head × Each Part xs body × (bs ≡ head ++ body))
    ⊎ Open m Part xs bs

-- what may stand in a text is UTF-8
abbrev pub IsContent : Major → List ℕ → Type 0
IsContent major.Text content = IsUtf8 content
IsContent m content = Unit {0}

-- a text or bytes of this length, in one piece
abbrev pub IsPiece : Major → List ℕ → List ℕ → Type 0
IsPiece m content bs =
    (head : List ℕ) × IsHead m (length content) head × IsContent m content × (bs ≡ head ++ content)

-- a text or bytes: in one piece, and borrowed, or in chunks up to a break, and owned
abbrev pub IsString : Major → Text → List ℕ → Type 0
IsString m x bs = ((x.borrowed ≡ true) × IsPiece m x.content bs)
    ⊎ ((chunks : List (List ℕ)) × (x ≡ owned_text (concat chunks)) × Open m (IsPiece m) chunks bs)

-- bytes under a tag, which are the digits of a number to the base 256
abbrev pub IsTagged : ℕ → ℕ → List ℕ → Type 0
IsTagged tag n bs = (head back : List ℕ) × (x : Text) × IsHead major.Tag tag head
    × IsString major.Bytes x back × (number_from_digits 256 x.content ≡ n) × (bs ≡ head ++ back)

-- an integer of at most 128 bits
abbrev pub IsInteger : ℤ → List ℕ → Type 0
IsInteger (pos n) bs = IsHead major.Unsigned n bs ⊎ ((n < 2 ^ 128) × IsTagged 2 n bs)
IsInteger (negsuc n) bs = IsHead major.Negative n bs ⊎ ((n < 2 ^ 127) × IsTagged 3 n bs)

-- the kind that an integer gets: 64 bits where it has room there, and else 128
abbrev pub number_of : ℤ → Number
number_of (pos n) = if nat_lt n (2 ^ 64) then number.U64 n else number.U128 n
number_of (negsuc n) = if nat_lt n (2 ^ 63) then number.I64 (negsuc n) else number.I128 (negsuc n)

-- a key and a value
abbrev pub IsPair : (Tree → List ℕ → Type 0) → (Tree × Tree) → List ℕ → Type 0
IsPair Inner p bs = (front back : List ℕ) × Inner p.0 front × Inner p.1 back × (bs ≡ front ++ back)

-- a tree in which such trees stand
abbrev pub IsItem : (Tree → List ℕ → Type 0) → Tree → List ℕ → Type 0
IsItem Inner tree.absent bs = bs ≡ first_byte major.Simple 22 ∷ []
IsItem Inner (tree.boolean b) bs = bs ≡ first_byte major.Simple (if b then 21 else 20) ∷ []
IsItem Inner (tree.number n) bs = (z : ℤ) × (n ≡ number_of z) × IsInteger z bs
IsItem Inner (tree.text x) bs = IsString major.Text x bs
IsItem Inner (tree.octets x) bs = IsString major.Bytes x bs
IsItem Inner (tree.seq ts) bs =
    (items : List Tree) × (ts ≡ trees_of items) × Parts major.Array Inner items bs
IsItem Inner (tree.map ps) bs =
    (pairs : List (Tree × Tree)) × (ps ≡ pairs_of pairs) × Parts major.Map (IsPair Inner) pairs bs
IsItem Inner t bs = ⊥

-- the bytes code the tree, in which no tree stands deeper than the limit; its own depth is 1
abbrev pub Codes : ℕ → Tree → List ℕ → Type 0
Codes zero t bs = ⊥
Codes (suc limit) t bs = IsItem (Codes limit) t bs
