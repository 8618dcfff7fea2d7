-- Which bytes are a well-formed data item (RFC 8949, section 3), of whatever kind, tag and depth.
use Rattle.std.specs.Prelude.{◌≡◌, ◌⊎◌, ◌≤◌, ℕ, suc, zero, List, [], ◌∷◌, ◌++◌, length}
use Rattle.content_cbor.specs.Codes.{IsHead}
use Rattle.content_cbor.specs.Heads.{first_byte}
use Rattle.content_cbor.specs.declared.heads.Major.{Major}
use Rattle.content_cbor.specs.declared.heads.Major.TheVariants as major

-- so many parts, one after another
abbrev pub Row : (List ℕ → Type 0) → ℕ → List ℕ → Type 0
Row Part zero bs = bs ≡ []
Row Part (suc n) bs = (front back : List ℕ) × Part front × Row Part n back × (bs ≡ front ++ back)

-- a key and a value
abbrev pub Two : (List ℕ → Type 0) → List ℕ → Type 0
Two Part bs = (front back : List ℕ) × Part front × Part back × (bs ≡ front ++ back)

-- a text or bytes of a definite length, which are the chunks of one of indefinite length
abbrev pub IsChunk : Major → List ℕ → Type 0
IsChunk m bs = (head content : List ℕ) × IsHead m (length content) head × (bs ≡ head ++ content)

-- a head with a number; that of a simple value in a second byte is 32 at least
abbrev pub IsNumbered : Major → ℕ → List ℕ → Type 0
IsNumbered m n head = IsHead m n head × (head ≡ first_byte major.Simple 24 ∷ n ∷ [] → 32 ≤ n)

-- what comes after a head with this number
abbrev pub Follows : (List ℕ → Type 0) → Major → ℕ → List ℕ → Type 0
Follows Inner major.Bytes n body = length body ≡ n
Follows Inner major.Text n body = length body ≡ n
Follows Inner major.Array n body = Row Inner n body
Follows Inner major.Map n body = Row (Two Inner) n body
Follows Inner major.Tag n body = Inner body
Follows Inner m n body = body ≡ []

-- a head with a number, and what comes after it
abbrev pub IsClosed : (List ℕ → Type 0) → Major → List ℕ → Type 0
IsClosed Inner m bs = (n : ℕ) × (head body : List ℕ) × IsNumbered m n head × Follows Inner m n body
    × (bs ≡ head ++ body)

-- a head without a number, parts, and a break
abbrev pub UpToBreak : Major → (List ℕ → Type 0) → List ℕ → Type 0
UpToBreak m Part bs = (n : ℕ) × (body : List ℕ) × Row Part n body
    × (bs ≡ first_byte m 31 ∷ (body ++ (255 ∷ [])))

-- an item of indefinite length
abbrev pub IsOpen : (List ℕ → Type 0) → Major → List ℕ → Type 0
IsOpen Inner major.Bytes bs = UpToBreak major.Bytes (IsChunk major.Bytes) bs
IsOpen Inner major.Text bs = UpToBreak major.Text (IsChunk major.Text) bs
IsOpen Inner major.Array bs = UpToBreak major.Array Inner bs
IsOpen Inner major.Map bs = UpToBreak major.Map (Two Inner) bs
IsOpen Inner m bs = ⊥

-- an item in which such items stand
abbrev pub IsFormed : (List ℕ → Type 0) → List ℕ → Type 0
IsFormed Inner bs = (m : Major) × (IsClosed Inner m bs ⊎ IsOpen Inner m bs)

-- a well-formed item, in which items stand no deeper in one another than this
abbrev pub WellFormed : ℕ → List ℕ → Type 0
WellFormed zero bs = ⊥
WellFormed (suc depth) bs = IsFormed (WellFormed depth) bs

-- some bytes can follow that make these a well-formed item, however deep
abbrev pub BeginsWellFormed : List ℕ → Type 0
BeginsWellFormed bs = (depth : ℕ) × (rest : List ℕ) × WellFormed depth (bs ++ rest)
