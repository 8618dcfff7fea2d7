-- What the byte at its place says of a fault, and the bytes up to it, whatever was read before.
use Rattle.std.specs.Prelude.{◌≡◌, ◌⊎◌, ◌<◌, ◌≤◌, ◌%◌, ◌/◌, ℕ, List, [], ◌∷◌, ◌++◌, length}
use Rattle.content_cbor.specs.Codes.{IsHead}
use Rattle.content_cbor.specs.Heads.{code}
use Rattle.content_cbor.specs.declared.decode_error.Fault.{Fault}
use Rattle.content_cbor.specs.declared.decode_error.Fault.TheVariants as fault
use Rattle.content_cbor.specs.declared.heads.Major.{Major}
use Rattle.content_cbor.specs.declared.heads.Major.TheVariants as major

-- a first byte that RFC 8949 gives no meaning: its five low bits, or all of it
abbrev pub IsReserved : ℕ → Type 0
IsReserved b = ((28 ≤ b % 32) × (b % 32 ≤ 30)) ⊎ ((b ≡ 0x1F) ⊎ ((b ≡ 0x3F) ⊎ (b ≡ 0xDF)))

-- a first byte of some item
abbrev pub IsFirstByte : ℕ → Type 0
IsFirstByte b = (¬ IsReserved b) × (¬ (b ≡ 0xFF))

-- the byte at the place of a fault
abbrev pub FitsByte : Fault → ℕ → Type 0
FitsByte fault.Ended b = ⊥
FitsByte fault.Reserved b = IsReserved b
FitsByte fault.Break b = b ≡ 0xFF
FitsByte fault.WrongChunk b = IsFirstByte b
FitsByte fault.WrongKind b = IsFirstByte b × ((b < 0x40) ⊎ (0x60 ≤ b))
FitsByte fault.Float b = (0xF9 ≤ b) × (b ≤ 0xFB)
FitsByte fault.Simple b = ((0xE0 ≤ b) × (b ≤ 0xF3)) ⊎ ((0xF7 ≤ b) × (b ≤ 0xF8))
FitsByte f b = Unit {0}

-- the bytes from the place of a fault on: none where they have ended
abbrev pub FitsBytes : Fault → List ℕ → Type 0
FitsBytes f [] = f ≡ fault.Ended
FitsBytes f (b ∷ bs) = FitsByte f b

-- bytes that end in a head of this major type: with its first byte, or with one of at most eight after it
abbrev pub EndsInHead : Major → List ℕ → Type 0
EndsInHead m bs = (front number : List ℕ) × (first : ℕ) × (first / 32 ≡ code m) × (length number ≤ 8)
    × (bs ≡ front ++ (first ∷ number))

-- the head of a tag of wide numbers
abbrev pub IsWideTag : List ℕ → Type 0
IsWideTag head = IsHead major.Tag 2 head ⊎ IsHead major.Tag 3 head

-- bytes that end with the first byte under such a tag
abbrev pub EndsUnderTag : List ℕ → Type 0
EndsUnderTag bs = (front head : List ℕ) × (first : ℕ) × IsWideTag head
    × (bs ≡ front ++ (head ++ (first ∷ [])))

-- bytes that end in what is under such a tag, which begins as bytes do
abbrev pub EndsInDigits : List ℕ → Type 0
EndsInDigits bs = (front head more : List ℕ) × (first : ℕ) × IsWideTag head
    × (first / 32 ≡ code major.Bytes) × (bs ≡ front ++ (head ++ (first ∷ more)))

-- bytes that end in a text of definite length, after its head
abbrev pub EndsInText : List ℕ → Type 0
EndsInText bs = (front head part : List ℕ) × (n : ℕ) × IsHead major.Text n head
    × (0 < length part) × (length part ≤ n) × (bs ≡ front ++ (head ++ part))

-- bytes that end with the first byte of an item
abbrev pub EndsWithFirst : List ℕ → Type 0
EndsWithFirst bs = (front : List ℕ) × (first : ℕ) × IsFirstByte first × (bs ≡ front ++ (first ∷ []))

-- the bytes up to the place of a fault, and with it
abbrev pub FitsFront : Fault → List ℕ → Type 0
FitsFront fault.Tag bs = EndsInHead major.Tag bs
FitsFront fault.WrongKind bs = EndsUnderTag bs
FitsFront fault.TooDeep bs = EndsWithFirst bs ⊎ (EndsInHead major.Array bs ⊎ EndsInHead major.Map bs)
FitsFront fault.TooWide bs = EndsInDigits bs
FitsFront fault.NotUtf8 bs = EndsInText bs
FitsFront f bs = Unit {0}
