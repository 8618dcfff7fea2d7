-- Reading from the left, up to the first fault.
use Rattle.std.specs.Prelude.{ℕ, suc, zero, ◌-◌, ◌/◌, ◌%◌, ◌^◌, Bool, true, false, pos, negsuc, List, [], ◌∷◌, length}
use Rattle.std.specs.Int.{is_in_range}
use Rattle.std.specs.List.{concat}
use Rattle.std.specs.Prelude.{take, drop, Option, Some, None, Result, Ok, nat_lt, nat_le, nat_eq, if◌then◌else◌}
use Rattle.content_tree.specs.Values.Text.{Text, owned_text, static_name}
use Rattle.content_tree.specs.Values.Tree as tree
use Rattle.content_tree.specs.Values.Tree.{Tree}
use Rattle.content_tree.specs.Values.Value.{trees_of, pairs_of}
use Rattle.content_tree.specs.declared.number.Number.{Number}
use Rattle.content_cbor.specs.Codes.{number_of}
use Rattle.content_cbor.specs.declared.decode_error.Fault.{Fault}
use Rattle.content_cbor.specs.declared.decode_error.Fault.TheVariants as fault
use Rattle.content_cbor.specs.declared.heads.First.{First}
use Rattle.content_cbor.specs.declared.heads.Head.{Head}
use Rattle.content_cbor.specs.declared.heads.Major.{Major}
use Rattle.content_cbor.specs.declared.heads.Major.TheVariants as major
use Rattle.content_cbor.specs.declared.stop.Refusal.{Refusal}
use Rattle.content_cbor.specs.Inner.Steps.{◌>>=◌, Reader, refused, refused_before, unless}
use Rattle.content_cbor.specs.Inner.Numbers.{Bounds, argument_at, between, digits_at, leading, unbounded}
use Rattle.content_cbor.specs.Inner.Texts.{tail, text_at}

-- the major type of three bits
abbrev pub major_of : ℕ → Major
major_of n =
    if nat_eq n 0 then major.Unsigned
    else if nat_eq n 1 then major.Negative
    else if nat_eq n 2 then major.Bytes
    else if nat_eq n 3 then major.Text
    else if nat_eq n 4 then major.Array
    else if nat_eq n 5 then major.Map
    else if nat_eq n 6 then major.Tag
    else major.Simple

abbrev pub is_simple : Major → Bool
is_simple major.Simple = true
is_simple m = false

-- whether RFC 8949 gives a first byte no meaning
abbrev pub is_reserved : Major → ℕ → Bool
is_reserved major.Unsigned info = nat_lt 27 info
is_reserved major.Negative info = nat_lt 27 info
is_reserved major.Tag info = nat_lt 27 info
is_reserved m info = is_in_range 28 30 info

-- the first byte of a head
unfoldable pub first_at : Reader First
first_at [] = refused fault.Ended []
first_at (b ∷ bs) =
    if is_reserved (major_of (b / 32)) (b % 32) then refused fault.Reserved (b ∷ bs)
    else Ok (record { major = major_of (b / 32); info = b % 32 }, bs)

-- what is wrong with an item that begins so, whatever the limit
abbrev pub item_fault : Major → ℕ → Option Fault
item_fault major.Simple info =
    if nat_eq info 31 then Some fault.Break
    else if is_in_range 25 27 info then Some fault.Float
    else if is_in_range 20 22 info then None
    else Some fault.Simple
item_fault major.Tag info =
    if nat_lt 23 info then None else if is_in_range 2 3 info then None else Some fault.Tag
item_fault m info = None

-- the first byte of an item, whatever the limit
unfoldable pub kind_at : Reader First
kind_at bs = first_at bs >>= λ h. unless (item_fault h.0.«major» h.0.info) bs h

-- what the number of a head must be where items may stand so deep in it
abbrev pub bounds_of : ℕ → Major → Bounds
bounds_of limit major.Tag = between 2 3 fault.Tag
bounds_of zero major.Array = between 0 0 fault.TooDeep
bounds_of zero major.Map = between 0 0 fault.TooDeep
bounds_of limit m = unbounded

-- a head behind its first byte
abbrev pub head_behind : Bounds → First → Reader Head
head_behind bounds first bs =
    if nat_eq first.info 31 then Ok (record { major = first.«major»; number = None }, bs)
    else argument_at bounds first.info bs >>= λ n.
    Ok (record { major = first.«major»; number = Some n.0 }, n.1)

-- the head of an item
unfoldable pub head_at : ℕ → Reader Head
head_at limit bs = kind_at bs >>= λ h. head_behind (bounds_of limit h.0.«major») h.0 h.1

-- so many bytes
abbrev pub bytes_at : ℕ → Reader (List ℕ)
bytes_at n bs = if nat_lt (length bs) n then refused fault.Ended [] else Ok (take n bs, drop n bs)

-- so many bytes, of a text or of bytes
unfoldable pub content_at : Bool → ℕ → Reader (List ℕ)
content_at false n bs = bytes_at n bs
content_at true n bs = text_at (tail 0) n bs

-- the major type of a text or of bytes
abbrev pub string_major : Bool → Major
string_major true = major.Text
string_major false = major.Bytes

-- whether a chunk of a text or of bytes begins so: with its length
abbrev pub begins_chunk : Bool → Major → ℕ → Bool
begins_chunk true major.Text info = nat_lt info 31
begins_chunk false major.Bytes info = nat_lt info 31
begins_chunk is_text m info = false

-- the head of a chunk of a text or of bytes
unfoldable pub length_at : Bool → Bounds → Reader ℕ
length_at is_text bounds bs = first_at bs >>= λ h.
    if begins_chunk is_text h.0.«major» h.0.info then argument_at bounds h.0.info h.1
    else refused fault.WrongChunk bs

-- a chunk of a text or of bytes
unfoldable pub chunk_at : Bool → Reader (List ℕ)
chunk_at is_text bs = length_at is_text unbounded bs >>= λ n. content_at is_text n.0 n.1

-- whether a break is next
abbrev pub at_break : List ℕ → Bool
at_break [] = false
at_break (b ∷ bs) = nat_eq b 255

-- parts up to a break, and no more than so many
unfoldable pub until_at : {A : Type 0} → Reader A → ℕ → Reader (List A)
until_at part zero bs = refused fault.Ended []
until_at part (suc k) bs = if at_break bs then Ok ([], drop 1 bs) else part bs >>= λ x.
    until_at part k x.1 >>= λ xs. Ok (x.0 ∷ xs.0, xs.1)

-- so many parts
unfoldable pub each_at : {A : Type 0} → Reader A → ℕ → Reader (List A)
each_at part zero bs = Ok ([], bs)
each_at part (suc k) bs = part bs >>= λ x. each_at part k x.1 >>= λ xs. Ok (x.0 ∷ xs.0, xs.1)

-- the chunks of a text or of bytes up to a break, together
unfoldable pub chunks_at : Bool → Reader (List ℕ)
chunks_at is_text bs =
    until_at (chunk_at is_text) (length bs) bs >>= λ xs. Ok (concat xs.0, xs.1)

-- a text or bytes, in one piece or in chunks
unfoldable pub string_at : Bool → Option ℕ → Reader Text
string_at is_text (Some n) bs = content_at is_text n bs >>= λ x. Ok (static_name x.0, x.1)
string_at is_text None bs = chunks_at is_text bs >>= λ x. Ok (owned_text x.0, x.1)

-- the greatest number under a tag
abbrev pub greatest : Bool → ℕ
greatest is_negative = if is_negative then 2 ^ 127 - 1 else 2 ^ 128 - 1

-- a number that has room under its tag
abbrev pub room : Bool → Bounds
room is_negative = between 0 (greatest is_negative) fault.TooWide

-- how many digits, up to so many, can go on from this number where it may grow to another
abbrev pub digits_behind : ℕ → ℕ → ℕ → ℕ
digits_behind zero most n = 0
digits_behind (suc k) most n =
    if nat_le n (leading (suc k) most) then suc k else digits_behind k most n

-- how long a chunk of digits may be
abbrev pub chunk_bounds : Bool → ℕ → Bounds
chunk_bounds is_negative n =
    if nat_eq n 0 then unbounded
    else between 0 (digits_behind 15 (greatest is_negative) n) fault.TooWide

-- the number whose digits go on in chunks up to a break, and no more than so many
unfoldable pub digits_until : Bool → ℕ → ℕ → Reader ℕ
digits_until is_negative n zero bs = refused fault.Ended []
digits_until is_negative n (suc k) bs =
    if at_break bs then Ok (n, drop 1 bs)
    else length_at false (chunk_bounds is_negative n) bs >>= λ l.
    digits_at (room is_negative) l.0 n l.1 >>= λ m. digits_until is_negative m.0 k m.1

-- the number whose digits stand behind the head of bytes
abbrev pub digits_of : Bool → Option ℕ → Reader ℕ
digits_of is_negative (Some n) bs = digits_at (room is_negative) n 0 bs
digits_of is_negative None bs = digits_until is_negative 0 (length bs) bs

-- the same behind a first byte, which must be one of bytes
abbrev pub magnitude_behind : Bool → List ℕ → Major → ℕ → Reader ℕ
magnitude_behind is_negative from major.Bytes info bs =
    head_behind unbounded (record { major = major.Bytes; info = info }) bs >>= λ h.
    digits_of is_negative h.0.number h.1
magnitude_behind is_negative from major.Simple info bs =
    refused (if nat_eq info 31 then fault.Break else fault.WrongKind) from
magnitude_behind is_negative from m info bs = refused fault.WrongKind from

-- the number under tag 2 or 3, from its bytes
unfoldable pub magnitude_at : Bool → Reader ℕ
magnitude_at is_negative bs = first_at bs >>= λ h.
    magnitude_behind is_negative bs h.0.«major» h.0.info h.1

-- a number under this tag, behind its head
unfoldable pub tag_at : ℕ → Reader Number
tag_at n bs =
    if nat_eq n 2 then (magnitude_at false bs >>= λ x. Ok (number_of (pos x.0), x.1))
    else magnitude_at true bs >>= λ x. Ok (number_of (negsuc x.0), x.1)

-- a simple value, behind its head
abbrev pub simple_at : ℕ → Reader Tree
simple_at n bs =
    if nat_eq n 20 then Ok (tree.boolean false, bs)
    else if nat_eq n 21 then Ok (tree.boolean true, bs)
    else if nat_eq n 22 then Ok (tree.absent, bs)
    else refused_before fault.Simple bs

-- what holds no part, behind its head
unfoldable pub leaf_at : Major → Option ℕ → Reader Tree
leaf_at major.Unsigned (Some n) bs = Ok (tree.number (number_of (pos n)), bs)
leaf_at major.Negative (Some n) bs = Ok (tree.number (number_of (negsuc n)), bs)
leaf_at major.Bytes number bs = string_at false number bs >>= λ x. Ok (tree.octets x.0, x.1)
leaf_at major.Text number bs = string_at true number bs >>= λ x. Ok (tree.text x.0, x.1)
leaf_at major.Tag (Some n) bs = tag_at n bs >>= λ k. Ok (tree.number k.0, k.1)
leaf_at major.Simple (Some n) bs = simple_at n bs
leaf_at major.Simple None bs = refused_before fault.Break bs
leaf_at m number bs = refused_before fault.Reserved bs

-- a key and a value
unfoldable pub pair_at : Reader Tree → Reader (Tree × Tree)
pair_at part bs = part bs >>= λ k. part k.1 >>= λ v. Ok ((k.0, v.0), v.1)

-- parts behind their head
unfoldable pub parts_at : {A : Type 0} → Reader A → Option ℕ → Reader (List A)
parts_at part None bs = until_at part (length bs) bs
parts_at part (Some n) bs = each_at part n bs

-- what stands behind a head
abbrev pub inside_at : Reader Tree → Major → Option ℕ → Reader Tree
inside_at part major.Array number bs =
    parts_at part number bs >>= λ xs. Ok (tree.seq (trees_of xs.0), xs.1)
inside_at part major.Map number bs =
    parts_at (pair_at part) number bs >>= λ xs. Ok (tree.map (pairs_of xs.0), xs.1)
inside_at part m number bs = leaf_at m number bs

-- an item within a limit
unfoldable pub item_at : ℕ → Reader Tree
item_at zero bs = kind_at bs >>= λ h. refused fault.TooDeep bs
item_at (suc limit) bs = head_at limit bs >>= λ h.
    inside_at (item_at limit) h.0.«major» h.0.number h.1

-- one item, and nothing behind it
unfoldable pub whole_at : ℕ → List ℕ → Result Tree Refusal
whole_at limit bs = item_at limit bs >>= λ x.
    if nat_eq (length x.1) 0 then Ok x.0 else refused fault.Trailing x.1
