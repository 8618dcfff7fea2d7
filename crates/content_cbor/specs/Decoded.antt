-- What decoding answers.
use Rattle.std.specs.Prelude.{Bool, not, ◌≡◌, ◌⊎◌, ◌↔◌, ◌<◌, ◌≤◌, ◌+◌, true, false, ℕ, ◌-◌, List, ◌++◌, length, take, Result, Ok, Err}
use Rattle.content_tree.specs.Errors.Kind.{IsOutOfMemory}
use Rattle.content_tree.specs.Values.Tree as tree
use Rattle.content_tree.specs.Values.Tree.{Tree}
use Rattle.content_tree.specs.Values.Value.{tree_of}
use Rattle.content_tree.specs.declared.error.Error.{Error}
use Rattle.content_tree.specs.declared.value.NamedValue.{NamedValue}
use Rattle.content_de.specs.Sources.Origin.{Flags, Subject, tree_under}
use Rattle.content_ser.specs.Scripts.Script.{IsCustom}
use Rattle.content_cbor.specs.Codes.{Codes}
use Rattle.content_cbor.specs.Inner.Reading.{whole_at}
use Rattle.content_cbor.specs.PrintedFault.{error_text}
use Rattle.content_cbor.specs.declared.decode_error.Fault.{Fault}
use Rattle.content_cbor.specs.declared.decode_error.Fault.TheVariants as fault
use Rattle.content_cbor.specs.declared.decode_error.DecodeError.{DecodeError}
use Rattle.content_cbor.specs.declared.decode_error.DecodeError.TheVariants as error
use Rattle.content_cbor.specs.declared.stop.Refusal.{Refusal}

-- the tree, or out of memory
abbrev pub IsReadAs : Tree → Result NamedValue DecodeError → Type 0
IsReadAs t (Ok v) = tree_of v ≡ t
IsReadAs t (Err e) = e ≡ error.OutOfMemory

-- the tree, and how many bytes code it, or out of memory
abbrev pub IsReadFrom : Tree → ℕ → Result (NamedValue × ℕ) DecodeError → Type 0
IsReadFrom t n (Ok x) = (tree_of x.0 ≡ t) × (x.1 ≡ n)
IsReadFrom t n (Err e) = e ≡ error.OutOfMemory

-- whether decoding to this tree takes memory: for parts, and for texts and bytes that are owned
abbrev pub takes_memory : Tree → Bool
takes_memory (tree.text x) = not x.borrowed
takes_memory (tree.octets x) = not x.borrowed
takes_memory (tree.seq ts) = true
takes_memory (tree.map ps) = true
takes_memory t = false

-- the fault with which reading these bytes ends, as many bytes before their end as it leaves
abbrev pub StopsAt : {A : Type 0} → List ℕ → DecodeError → Result A Refusal → Type 0
StopsAt bs error.OutOfMemory read = Unit {0}
StopsAt bs (error.Refused at f) read = (left : ℕ)
    × (read ≡ Err (record { «fault» = f; left = left })) × (at ≡ length bs - left)

-- some bytes can follow that make these a whole item
abbrev pub IsViable : ℕ → List ℕ → Type 0
IsViable limit bs = (t : Tree) × (rest : List ℕ) × Codes limit t (bs ++ rest)

-- the fault is Ended exactly at the end, and Trailing exactly behind bytes that code a tree
abbrev pub FitsPlace : ℕ → List ℕ → ℕ → Fault → Type 0
FitsPlace limit bs at f = ((f ≡ fault.Ended) ↔ (at ≡ length bs))
    × ((f ≡ fault.Trailing) ↔ ((t : Tree) × Codes limit t (take at bs)))

-- refused at the first byte with which nothing is viable any more, or at the end
abbrev pub IsPlaced : ℕ → List ℕ → DecodeError → Type 0
IsPlaced limit bs error.OutOfMemory = Unit {0}
IsPlaced limit bs (error.Refused at f) = (at ≤ length bs)
    × (0 < limit → IsViable limit (take at bs))
    × (at < length bs → ¬ IsViable limit (take (at + 1) bs))
    × FitsPlace limit bs at f

-- how typed data are read, in a buffer or out of it: not human readable, with numbers coerced
abbrev pub flags_in : (buffered : Bool) → Flags
flags_in b = record { human_readable = false; coerces = true; buffered = b }

-- the same out of a buffer
abbrev pub read_flags : Flags
read_flags = flags_in false

-- a tree as typed data is read of it
abbrev pub as_read : Tree → Subject
as_read t = tree_under read_flags t

-- the same in a buffer, or out of it
abbrev pub read_in : (buffered : Bool) → Tree → Subject
read_in b t = tree_under (flags_in b) t

-- the printed fault with which reading these bytes ends; or out of memory
abbrev pub IsFaultOf : ℕ → List ℕ → Error → Type 0
IsFaultOf limit bs e = IsOutOfMemory e ⊎ ((at : ℕ) × (f : Fault)
    × StopsAt bs (error.Refused at f) (whole_at limit bs) × IsPlaced limit bs (error.Refused at f)
    × IsCustom (error_text (error.Refused at f)) e)
