-- Records as CBOR.
use Rattle.std.specs.Prelude.{◌≡◌, ◌⊎◌, ℕ, List, None, Result, Ok, Err, map}
use Rattle.serde_content.specs.Names.Words.{items_in, Tree, Script, calls_of, SpellsWhole}
use Rattle.serde_content.specs.Names.Tree.{seq}
use Rattle.serde_content.specs.Names.Words.{trees_of}
use Rattle.content_cbor.specs.Codes.{Codes}
use Rattle.content_cbor.specs.Decoded.{IsPlaced, StopsAt}
use Rattle.content_cbor.specs.Form.{form}
use Rattle.content_cbor.specs.Inner.Reading.{whole_at}
use Rattle.content_cbor.specs.Item.{item}
use Rattle.content_cbor.specs.Typed.Kept.{IsKeptOf}
use Rattle.content_cbor.specs.declared.decode_error.DecodeError.TheVariants as decoding
use Rattle.content_uses.specs.Records.{records_of}
use Rattle.content_uses.specs.declared.load_error.LoadError.{LoadError}
use Rattle.content_uses.specs.declared.load_error.LoadError.TheVariants as load
use Rattle.content_uses.specs.declared.store.Store.{Store}

-- records as one array
abbrev pub array_of : List Tree → Tree
array_of ts = seq (trees_of ts)

-- what CBOR keeps of each record
abbrev pub forms : List Tree → List Tree
forms ts = map form ts

-- what a script put since a store was loaded, or what CBOR keeps of what it put before
abbrev pub IsLoadedOf : Script → Tree → Type 0
IsLoadedOf script t = SpellsWhole (calls_of script) t ⊎ IsKeptOf script t

-- memory ran out
abbrev pub IsNoMemory : LoadError → Type 0
IsNoMemory e = e ≡ load.Decode decoding.OutOfMemory

-- these records, or out of memory
abbrev pub IsLoadedAs : List Tree → Result Store LoadError → Type 0
IsLoadedAs ts (Ok store) = records_of store ≡ ts
IsLoadedAs ts (Err e) = IsNoMemory e

-- the fault with which decoding within a limit ends, or what the bytes code is no sequence
abbrev pub StopsLoading : ℕ → List ℕ → LoadError → Type 0
StopsLoading limit bs (load.Decode e) = StopsAt bs e (whole_at limit bs) × IsPlaced limit bs e
StopsLoading limit bs load.NotArray = (t : Tree) × Codes limit t bs × (items_in t ≡ None)

-- what CBOR keeps of records is the same bytes again
abbrev pub SavedAgain : Type 0
SavedAgain = (ts : List Tree) → item (array_of (forms ts)) ≡ item (array_of ts)
