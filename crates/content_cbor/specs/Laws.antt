-- What holds of all items.
use Rattle.std.specs.Prelude.{◌≡◌, ◌<◌, ◌≤◌, ◌+◌, ℕ, List, [], drop, get_or, length, take, None, Some, false, true}
use Rattle.content_tree.specs.Values.Tree.{Tree}
use Rattle.content_ser.specs.Calls.Event.{Event}
use Rattle.content_ser.specs.Grammar.Spells.{SpellsWhole}
use Rattle.content_ser.specs.Scripts.Script.{calls_of, stop_of}
use Rattle.content_ser.specs.Sending.TreeScript.{script_of}
use Rattle.content_ser.specs.Serializers.Step.{run}
use Rattle.content_cbor.specs.Codes.{Codes, IsHead}
use Rattle.content_cbor.specs.Decoded.{StopsAt}
use Rattle.content_cbor.specs.Encoder.{Written, nothing, step}
use Rattle.content_cbor.specs.FaultBytes.{FitsBytes, FitsFront}
use Rattle.content_cbor.specs.Form.{form, depth, CodesForm, Fits}
use Rattle.content_cbor.specs.Heads.{head}
use Rattle.content_cbor.specs.Inner.Reading.{item_at, whole_at}
use Rattle.content_cbor.specs.Item.{item}
use Rattle.content_cbor.specs.Malformed.{is_malformed}
use Rattle.content_cbor.specs.WellFormed.{BeginsWellFormed}
use Rattle.content_cbor.specs.declared.decode_error.DecodeError.TheVariants as error
use Rattle.content_cbor.specs.declared.decode_error.Fault.{Fault}
use Rattle.content_cbor.specs.declared.decode_error.Fault.TheVariants as fault
use Rattle.content_cbor.specs.declared.heads.Major.{Major}

-- no bytes code two trees
abbrev pub OneTree : Type 0
OneTree = (limit : ℕ) (bytes : List ℕ) (t u : Tree) → Codes limit t bytes → Codes limit u bytes → t ≡ u

-- the item of a tree codes the tree's form
abbrev pub ItemsCodeForms : Type 0
ItemsCodeForms = (t : Tree) → Fits t → CodesForm t (item t)

-- bytes code a tree only within limits that it keeps
abbrev pub LimitsAreKept : Type 0
LimitsAreKept = (limit : ℕ) (bytes : List ℕ) (t : Tree) → Codes limit t bytes → depth t ≤ limit

-- what bytes code within a limit they code within each greater one
abbrev pub LimitsWiden : Type 0
LimitsWiden = (limit greater : ℕ) (bytes : List ℕ) (t : Tree) → limit ≤ greater
    → Codes limit t bytes → Codes greater t bytes

-- the form of what bytes code within a limit keeps the limit too
abbrev pub FormsKeepLimits : Type 0
FormsKeepLimits = (limit : ℕ) (bytes : List ℕ) (t : Tree) → Codes limit t bytes → depth (form t) ≤ limit

-- bytes that decoding refuses as malformed begin no well-formed item, up to and with the place
abbrev pub MalformedBeginsNothing : Type 0
MalformedBeginsNothing = (limit : ℕ) (bytes : List ℕ) (at : ℕ) (f : Fault)
    → is_malformed f ≡ true → StopsAt bytes (error.Refused at f) (whole_at limit bytes)
    → ¬ BeginsWellFormed (take (at + 1) bytes)

-- the same of the item at their front
abbrev pub MalformedFrontBeginsNothing : Type 0
MalformedFrontBeginsNothing = (limit : ℕ) (bytes : List ℕ) (at : ℕ) (f : Fault)
    → is_malformed f ≡ true → StopsAt bytes (error.Refused at f) (item_at limit bytes)
    → ¬ BeginsWellFormed (take (at + 1) bytes)

-- numbers that are bytes
abbrev pub AreBytes : List ℕ → Type 0
AreBytes bytes = (i : ℕ) → get_or bytes i 0 < 256

-- bytes that decoding refuses otherwise begin a well-formed item, up to and with the place
abbrev pub OthersBeginItems : Type 0
OthersBeginItems = (limit : ℕ) (bytes : List ℕ) (at : ℕ) (f : Fault) → AreBytes bytes
    → is_malformed f ≡ false → StopsAt bytes (error.Refused at f) (whole_at limit bytes)
    → BeginsWellFormed (take (at + 1) bytes)

-- the same of the item at their front
abbrev pub OtherFrontsBeginItems : Type 0
OtherFrontsBeginItems = (limit : ℕ) (bytes : List ℕ) (at : ℕ) (f : Fault) → AreBytes bytes
    → is_malformed f ≡ false → StopsAt bytes (error.Refused at f) (item_at limit bytes)
    → BeginsWellFormed (take (at + 1) bytes)

-- a fault of decoding is one of the byte at its place, whatever was read before it
abbrev pub FaultsFitBytes : Type 0
FaultsFitBytes = (limit : ℕ) (bytes : List ℕ) (at : ℕ) (f : Fault) → AreBytes bytes
    → StopsAt bytes (error.Refused at f) (whole_at limit bytes) → FitsBytes f (drop at bytes)

-- the same of the item at their front
abbrev pub FrontFaultsFitBytes : Type 0
FrontFaultsFitBytes = (limit : ℕ) (bytes : List ℕ) (at : ℕ) (f : Fault) → AreBytes bytes
    → StopsAt bytes (error.Refused at f) (item_at limit bytes) → FitsBytes f (drop at bytes)

-- a fault of decoding is one of the bytes up to its place, and with it
abbrev pub FaultsFitFronts : Type 0
FaultsFitFronts = (limit : ℕ) (bytes : List ℕ) (at : ℕ) (f : Fault) → AreBytes bytes
    → StopsAt bytes (error.Refused at f) (whole_at limit bytes) → FitsFront f (take (at + 1) bytes)

-- the same of the item at their front
abbrev pub FrontFaultsFitFronts : Type 0
FrontFaultsFitFronts = (limit : ℕ) (bytes : List ℕ) (at : ℕ) (f : Fault) → AreBytes bytes
    → StopsAt bytes (error.Refused at f) (item_at limit bytes) → FitsFront f (take (at + 1) bytes)

-- within a greater limit bytes are refused alike, unless they nested too deep
abbrev pub OnlyDepthIsLimited : Type 0
OnlyDepthIsLimited = (limit greater : ℕ) (bytes : List ℕ) (at : ℕ) (f : Fault) → limit ≤ greater
    → ¬ (f ≡ fault.TooDeep) → StopsAt bytes (error.Refused at f) (whole_at limit bytes)
    → StopsAt bytes (error.Refused at f) (whole_at greater bytes)

-- the same of the item at their front
abbrev pub OnlyFrontDepthIsLimited : Type 0
OnlyFrontDepthIsLimited = (limit greater : ℕ) (bytes : List ℕ) (at : ℕ) (f : Fault)
    → limit ≤ greater → ¬ (f ≡ fault.TooDeep)
    → StopsAt bytes (error.Refused at f) (item_at limit bytes)
    → StopsAt bytes (error.Refused at f) (item_at greater bytes)

-- two levels more take bytes further that nested too deep: they are refused later, if at all
abbrev pub DeeperGoesFurther : Type 0
DeeperGoesFurther = (limit greater : ℕ) (bytes : List ℕ) (at later : ℕ) (f : Fault)
    → limit + 2 ≤ greater → StopsAt bytes (error.Refused at fault.TooDeep) (whole_at limit bytes)
    → StopsAt bytes (error.Refused later f) (whole_at greater bytes) → at < later

-- the same of the item at their front
abbrev pub DeeperFrontGoesFurther : Type 0
DeeperFrontGoesFurther = (limit greater : ℕ) (bytes : List ℕ) (at later : ℕ) (f : Fault)
    → limit + 2 ≤ greater → StopsAt bytes (error.Refused at fault.TooDeep) (item_at limit bytes)
    → StopsAt bytes (error.Refused later f) (item_at greater bytes) → at < later

-- no head is shorter than the one that is written
abbrev pub HeadsAreShort : Type 0
HeadsAreShort = (m : Major) (n : ℕ) (bytes : List ℕ) → IsHead m n bytes → length (head m n) ≤ length bytes

-- a form is its own form
abbrev pub FormsStay : Type 0
FormsStay = (t : Tree) → form (form t) ≡ form t

-- a form has the item of its tree
abbrev pub FormsHaveItems : Type 0
FormsHaveItems = (t : Tree) → item (form t) ≡ item t

-- the calls of a whole tree, all taken by an encoder, leave the item of the tree, which fits, coding its form
abbrev pub WholeTreesAreEncoded : Type 0
WholeTreesAreEncoded = (calls : List Event) (t : Tree) (w : Written) → SpellsWhole calls t
    → run step nothing calls ≡ Some w
    → (w ≡ record { bytes = item t; due = [] }) × Fits t × CodesForm t w.bytes

-- the calls of a tree that fits and has no owned key, with true lengths and one entry a pair, are all taken by an encoder, and leave the item
abbrev pub FittingTreesAreTaken : Type 0
FittingTreesAreTaken = (t : Tree) → Fits t → stop_of (script_of t) ≡ None
    → run step nothing (calls_of (script_of t)) ≡ Some (record { bytes = item t; due = [] })
