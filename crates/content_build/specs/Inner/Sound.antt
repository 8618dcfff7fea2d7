-- What a tape in memory represents, and when it does.
use Rattle.std.specs.Prelude.{◌≡◌, List, Bool, true, false, Option, Some, None}
use Rattle.std.specs.Coded.{Coded-set, code_by, coded_bool, ×_prop, Unit-prop}
use Rattle.std.proofs.Math.Nat.{ℕ_set}
use Rattle.std.proofs.Math.Bool.{Bool-set}
use Rattle.std.proofs.Common.{ap, refl}
use mathlib.Core.List.{is_set}
use Rattle.content_tree.specs.Values.Text.{Text}
use Rattle.content_tree.specs.Values.Tree.{Tree}
use Rattle.content_tree.specs.contracts.number.Number as number_row
use Rattle.content_ser.specs.Grammar.Token.{ItemCall, element, tuple_field}
use Rattle.content_build.specs.Partial.{Partial, Slot}
use Rattle.content_build.specs.Inner.Cells as cells
use Rattle.content_build.specs.Inner.Cells.{Cell, Open, Stood, Waiting}
use Rattle.content_build.specs.Inner.Decoding.{decode}
use Rattle.content_build.specs.Inner.Frames.{cells_of, opens_view}
use Rattle.content_build.specs.declared.frame.Frame.{Frame}
use Rattle.content_build.specs.declared.frame.Opening.{Opening}

-- the partial tree as which they are read
abbrev pub meaning : List Frame → List Opening → Partial
meaning es hs = decode (cells_of es) (opens_view hs)

-- they represent the partial tree
abbrev pub Stands : List Frame → List Opening → Partial → Type 0
Stands es hs s = Stood (cells_of es) (opens_view hs) s

-- they represent slots that wait, with a finished tree after them
abbrev pub IsWaiting : List Frame → List Opening → List Slot → Tree → Type 0
IsWaiting es hs ps t = Waiting (cells_of es) (opens_view hs) ps t

-- they represent what they are read as
abbrev pub IsSound : List Frame → List Opening → Type 0
IsSound es hs = Stands es hs (meaning es hs)

-- a call was refused, or they represent what they are read as
abbrev pub IsKept : Bool → List Frame → List Opening → Type 0
IsKept true es hs = Unit {0}
IsKept false es hs = IsSound es hs

-- the partial tree, or nothing after a refusal
abbrev pub viewed : Bool → List Frame → List Opening → Option Partial
viewed true es hs = None
viewed false es hs = Some (meaning es hs)

pub Text-set : IsSet Text
Text-set a b p q = λ i j. record {
  content = is_set ℕ_set a.content b.content (ap (λ (v : Text). v.content) p) (ap (λ (v : Text). v.content) q) i j;
  borrowed = Bool-set a.borrowed b.borrowed (ap (λ (v : Text). v.borrowed) p) (ap (λ (v : Text). v.borrowed) q) i j;
}

pub cells_set : IsSet (List Cell)
cells_set = is_set (cells.Cell-set (cells.Label-set (cells.Leaf-set Bool-set (Coded-set number_row.the_row.coded) ℕ_set Text-set) cells.Sort-set (cells.Names-set Text-set ℕ_set) Text-set) ℕ_set)

-- whether it is the call of elements
abbrev is_element : ItemCall → Bool
is_element element = true
is_element tuple_field = false

-- the call of which that is so
abbrev item_of : Bool → ItemCall
item_of true = element
item_of false = tuple_field

item_of-is_element : (m : ItemCall) → item_of (is_element m) ≡ m
item_of-is_element element = refl
item_of-is_element tuple_field = refl

pub ItemCall-set : IsSet ItemCall
ItemCall-set = Coded-set (code_by Bool coded_bool is_element item_of item_of-is_element)

pub opens_set : IsSet (List Open)
opens_set = is_set (cells.Open-set ℕ_set (cells.Wait-set ItemCall-set))

-- the fact has one proof at most
pub IsKept-prop : (failed : Bool) (es : List Frame) (hs : List Opening) → IsProp (IsKept failed es hs)
IsKept-prop true es hs = Unit-prop
IsKept-prop false es hs = ×_prop (cells_set _ _) (opens_set _ _)
