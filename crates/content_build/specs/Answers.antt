-- What a list of calls is answered.
use Rattle.std.specs.Prelude.{◌≡◌, ◌⊎◌, Bool, true, ℕ, ◌+◌, ◌<◌, List, length, take, Option}
use Rattle.std.specs.Prelude.{None, Result, Ok, Err}
use Rattle.content_tree.specs.Errors.Kind.{kind_of}
use Rattle.content_tree.specs.contracts.error.ErrorPartialEq.TheImpl as error_eq
use Rattle.content_tree.specs.declared.error.Error.{Error}
use Rattle.content_tree.specs.Values.Tree.{Tree}
use Rattle.content_tree.specs.Values.Value.{tree_of}
use Rattle.content_tree.specs.declared.error.ErrorKind.{ErrorKind}
use Rattle.content_tree.specs.declared.error.ErrorKind.TheVariants.{Unexpected, Custom, OutOfMemory}
use Rattle.content_tree.specs.declared.error.ErrorKind.TheVariants.{Misplaced, Failed, Unfinished}
use Rattle.content_tree.specs.declared.value.NamedValue.{NamedValue}
use Rattle.content_ser.specs.Calls.Event.{Event}
use Rattle.content_ser.specs.Grammar.Depth.{SpellsWithin, IsWholeWithin, IsViableWithin}
use Rattle.content_build.specs.declared.calls_error.CallsError.{CallsError}

-- the calls are refused within this limit at this place for this cause
abbrev pub IsRefusalWithin : Option ℕ → List Event → ℕ → ErrorKind → Type 0
IsRefusalWithin limit calls at Misplaced =
    (at < length calls)
    × IsViableWithin limit (take at calls)
    × ¬ IsViableWithin limit (take (at + 1) calls)
IsRefusalWithin limit calls at Unfinished =
    (at ≡ length calls)
    × IsViableWithin limit calls
    × ¬ IsWholeWithin limit calls
IsRefusalWithin limit calls at OutOfMemory =
    ((at < length calls) × IsViableWithin limit (take (at + 1) calls))
    ⊎ ((at ≡ length calls) × IsWholeWithin limit calls)
IsRefusalWithin limit calls at Failed = ⊥
IsRefusalWithin limit calls at (Unexpected found expected) = ⊥
IsRefusalWithin limit calls at (Custom message) = ⊥

-- a tree that the calls spell within this limit, or a refusal
abbrev pub IsAnswerWithin : Option ℕ → List Event → Result NamedValue CallsError → Type 0
IsAnswerWithin limit calls (Ok v) = SpellsWithin limit calls (tree_of v)
IsAnswerWithin limit calls (Err e) = IsRefusalWithin limit calls e.at (kind_of e.error)

-- the same without a limit
abbrev pub IsRefusal : List Event → ℕ → ErrorKind → Type 0
IsRefusal = IsRefusalWithin None

-- the same without a limit
abbrev pub IsAnswer : List Event → Result NamedValue CallsError → Type 0
IsAnswer = IsAnswerWithin None

-- taken with this tree, unless memory ran out
abbrev pub IfTaken : Result NamedValue CallsError → Tree → Type 0
IfTaken (Ok v) t = tree_of v ≡ t
IfTaken (Err e) t = kind_of e.error ≡ OutOfMemory

-- refused at this place for this cause, unless memory ran out
abbrev pub IfRefused : {A : Type 0} → Result A CallsError → ErrorKind → ℕ → Type 0
IfRefused (Ok v) cause at = ⊥
IfRefused (Err e) cause at =
    ((kind_of e.error ≡ cause) × (e.at ≡ at))
    ⊎ (kind_of e.error ≡ OutOfMemory)

-- what `==` of errors answers
abbrev pub is_same : Error → Error → Bool
is_same = error_eq.ghosts.eq

-- of one place, and of errors that are equal
abbrev pub SameRefusal : CallsError → CallsError → Type 0
SameRefusal a b = (a.at ≡ b.at) × (is_same a.error b.error ≡ true)
