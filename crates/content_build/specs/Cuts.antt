-- What a list of calls is answered of which a beginning is to spell a tree.
use Rattle.std.specs.Prelude.{◌≡◌, ◌⊎◌, ℕ, ◌+◌, ◌<◌, ◌≤◌, List, length, take, Result, Ok, Err}
use Rattle.content_tree.specs.Errors.Kind.{kind_of}
use Rattle.content_tree.specs.Values.Tree.{Tree}
use Rattle.content_tree.specs.Values.Value.{tree_of}
use Rattle.content_tree.specs.declared.error.ErrorKind.{ErrorKind}
use Rattle.content_tree.specs.declared.error.ErrorKind.TheVariants.{Unexpected, Custom, OutOfMemory}
use Rattle.content_tree.specs.declared.error.ErrorKind.TheVariants.{Misplaced, Failed, Unfinished}
use Rattle.content_tree.specs.declared.value.NamedValue.{NamedValue}
use Rattle.content_ser.specs.Calls.Event.{Event}
use Rattle.content_ser.specs.Grammar.Spells.{SpellsWhole, IsWhole, IsViable}
use Rattle.content_build.specs.Answers.{IsRefusal}
use Rattle.content_build.specs.declared.calls_error.CallsError.{CallsError}

-- this many of the calls, from the first, spell the tree
abbrev pub SpellsFirst : List Event → ℕ → Tree → Type 0
SpellsFirst calls n t = (n ≤ length calls) × SpellsWhole (take n calls) t

-- a beginning spells a tree only if it has this length
abbrev pub OnlyCut : List Event → ℕ → Type 0
OnlyCut calls n = (m : ℕ) → m ≤ length calls → IsWhole (take m calls) → m ≡ n

-- no beginning spells a tree
abbrev pub NoCut : List Event → Type 0
NoCut calls = (n : ℕ) → ¬ IsWhole (take n calls)

-- no beginning spells a tree, and the calls are refused at this place for this cause; or memory ran
-- out at a call up to which they are viable, or at the end of a beginning that spells a tree
abbrev pub IsCutRefusal : List Event → ℕ → ErrorKind → Type 0
IsCutRefusal calls at Misplaced = NoCut calls × IsRefusal calls at Misplaced
IsCutRefusal calls at Unfinished = NoCut calls × IsRefusal calls at Unfinished
IsCutRefusal calls at OutOfMemory =
    ((at < length calls) × IsViable (take (at + 1) calls))
    ⊎ ((at ≤ length calls) × IsWhole (take at calls))
IsCutRefusal calls at Failed = ⊥
IsCutRefusal calls at (Unexpected found expected) = ⊥
IsCutRefusal calls at (Custom message) = ⊥

-- a tree that the only beginning spells that spells any, with its length, or a refusal
abbrev pub IsCut : List Event → Result (NamedValue × ℕ) CallsError → Type 0
IsCut calls (Ok found) = SpellsFirst calls found.1 (tree_of found.0) × OnlyCut calls found.1
IsCut calls (Err e) = IsCutRefusal calls e.at (kind_of e.error)

-- cut at this length with this tree, unless memory ran out
abbrev pub IfCut : Result (NamedValue × ℕ) CallsError → ℕ → Tree → Type 0
IfCut (Ok found) n t = (found.1 ≡ n) × (tree_of found.0 ≡ t)
IfCut (Err e) n t = kind_of e.error ≡ OutOfMemory
