-- What decoding answers.
use Rattle.std.specs.Prelude.{◌≡◌, ℕ, ◌-◌, List, length, Result, Ok, Err}
use Rattle.content_tree.specs.Values.Tree.{Tree}
use Rattle.content_tree.specs.Values.Value.{tree_of}
use Rattle.content_tree.specs.declared.value.NamedValue.{NamedValue}
use Rattle.content_json.specs.declared.decode_error.DecodeError.{DecodeError}
use Rattle.content_json.specs.declared.decode_error.DecodeError.TheVariants as error
use Rattle.content_json.specs.declared.stop.Refusal.{Refusal}

-- the tree, or out of memory
abbrev pub IsReadAs : Tree → Result NamedValue DecodeError → Type 0
IsReadAs t (Ok v) = tree_of v ≡ t
IsReadAs t (Err e) = e ≡ error.OutOfMemory

-- the tree, and how many bytes it takes, or out of memory
abbrev pub IsReadFrom : Tree → ℕ → Result (NamedValue × ℕ) DecodeError → Type 0
IsReadFrom t n (Ok x) = (tree_of x.0 ≡ t) × (x.1 ≡ n)
IsReadFrom t n (Err e) = e ≡ error.OutOfMemory

-- the fault with which reading these bytes ends, as many bytes before their end as it leaves
abbrev pub StopsAt : {A : Type 0} → List ℕ → DecodeError → Result A Refusal → Type 0
StopsAt bs error.OutOfMemory read = Unit {0}
StopsAt bs (error.Refused at f) read = (left : ℕ)
    × (read ≡ Err (record { «fault» = f; left = left })) × (at ≡ length bs - left)
