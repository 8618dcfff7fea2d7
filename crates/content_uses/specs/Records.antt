-- A store of records: the tree of each, in the order in which they were put.
use Rattle.std.specs.Prelude.{◌≡◌, ◌⊎◌, ℕ, List, [], ◌∷◌, ◌++◌, None, Some, Result, IsErrAnd, codes, length}
use Rattle.std.specs.Prelude.{map}
use Rattle.serde_content.specs.Names.Words.{IsCustomOrMemory, IsOutOfMemory}
use Rattle.serde_content.specs.Names.Words.{Tree, tree_of, Script, calls_of, stop_of, SpellsWhole}
use Rattle.serde_content.specs.Names.Words.{Error, kind_of, places}
use Rattle.content_uses.specs.declared.store.Store.{Store}

-- the trees of the records
abbrev pub records_of : Store → List Tree
records_of s = map tree_of s.records.items

-- at the end, under the next number, is the tree that the script's calls spell
abbrev pub IsPut : Script → (old new : List Tree) → ℕ → Type 0
IsPut script old new number =
    (t : Tree) × (stop_of script ≡ None) × SpellsWhole (calls_of script) t
    × (new ≡ old ++ t ∷ []) × (number ≡ length old)

-- memory ran out, or the script stops with this text
abbrev pub IsRefusalOf : Script → Error → Type 0
IsRefusalOf script e = IsOutOfMemory e
    ⊎ ((message : List ℕ) × (stop_of script ≡ Some message) × IsCustomOrMemory message (kind_of e))

-- that tree is at the end
abbrev pub IsLast : Script → (old new : List Tree) → Type 0
IsLast script old new = IsPut script old new (length old)

-- it does, or nothing changed
abbrev pub MayBeLast : Script → (old new : List Tree) → Type 0
MayBeLast script old new = (new ≡ old) ⊎ IsLast script old new

-- no record has this number: an error of the whole that says so, or memory ran out
abbrev pub IsUnknown : {A : Type 0} → Result A Error → Type 0
IsUnknown r = IsErrAnd r (λ e. IsCustomOrMemory (codes "no such record") (kind_of e) × (places e ≡ Some []))
