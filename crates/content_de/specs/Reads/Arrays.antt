-- What arrays read: as tuples do, with each part of one type.
use Rattle.std.specs.Prelude.{ℕ, zero, suc, ◌+◌, List, [], ◌∷◌, Option, ⊤}
use Rattle.content_tree.specs.Errors.Cause.{Cause}
use Rattle.content_de.specs.Accesses.Seq.{SeqLeft}
use Rattle.content_de.specs.Reads.Read.{Refusal, Gives}
use Rattle.content_de.specs.Reads.Tuples.{part_then, end_of_parts, PartThen}

-- so many parts are left to read, the next at this place, and then the end
unfoldable pub parts_alike : (expected found left : ℕ) → Refusal → SeqLeft → Option Cause
parts_alike expected found zero refusal = end_of_parts expected
parts_alike expected found (suc left) refusal =
    part_then expected found refusal (parts_alike expected (found + 1) left refusal)

-- so many values, each for its part
unfoldable pub PartsAlike : {A : Type 0} → Gives A → ℕ → List A → SeqLeft → Type 0
PartsAlike gives zero [] s = ⊤
PartsAlike gives zero (x ∷ xs) s = ⊥
PartsAlike gives (suc left) [] s = ⊥
PartsAlike gives (suc left) (x ∷ xs) s = PartThen gives x (PartsAlike gives left xs) s

-- all parts of an array of this length
abbrev pub array_refusal : ℕ → Refusal → SeqLeft → Option Cause
array_refusal len = parts_alike len 0 len
