-- What the entries of a map give, as pairs in their order.
use Rattle.std.specs.Prelude.{List, [], ◌∷◌, ⊤}
use Rattle.content_tree.specs.Values.Tree.{Tree}
use Rattle.content_de.specs.Sources.Origin.{Origin, Flags, tree_under, subject_under}
use Rattle.content_de.specs.Outcomes.{IsTaken}
use Rattle.content_de.specs.Accesses.Map.{MapLeft, map_at}
use Rattle.content_de.specs.Reads.Read.{Gives}

-- as many pairs as entries, each of a key and a value that may be given
abbrev pub PairsGive : {K V : Type 0} → Gives K → Gives V → Flags → List (Origin × Tree) → List (K × V) → Type 0
PairsGive key value f [] [] = ⊤
PairsGive key value f [] (p ∷ ps) = ⊥
PairsGive key value f (e ∷ es) [] = ⊥
PairsGive key value f (e ∷ es) (p ∷ ps) =
    key (subject_under f e.0) p.0 × value (tree_under f e.1) p.1 × PairsGive key value f es ps

-- the same of what a map has left
abbrev pub LeftGives : {K V : Type 0} → Gives K → Gives V → MapLeft → List (K × V) → Type 0
LeftGives key value m pairs = PairsGive key value m.flags m.entries pairs

-- the pairs that a map may give
abbrev pub EachGives : {K V : Type 0} → Gives K → Gives V → Gives (List (K × V))
EachGives key value s pairs = IsTaken (map_at s) (λ l. LeftGives key value l pairs)
