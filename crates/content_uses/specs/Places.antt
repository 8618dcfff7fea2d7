-- Where each pair that is put over a map goes.
use Rattle.std.specs.Prelude.{ℕ, zero, suc, List, [], ◌∷◌, map, Option, Some, None}
use Rattle.std.specs.Prelude.{if◌then◌else◌}
use Rattle.content_tree.specs.declared.cow.CowStr.{CowStr}
use Rattle.serde_content.specs.Names.Words.{Tree, tree_of, text_of, pairs_of, NamedValue}
use Rattle.serde_content.specs.Names.Tree.{text, Pairs, no_pairs, pair_then}
use Rattle.content_uses.specs.Merged.{is_last, put, merged}

-- pairs, whose keys have these trees
abbrev pub keyed : {K : Type 0} → (K → Tree) → List (K × NamedValue) → Pairs
keyed tree xs = pairs_of (map (λ p. (tree p.0, tree_of p.1)) xs)

-- the name of a field as a key
abbrev pub field_key : CowStr → Tree
field_key name = text (text_of name)

-- where the last pair of this key is, or after all of them
abbrev pub place : Tree → Pairs → ℕ
place k no_pairs = 0
place k (pair_then j t ps) = if is_last k j ps then 0 else suc (place k ps)

-- where each pair of the first in turn is put in the second
abbrev pub places : (over base : Pairs) → List ℕ
places no_pairs ps = []
places (pair_then k u qs) ps = place k ps ∷ places qs (put k u (merged u) ps)

-- the value at this place
abbrev pub value_at : ℕ → Pairs → Option Tree
value_at i no_pairs = None
value_at zero (pair_then k t ps) = Some t
value_at (suc i) (pair_then k t ps) = value_at i ps

-- another value at this place
abbrev pub with_value : ℕ → Tree → Pairs → Pairs
with_value i u no_pairs = no_pairs
with_value zero u (pair_then k t ps) = pair_then k u ps
with_value (suc i) u (pair_then k t ps) = pair_then k t (with_value i u ps)
