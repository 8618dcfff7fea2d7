-- A sequence with nothing left.
use Rattle.std.proofs.Common.{◌≡◌, [], None, refl}
use Rattle.content_tree.specs.Values.Tree.{Trees, no_trees, tree_then}
use Rattle.content_de.specs.Sources.Origin.{Flags}
use Rattle.content_de.specs.Accesses.Seq.{items_under, first_item}
use Rattle.content_de.specs.Reads.Read.{Refusal, Gives}
use Rattle.content_de.specs.Reads.Standard.{items_refusal, ItemsGive}

-- it refuses nothing
pub end_refusal : (refusal : Refusal) (f : Flags) (ts : Trees) → None ≡ first_item (items_under f ts) → items_refusal refusal f ts ≡ None
end_refusal refusal f no_trees e = refl
end_refusal refusal f (tree_then t ts) e = cc

-- it gives nothing
pub end_gives : {A : Type 0} (gives : Gives A) (f : Flags) (ts : Trees) → None ≡ first_item (items_under f ts) → ItemsGive gives f ts []
end_gives gives f no_trees e = tt
end_gives gives f (tree_then t ts) e = absurd (cc)
