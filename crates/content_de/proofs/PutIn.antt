-- Pairs that are put into a map.
use Rattle.std.proofs.Common.{◌≡◌, List, [], ◌∷◌, None, refl}
use Rattle.std.specs.BTreeMap.{insert_entry}
use Rattle.std.specs.declared.cmp.Ordering.{Ordering}
use Rattle.content_tree.specs.Values.Tree.{Tree}
use Rattle.content_de.specs.Sources.Origin.{Origin, Flags}
use Rattle.content_de.specs.Accesses.Map.{entries_under, first_entry}
use Rattle.content_de.specs.Reads.Read.{Refusal, Gives}
use Rattle.content_de.specs.Reads.Maps.{put_in, EntriesGive, entries_refusal}
use Rattle.content_de.specs.Reads.Pairs.{PairsGive}

-- the pairs that entries may give lead to the map that they are put into
pub pairs_put_in : {K V : Type 0} (key : Gives K) (value : Gives V) (order : K → K → Ordering) (f : Flags) (es : List (Origin × Tree)) (ps old : List (K × V))
    → PairsGive key value f es ps → EntriesGive key value order f es old (put_in order old ps)
pairs_put_in key value order f [] [] old h = refl
pairs_put_in key value order f [] (p ∷ ps) old h = absurd h
pairs_put_in key value order f (e ∷ es) [] old h = absurd h
pairs_put_in key value order f (e ∷ es) (p ∷ ps) old h =
    (p.0, p.1, h.0, h.1, pairs_put_in key value order f es ps (insert_entry order old p.0 p.1) h.2)

-- where no entry is left, none is refused
pub no_entry_refused : (key value : Refusal) (f : Flags) (es : List (Origin × Tree)) → None ≡ first_entry (entries_under f es) → entries_refusal key value f es ≡ None
no_entry_refused key value f [] e = refl
no_entry_refused key value f (x ∷ es) e = absurd (cc e)

-- and none gives a pair
pub no_entry_gives : {K V : Type 0} (key : Gives K) (value : Gives V) (f : Flags) (es : List (Origin × Tree)) → None ≡ first_entry (entries_under f es) → PairsGive key value f es []
no_entry_gives key value f [] e = tt
no_entry_gives key value f (x ∷ es) e = absurd (cc e)
