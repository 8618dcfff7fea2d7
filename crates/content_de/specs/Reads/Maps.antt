-- What maps read: every entry in turn, put into the map in order, so that the last of equal keys wins.
use Rattle.std.specs.Prelude.{List, [], ◌∷◌, Option, None, ◌≡◌}
use Rattle.std.specs.declared.cmp.Ordering.{Ordering}
use Rattle.std.specs.BTreeMap.{insert_entry}
use Rattle.std.specs.List.{fold}
use Rattle.content_tree.specs.Values.Tree.{Tree}
use Rattle.content_tree.specs.Errors.Cause.{Cause}
use Rattle.content_de.specs.Sources.Origin.{Origin, Flags, tree_under, subject_under}
use Rattle.content_de.specs.Accesses.Map.{MapLeft}
use Rattle.content_de.specs.Reads.Read.{Refusal, Gives, first_of}

-- the first refusal among entries, of each its key before its value
abbrev pub entries_refusal : (key value : Refusal) → Flags → List (Origin × Tree) → Option Cause
entries_refusal key value f [] = None
entries_refusal key value f (e ∷ es) =
    first_of (key (subject_under f e.0)) (first_of (value (tree_under f e.1)) (entries_refusal key value f es))

-- a map's entries after these are put in, one after another
abbrev pub put_in : {K V : Type 0} → (K → K → Ordering) → (old more : List (K × V)) → List (K × V)
put_in order old more = fold (λ es e. insert_entry order es e.0 e.1) old more

-- keys and values that the entries may give, put in one after another, lead from one map to the other
abbrev pub EntriesGive : {K V : Type 0} → Gives K → Gives V → (K → K → Ordering) → Flags → List (Origin × Tree) → (old new : List (K × V)) → Type 0
EntriesGive key value order f [] old new = new ≡ old
EntriesGive {K} {V} key value order f (e ∷ es) old new =
    (k : K) × (v : V) × key (subject_under f e.0) k × value (tree_under f e.1) v
    × EntriesGive key value order f es (insert_entry order old k v) new

-- the first refusal of what a map has left
abbrev pub map_refusal : (key value : Refusal) → MapLeft → Option Cause
map_refusal key value m = entries_refusal key value m.flags m.entries

-- what a map may give, put into one with these entries
abbrev pub MapGives : {K V : Type 0} → Gives K → Gives V → (K → K → Ordering) → MapLeft → (old new : List (K × V)) → Type 0
MapGives key value order m old new = EntriesGive key value order m.flags m.entries old new
