-- What hashed sets and maps read: every item or entry in turn. Of equal keys the map has the last value.
use Rattle.std.specs.Prelude.{Bool, List}
use Rattle.std.specs.HashMap as map
use Rattle.std.specs.HashMap.{HashMap}
use Rattle.std.specs.HashSet as set
use Rattle.std.specs.HashSet.{HashSet}
use Rattle.content_de.specs.Reads.Read.{Gives}
use Rattle.content_de.specs.Reads.Pairs.{EachGives}
use Rattle.content_de.specs.Reads.Sets.{RowGives}

-- a set that has the items that a sequence may give, and no others
abbrev pub HashSetGives : {A S : Type 0} → Gives A → (A → A → Bool) → Gives (HashSet A S)
HashSetGives {A} gives eq s new = (items : List A) × RowGives gives s items × set.IsFromIterResult eq items new

-- a map of such pairs, inserted in turn
abbrev pub HashMapGives : {K V S : Type 0} → Gives K → Gives V → (K → K → Bool) → Gives (HashMap K V S)
HashMapGives {K} {V} key value eq s new = (pairs : List (K × V)) × EachGives key value s pairs × map.IsFromIterResult eq pairs new
