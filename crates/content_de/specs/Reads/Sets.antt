-- What sets read: every item of a sequence in turn, put into the set in order, so that the first of equal items stays.
use Rattle.std.specs.Prelude.{List, [], ◌≡◌}
use Rattle.std.specs.declared.cmp.Ordering.{Ordering}
use Rattle.std.specs.BTreeSet.{insert_key}
use Rattle.std.specs.HashSet.{HashSet, IsFromIterResult}
use Rattle.std.specs.List.{fold}
use Rattle.content_de.specs.Sources.Origin.{Subject}
use Rattle.content_de.specs.Outcomes.{IsTaken}
use Rattle.content_de.specs.Accesses.Seq.{seq_at}
use Rattle.content_de.specs.Reads.Read.{Gives}
use Rattle.content_de.specs.Reads.Standard.{SeqGives}

-- a set's keys after these are put in, one after another
abbrev pub put_keys : {K : Type 0} → (K → K → Ordering) → (old more : List K) → List K
put_keys order old more = fold (λ ks k. insert_key order ks k) old more

-- the items that a sequence may give
abbrev pub RowGives : {A : Type 0} → Gives A → Gives (List A)
RowGives gives s items = IsTaken (seq_at s) (λ l. SeqGives gives l items)

-- the keys of such items, put in one after another
abbrev pub SetGives : {A : Type 0} → Gives A → (A → A → Ordering) → Gives (List A)
SetGives {A} gives order s keys = (items : List A) × RowGives gives s items × (keys ≡ put_keys order [] items)
