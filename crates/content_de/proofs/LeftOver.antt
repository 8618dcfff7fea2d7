-- The end of fields that are taken by name.
use Rattle.std.proofs.Common.{◌≡◌, ℕ, List, [], ◌∷◌, None, refl}
use Rattle.content_de.specs.Sources.Origin.{Flags}
use Rattle.content_de.specs.Accesses.ByName.{FieldsLeft}
use Rattle.content_de.specs.Reads.ByName.{others_skipped}

-- of no entries none has a name
no_others_skipped : (known : List (List ℕ)) (f : Flags) → others_skipped known (record { entries = []; flags = f }) ≡ None
no_others_skipped [] f = refl
no_others_skipped (name ∷ known) f = no_others_skipped known f

-- where none is left, no name is there again
pub none_skipped : (known : List (List ℕ)) (f : FieldsLeft) → f.entries ≡ [] → others_skipped known f ≡ None
none_skipped known f none = rw none (no_others_skipped known f.flags)
