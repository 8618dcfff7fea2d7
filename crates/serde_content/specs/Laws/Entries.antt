-- Flattened values send entries of a map, whatever entries follow.
use Rattle.std.specs.Prelude.{ℕ, Bool, true, false, List, [], ◌∷◌, Option, Some, None}
use Rattle.content_ser.specs.Scripts.Script.{Script, IsLawful}
use Rattle.content_ser.specs.Scripts.Standard.{ScriptOf}
use Rattle.content_ser.specs.Scripts.Begins.{Start}
use Rattle.content_ser.specs.Laws.Fits.{AMap, Fits}
use Rattle.content_ser.specs.Laws.StandardScripts.{AllLawful, entry_fits}
use Rattle.serde_content.specs.Entries.{flattened_unless, pairs_first, optional_first}
use Rattle.serde_content.specs.Laws.Flattened.{flattened_fits}

-- what begins so is entries and the end of a map where what follows is
abbrev pub BeginsEntries : Start → Type 0
BeginsEntries start = (rest : Bool → Script) (readable : Bool) → Fits AMap (rest readable) → Fits AMap (start rest readable)

-- an entry whose key is a text, unless it is left out, and then the others
pub flattened_unless_fits : (name : List ℕ) (item rest : Bool → Script) (h skipped : Bool) → IsLawful (item h) → Fits AMap (rest h)
    → Fits AMap (flattened_unless skipped name item rest h)
flattened_unless_fits name item rest h true p q = q
flattened_unless_fits name item rest h false p q = flattened_fits p q

-- the pairs of a map, and then the others
pub pairs_fit : {K V : Type 0} {f : ScriptOf K} {g : ScriptOf V} → AllLawful f → AllLawful g → (ps : List (K × V)) → BeginsEntries (pairs_first f g ps)
pairs_fit keys values [] rest h fits = fits
pairs_fit keys values (p ∷ ps) rest h fits = entry_fits (keys p.0 h) (values p.1 h) (pairs_fit keys values ps rest h fits)

-- those of an optional value, and then the others
pub optional_fit : {A : Type 0} {f : A → Start} → ((x : A) → BeginsEntries (f x)) → (x : Option A) → BeginsEntries (optional_first f x)
optional_fit law None rest h fits = fits
optional_fit law (Some x) rest h fits = law x rest h fits
