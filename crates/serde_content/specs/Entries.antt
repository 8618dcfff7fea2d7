-- What a flattened value sends: entries of the map that it stands in, and then what follows them.
use Rattle.std.specs.Prelude.{ℕ, Bool, true, false, List, [], ◌∷◌, Option, Some, None}
use Rattle.content_ser.specs.Calls.Event as event
use Rattle.content_ser.specs.Scripts.Script.{Script, and_then}
use Rattle.content_ser.specs.Scripts.Standard.{ScriptOf, only, call_first, item_first}
use Rattle.content_ser.specs.Scripts.Begins.{Start}
use Rattle.serde_content.specs.Laws.Flattened.{flattened_first}

-- the key of an entry, a text, and the call that announces its value
abbrev pub key_first : List ℕ → Start
key_first name rest = item_first event.key (only (event.text name)) (call_first event.value rest)

-- an entry whose key is a text, unless it is left out, and then the others
abbrev pub flattened_unless : Bool → List ℕ → (Bool → Script) → Start
flattened_unless true name item rest = rest
flattened_unless false name item rest = flattened_first name item rest

-- each pair as an entry, and then the others
abbrev pub pairs_first : {K V : Type 0} → ScriptOf K → ScriptOf V → List (K × V) → Start
pairs_first f g [] rest = rest
pairs_first f g (p ∷ ps) rest = item_first event.entry (f p.0) (λ h. and_then (g p.1 h) (pairs_first f g ps rest h))

-- the entries of an optional value, and then the others
abbrev pub optional_first : {A : Type 0} → (A → Start) → Option A → Start
optional_first f None rest = rest
optional_first f (Some x) rest = f x rest

-- the entry that tags a variant, its key and its value texts, and then the others
abbrev pub tag_first : List ℕ → List ℕ → Start
tag_first tag variant = flattened_first tag (only (event.text variant))
