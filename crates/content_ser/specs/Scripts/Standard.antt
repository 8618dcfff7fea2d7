-- The scripts of types that hold others.
use Rattle.std.specs.Prelude.{ℕ, Bool, List, [], ◌∷◌, Option, Some, None, length}
use Rattle.content_ser.specs.Calls.Event as event
use Rattle.content_ser.specs.Calls.Event.{Event}
use Rattle.content_ser.specs.Scripts.Script.{Script, done, call_then, and_then}

-- the script of each value, where the serialiser is human readable or not
abbrev pub ScriptOf : Type 0 → Type 0
ScriptOf A = A → Bool → Script

-- one call
abbrev pub only : Event → Bool → Script
only c h = call_then c done

-- a call, and then a script
abbrev pub call_first : Event → (Bool → Script) → Bool → Script
call_first c sc h = call_then c (sc h)

-- a call, a script, and then another
abbrev pub item_first : Event → (Bool → Script) → (Bool → Script) → Bool → Script
item_first item_call item rest h = call_then item_call (and_then (item h) (rest h))

-- an optional value
abbrev pub option_script : {A : Type 0} → ScriptOf A → ScriptOf (Option A)
option_script f None = only event.none
option_script f (Some x) = call_first event.some (f x)

-- each item after a call, and the end
abbrev pub items_script : {A : Type 0} → ScriptOf A → ScriptOf (List A)
items_script f [] = only event.end
items_script f (x ∷ xs) = item_first event.element (f x) (items_script f xs)

-- a sequence, its length told
abbrev pub seq_script : {A : Type 0} → ScriptOf A → ScriptOf (List A)
seq_script f xs = call_first (event.seq (Some (length xs))) (items_script f xs)

-- each pair as an entry, and the end
abbrev pub entries_script : {K V : Type 0} → ScriptOf K → ScriptOf V → ScriptOf (List (K × V))
entries_script f g [] = only event.end
entries_script f g (p ∷ ps) = item_first event.entry (f p.0) (λ h. and_then (g p.1 h) (entries_script f g ps h))

-- a map, its length told
abbrev pub map_script : {K V : Type 0} → ScriptOf K → ScriptOf V → ScriptOf (List (K × V))
map_script f g ps = call_first (event.map (Some (length ps))) (entries_script f g ps)

-- one element, and then the rest of a tuple
abbrev pub element_first : (Bool → Script) → (Bool → Script) → Bool → Script
element_first = item_first event.element

-- a tuple of this length
abbrev pub tuple_script : ℕ → (Bool → Script) → Bool → Script
tuple_script len = call_first (event.tuple len)
