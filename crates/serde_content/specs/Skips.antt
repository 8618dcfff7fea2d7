-- What a struct leaves out when it is sent or read: fields that are empty, and those that aren't sent or read at all.
use Rattle.std.specs.Prelude.{ℕ, zero, suc, Bool, true, false, List, [], ◌∷◌}
use Rattle.content_ser.specs.Scripts.Script.{Script, stop_with}
use Rattle.content_ser.specs.Scripts.Own.{field_first}

-- there are no items
abbrev pub has_none : {A : Type 0} → List A → Bool
has_none [] = true
has_none (x ∷ xs) = false

-- so many fields, less one that is left out
abbrev pub fields_less : Bool → ℕ → ℕ
fields_less true zero = zero
fields_less true (suc count) = count
fields_less false count = count

-- a field, unless it is left out, and then the others
abbrev pub field_unless : Bool → List ℕ → (Bool → Script) → (Bool → Script) → Bool → Script
field_unless true name item rest = rest
field_unless false name item rest = field_first name item rest

-- such a value for what isn't read, and then the others
abbrev pub UnreadThen : {A S : Type 0} → (A → Type 0) → A → (S → Type 0) → S → Type 0
UnreadThen missing a others s = missing a × others s

-- what isn't sent: a stop
abbrev pub unsent_script : List ℕ → Bool → Script
unsent_script message readable = stop_with message
