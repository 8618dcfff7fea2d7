-- The script of an array: that of a tuple of its elements.
use Rattle.std.specs.Prelude.{ℕ, List}
use Rattle.content_ser.specs.Scripts.Standard.{ScriptOf, items_script, tuple_script}

-- what contracts see of an array
abbrev pub ArrayOf : Type 0 → Type 0
ArrayOf A = List A

-- an array of this length
abbrev pub array_script : {A : Type 0} → ℕ → ScriptOf A → ScriptOf (ArrayOf A)
array_script len f xs = tuple_script len (items_script f xs)
