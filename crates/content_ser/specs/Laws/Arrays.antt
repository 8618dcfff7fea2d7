-- The scripts of arrays are lawful.
use Rattle.std.specs.Prelude.{ℕ}
use Rattle.content_ser.specs.Scripts.Standard.{ScriptOf}
use Rattle.content_ser.specs.Scripts.Arrays.{array_script}
use Rattle.content_ser.specs.Laws.StandardScripts.{AllLawful, items_fit, tuple_lawful}

-- an array, whatever length it tells
pub array_lawful : {A : Type 0} {f : ScriptOf A} → (n : ℕ) → AllLawful f → AllLawful (array_script n f)
array_lawful n law xs h = tuple_lawful (items_fit law xs h)
