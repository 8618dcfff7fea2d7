-- What a `Serializer` makes of a script.
use Rattle.std.specs.Prelude.{◌≡◌, ◌⊎◌, ℕ, Bool, List, Option, None, Some}
use Rattle.std.specs.Prelude.{Result, Ok, Err}
use Rattle.content_tree.specs.Errors.Kind.{kind_of, IsOutOfMemory}
use Rattle.content_tree.specs.Values.Value.{tree_of}
use Rattle.content_tree.specs.declared.error.Error.{Error}
use Rattle.content_tree.specs.declared.error.ErrorKind.TheVariants.{Misplaced}
use Rattle.content_tree.specs.declared.value.NamedValue.{NamedValue}
use Rattle.content_ser.specs.Scripts.Script.{Script, calls_of, stop_of, IsCustom}
use Rattle.content_ser.specs.Grammar.Depth.{SpellsWithin, IsViableWithin}
use Rattle.content_ser.specs.Grammar.Spells.{SpellsWhole}
use Rattle.content_build.specs.declared.serializer.Serializer.{Serializer}

-- whether it is human readable
abbrev pub is_readable : Serializer → Bool
is_readable s = s.human_readable

-- the limit on nesting, if there is one
abbrev pub limit_of : Serializer → Option ℕ
limit_of s = s.limit

-- the tree that the calls spell, or the stop's error, or out of memory
abbrev pub Serialized : Script → Result NamedValue Error → Type 0
Serialized sc (Ok v) = (stop_of sc ≡ None) × SpellsWhole (calls_of sc) (tree_of v)
Serialized sc (Err e) = IsOutOfMemory e
    ⊎ ((message : List ℕ) × (stop_of sc ≡ Some message) × IsCustom message e)

-- the tree that the calls spell within the limit; or the stop's error, where they keep it; or out of memory; or a
-- call out of place, where they don't keep it
abbrev pub SerializedWithin : Option ℕ → Script → Result NamedValue Error → Type 0
SerializedWithin limit sc (Ok v) = (stop_of sc ≡ None)
    × SpellsWithin limit (calls_of sc) (tree_of v)
SerializedWithin limit sc (Err e) =
    IsOutOfMemory e
    ⊎ (((message : List ℕ) × (stop_of sc ≡ Some message)
    × IsCustom message e × IsViableWithin limit (calls_of sc))
    ⊎ ((kind_of e ≡ Misplaced) × ¬ IsViableWithin limit (calls_of sc)))
