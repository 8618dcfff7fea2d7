-- An answer whose error is put aside.
use Rattle.std.specs.Prelude.{Result, Ok, Err}
use Rattle.content_tree.specs.declared.error.Error.{Error}
use Rattle.content_ser.specs.Serializers.Step.{Answer}

-- the answer, from whether there was an error and from the error that was put aside
abbrev pub answer_of : {X : Type 0} → Result (Unit {0}) X → Error → Answer
answer_of (Ok u) error = Ok u
answer_of (Err x) error = Err error
