-- What a recorder does with a call, and with a script.
use Rattle.std.specs.Prelude.{◌≡◌, Bool, true, false, List, [], ◌∷◌, ◌++◌, Option, Some, Ok, Err}
use Rattle.content_tree.specs.Errors.Kind.{kind_of}
use Rattle.content_tree.specs.declared.error.Error.{Error}
use Rattle.content_tree.specs.declared.error.ErrorKind.{ErrorKind}
use Rattle.content_tree.specs.declared.error.ErrorKind.TheVariants.{OutOfMemory, Failed}
use Rattle.content_ser.specs.Calls.Event.{Event}
use Rattle.content_ser.specs.Serializers.Step.{Seen, Answer, Refusal, after_failure, out_of_place}
use Rattle.content_ser.specs.Serializers.Step.{no_memory}
use Rattle.content_ser.specs.Scripts.Script.{Script, calls_of}
use Rattle.content_ser.specs.Scripts.Sends.{Sends}

-- one call more, at the end
abbrev pub recorded : List Event → Event → Option (List Event)
recorded calls call = Some (calls ++ call ∷ [])

-- a refused call leaves the list as it was, and none is out of place
abbrev pub refuses : Refusal → List Event → Error → List Event → Type 0
refuses after_failure old e new = (kind_of e ≡ Failed) × (new ≡ old)
refuses out_of_place old e new = ⊥
refuses no_memory old e new = (kind_of e ≡ OutOfMemory) × (new ≡ old)

-- why a call is refused by a recorder that has failed or not
abbrev pub cause : Bool → ErrorKind
cause true = Failed
cause false = OutOfMemory

-- a call: it is at the end of the list, or the list is kept and the recorder has failed for good
abbrev pub Records : Seen (List Event) → Event → Answer → Seen (List Event) → Type 0
Records old c (Ok u) new =
    (old.failed ≡ false)
    × (new ≡ record { state = old.state ++ c ∷ []; failed = false; readable = old.readable })
Records old c (Err e) new =
    (kind_of e ≡ cause old.failed)
    × (new ≡ record { state = old.state; failed = true; readable = old.readable })

-- the list after these calls were sent: with all of them at its end, or with a beginning of them
abbrev pub Lists : List Event → List Event → Answer → List Event → Type 0
Lists old calls (Ok u) new = new ≡ old ++ calls
Lists old calls (Err e) new = (made rest : List Event)
    × (made ++ rest ≡ calls) × (new ≡ old ++ made)

-- what is sent to a recorder is listed, whatever it is and whatever refuses it
abbrev pub SentIsListed : Type 0
SentIsListed = (old new : Seen (List Event)) (sc : Bool → Script) (r : Answer)
    → Sends recorded refuses old sc r new
    → Lists old.state (calls_of (sc old.readable)) r new.state
