-- What sending the first part of a script does.
use Rattle.std.specs.Prelude.{Bool, Ok, Err}
use Rattle.content_ser.specs.Serializers.Step.{Seen, Step, RefusalRule, Answer}
use Rattle.content_ser.specs.Scripts.Script.{Script, and_then}
use Rattle.content_ser.specs.Scripts.Sends.{Sends}

-- a script that starts with some calls, by what follows them
abbrev pub Start : Type 0
Start = (Bool → Script) → Bool → Script

-- a value's script, and then another
abbrev pub value_first : (Bool → Script) → Start
value_first a rest h = and_then (a h) (rest h)

-- where they are taken, what ends the rest from here ends the whole; where they are refused, that ends the whole
abbrev pub Begins : {S : Type 0} → Step S → RefusalRule S → Seen S → Start → Answer → Seen S → Type 0
Begins {S} step refuses old start (Ok u) new =
    (rest : Bool → Script) (r : Answer) (last : Seen S)
    → Sends step refuses new rest r last → Sends step refuses old (start rest) r last
Begins {S} step refuses old start (Err e) new =
    (rest : Bool → Script) → Sends step refuses old (start rest) (Err e) new
