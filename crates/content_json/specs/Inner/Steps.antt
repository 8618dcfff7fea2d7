-- Steps of reading, and where they stop.
use Rattle.std.specs.Prelude.{◌≡◌, ℕ, ◌-◌, List, [], ◌∷◌, length, Option, Some, None, Result, Ok, Err}
use Rattle.content_json.specs.declared.decode_error.DecodeError.{DecodeError}
use Rattle.content_json.specs.declared.decode_error.DecodeError.TheVariants as error
use Rattle.content_json.specs.declared.decode_error.Fault.{Fault}
use Rattle.content_json.specs.declared.decode_error.Fault.TheVariants as fault
use Rattle.content_json.specs.declared.stop.Refusal.{Refusal}
use Rattle.content_json.specs.declared.stop.Stop.{Stop}
use Rattle.content_json.specs.declared.stop.Stop.TheVariants as stop

-- one step, and then what it leads to
infixl 10 ◌>>=◌
abbrev pub ◌>>=◌ : {A B : Type 0} → Result A Refusal → (A → Result B Refusal) → Result B Refusal
(Ok x) >>= f = f x
(Err e) >>= f = Err e

-- what a function that takes no memory answered, seen by view, is what reading gives
abbrev pub Finds : {A B : Type 0} → (A → B) → Result A Refusal → Result B Refusal → Type 0
Finds view (Ok x) read = read ≡ Ok (view x)
Finds view (Err r) read = read ≡ Err r

-- where reading stops, unless memory ran out
abbrev pub Fails : {B : Type 0} → Stop → Result B Refusal → Type 0
Fails stop.OutOfMemory read = Unit {0}
Fails (stop.Refused r) read = read ≡ Err r

-- what a function answered, seen by view, is what reading gives, unless memory ran out
abbrev pub Gives : {A B : Type 0} → (A → B) → Result A Stop → Result B Refusal → Type 0
Gives view (Ok x) read = read ≡ Ok (view x)
Gives view (Err e) read = Fails e read

-- the error of a stop in these bytes
abbrev pub error_in : List ℕ → Stop → DecodeError
error_in bs stop.OutOfMemory = error.OutOfMemory
error_in bs (stop.Refused r) = error.Refused (length bs - r.left) r.«fault»

-- what reads a part: it, and the bytes after it
abbrev pub Reader : Type 0 → Type 0
Reader A = List ℕ → Result (A × List ℕ) Refusal

-- a fault at the first of the bytes that are left; the end where none is
abbrev pub refusal_at : Fault → List ℕ → Refusal
refusal_at f [] = record { «fault» = fault.Ended; left = 0 }
refusal_at f (b ∷ bs) = record { «fault» = f; left = length (b ∷ bs) }

-- refused there
abbrev pub refused : {A : Type 0} → Fault → List ℕ → Result A Refusal
refused f left = Err (refusal_at f left)

-- what is there, or refused
abbrev pub or_refused : {A : Type 0} → Fault → List ℕ → Option A → Result A Refusal
or_refused f left None = refused f left
or_refused f left (Some x) = Ok x
