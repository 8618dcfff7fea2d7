-- What a line that is no call is answered.
use Rattle.std.proofs.Common.{◌≡◌, ◌≢◌, ℕ, List, ◌++◌, Result, Ok, Err, OnOk, is_ok, if◌then◌else◌}
use Rattle.std.proofs.Common.{false, inr, codes, refl}
use Rattle.content_cbor.specs.Decoded.{IsPlaced, StopsAt}
use Rattle.content_cbor.specs.Inner.Reading.{whole_at}
use Rattle.content_cbor.specs.PrintedFault.{error_text}
use Rattle.content_cbor.specs.declared.decode_error.DecodeError.{DecodeError}
use Rattle.content_cbor.specs.declared.decode_error.DecodeError.TheVariants.{OutOfMemory, Refused}
use Rattle.content_lines.specs.Numerals.{is_hex}
use Rattle.cbor_cli.specs.Answers.{Adds, AnswersBytes, AnswersOther, ended}
use Rattle.cbor_cli.specs.declared.form.Form.{Form}

-- what follows where it went well
pub when_ok : {E P Q : Type 0} (r : Result (Unit {0}) E) → (P → Q) → OnOk r P → OnOk r Q
when_ok (Ok u) f h = f h
when_ok (Err e) f h = tt

-- a text that was pushed
pub pushed : {E : Type 0} (r : Result (Unit {0}) E) (old text new : List ℕ) → new ≡ (if is_ok r then old ++ text else old) → OnOk r (new ≡ old ++ text)
pushed (Ok u) old text new h = h
pushed (Err e) old text new h = tt

-- a line that is neither digits nor a call
pub neither_told : (form : Form) (line old new : List ℕ) → is_hex line ≡ false → new ≡ old ++ codes "neither hexadecimal digits nor a call\n" → Adds (AnswersOther form line) old new
neither_told form line old new none added = (codes "neither hexadecimal digits nor a call", inr (none, refl), added)

refusal_told : (form : Form) (bytes old new : List ℕ) (e : DecodeError) → e ≢ OutOfMemory → StopsAt bytes e (whole_at 128 bytes) → IsPlaced 128 bytes e → new ≡ old ++ ended (error_text e) → Adds (AnswersBytes form bytes) old new
refusal_told form bytes old new OutOfMemory other stops placed added = absurd (other refl)
refusal_told form bytes old new (Refused at f) other stops placed added = (error_text (Refused at f), inr (record { at = at; «fault» = f; stops = stops; placed = placed; says = refl }), added)

-- bytes that are refused
pub fault_told : {E : Type 0} (r : Result (Unit {0}) E) (form : Form) (bytes old new : List ℕ) (e : DecodeError) → StopsAt bytes e (whole_at 128 bytes) → IsPlaced 128 bytes e → OnOk r (e ≢ OutOfMemory) → OnOk r (new ≡ old ++ ended (error_text e))
    → OnOk r (Adds (AnswersBytes form bytes) old new)
fault_told (Ok u) form bytes old new e stops placed other added = refusal_told form bytes old new e other stops placed added
fault_told (Err x) form bytes old new e stops placed other added = tt
