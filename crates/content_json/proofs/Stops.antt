-- What the error of a stop says.
use Rattle.std.proofs.Common.{◌≡◌, ℕ, ◌-◌, true, List, [], ◌++◌, length, length-append, take, Result, Ok, Err, refl, sym, ap, ◌∙◌, append_assoc, append-nil, arith}
use Rattle.std.proofs.lemmas.List.{take_at}
use Rattle.content_tree.specs.Values.Tree.{Tree}
use Rattle.content_json.specs.Codes.{AreBlanks, Codes, follows, IsValueOf}
use Rattle.content_json.specs.Decoded.{StopsAt}
use Rattle.content_json.specs.Inner.Reading.{after_blanks, value_at, whole_at}
use Rattle.content_json.specs.Inner.Steps.{error_in, Fails}
use Rattle.content_json.specs.declared.decode_error.DecodeError.TheVariants as error
use Rattle.content_json.specs.declared.stop.Refusal.{Refusal}
use Rattle.content_json.specs.declared.stop.Stop.{Stop}
use Rattle.content_json.specs.declared.stop.Stop.TheVariants as stop
use Rattle.content_json.proofs.Complete.{skip_over}
use Rattle.content_json.proofs.CompleteValues.{stays, value_of_begins, value_there, whole_there}
use Rattle.content_json.proofs.Sound.{blanks_read}
use Rattle.content_json.proofs.SoundValues.{value_read}

-- a text stops only for memory
pub no_memory : (limit : ℕ) (bs : List ℕ) (s : Stop) (t : Tree) → Fails s (whole_at limit bs) → Codes limit t bs → error_in bs s ≡ error.OutOfMemory
no_memory limit bs stop.OutOfMemory t is codes = refl
no_memory limit bs (stop.Refused r) t is codes = let e : Err r ≡ Ok t = sym is ∙ whole_there limit t bs codes in absurd (cc e)

-- a value at the front, after blanks
pub front_there : (limit : ℕ) (t : Tree) (bs before front rest : List ℕ) → AreBlanks before → IsValueOf limit t front → follows rest ≡ true → bs ≡ before ++ (front ++ rest)
    → value_at limit (after_blanks bs) ≡ Ok (t, rest)
front_there limit t bs before front rest blank is ends all =
    ap (λ l. value_at limit (after_blanks l)) all ∙ ap (value_at limit) (skip_over before (front ++ rest) blank ∙ stays front rest (value_of_begins limit t front is))
    ∙ value_there limit t front rest is ends

-- so it stops only for memory
pub front_memory : (limit : ℕ) (bs : List ℕ) (s : Stop) (t : Tree) (rest : List ℕ) → Fails s (value_at limit (after_blanks bs)) → value_at limit (after_blanks bs) ≡ Ok (t, rest)
    → error_in bs s ≡ error.OutOfMemory
front_memory limit bs stop.OutOfMemory t rest is there = refl
front_memory limit bs (stop.Refused r) t rest is there = let e : Err r ≡ Ok (t, rest) = sym is ∙ there in absurd (cc e)

-- what is before the rest
pub before_rest : (front rest bs : List ℕ) → bs ≡ front ++ rest → length bs - length rest ≡ length front
before_rest front rest bs is = omega (arith, ap length is, length-append front rest)

-- the value that was read, and the bytes that it took
pub front_read : (limit : ℕ) (t : Tree) (bs rest : List ℕ) → value_at limit (after_blanks bs) ≡ Ok (t, rest) → Codes limit t (take (length bs - length rest) bs)
front_read limit t bs rest is =
    let before = blanks_read bs in
    let x = value_read limit t (after_blanks bs) rest is in
    let all : bs ≡ (before.0 ++ x.0) ++ rest = before.2 ∙ ap (λ l. before.0 ++ l) x.2 ∙ sym (append_assoc before.0 x.0 rest) in
    let same : take (length bs - length rest) bs ≡ before.0 ++ x.0 =
    (λ i. take (before_rest (before.0 ++ x.0) rest bs all i) (all i)) ∙ take_at (before.0 ++ x.0) rest (length (before.0 ++ x.0)) refl in
    (before.0, x.0, [], before.1, x.1, refl, same ∙ ap (λ l. before.0 ++ l) (sym (append-nil x.0)))

-- the error says where reading stops
pub stops : {A : Type 0} (bs : List ℕ) (s : Stop) (read : Result A Refusal) → Fails s read → StopsAt bs (error_in bs s) read
stops bs stop.OutOfMemory read is = tt
stops bs (stop.Refused r) read is = (r.left, is, refl)
