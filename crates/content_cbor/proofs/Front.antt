-- What was written stays at the front.
use Rattle.std.proofs.Common.{◌≡◌, ℕ, Bool, true, false, List, ◌∷◌, ◌++◌, length, drop, Option, Some, None, Result, Ok, Err, if◌then◌else◌, refl, sym, ap, subst, ◌∙◌, append_assoc}
use Rattle.std.proofs.Math.Seq.{take-append_seam}
use Rattle.std.proofs.lemmas.List.{take-append-drop}
use Rattle.std.specs.Io.{StartsWith}
use Rattle.std.specs.declared.alloc.AllocError.{AllocError}
use Rattle.content_cbor.specs.Encoder.{Written, Wrote, begun, is_length, with_bytes}
use Rattle.content_cbor.specs.Heads.{head}
use Rattle.content_cbor.specs.declared.heads.Major.{Major}

-- what begins with these bytes is these and others
split_front : (old new : List ℕ) → StartsWith new old → new ≡ old ++ drop (length old) new
split_front old new front = sym (take-append-drop (length old) new) ∙ ap (λ bs. bs ++ drop (length old) new) front

-- bytes before others are at the front
pub at_front : (old more new : List ℕ) → new ≡ old ++ more → StartsWith new old
at_front old more new is = subst (λ bs. StartsWith bs old) (sym is) (take-append_seam old more)

-- what is at the front stays there
pub still_front : (old mid new : List ℕ) → StartsWith mid old → StartsWith new mid → StartsWith new old
still_front old mid new first second =
    let more = drop (length mid) new in
    at_front old (drop (length old) mid ++ more) new (split_front mid new second ∙ ap (λ bs. bs ++ more) (split_front old mid first) ∙ append_assoc old (drop (length old) mid) more)

-- where a call's name was written just before, what is said of the rest holds of the whole call
begun_after : (room : Bool) (f old new : Written) (bs : List ℕ) (r : Result Bool AllocError) → room ≡ true
    → Wrote (if room then Some f else None) (with_bytes bs old) r new → Wrote (if room then Some f else None) old r new
begun_after false f old new bs r is wrote = absurd (cc is)
begun_after true f old new bs (Ok true) is wrote = wrote
begun_after true f old new bs (Ok false) is wrote = absurd (cc wrote.0)
begun_after true f old new bs (Err e) is wrote = (wrote.0, still_front old.bytes (old.bytes ++ bs) new.bytes (at_front old.bytes bs (old.bytes ++ bs) refl) wrote.1)

named : (b : Bool) (next : Option Written) (old new : Written) (r : Result Bool AllocError) → b ≡ true → Wrote next old r new → Wrote (if b then next else None) old r new
named true next old new r is wrote = wrote
named false next old new r is wrote = absurd (cc is)

-- what was begun after a name that was written
pub begun_named : (name : Bool) (m : Major) (n : ℕ) (old new : Written) (bs mid : List ℕ) (r : Result Bool AllocError) → name ≡ true → is_length n ≡ true → mid ≡ old.bytes ++ bs
    → Wrote (begun m (Some n) (record { bytes = mid; due = old.due })) (record { bytes = mid; due = old.due }) r new
    → Wrote (if name then begun m (Some n) (with_bytes bs old) else None) old r new
begun_named name m n old new bs mid r text room is wrote =
    let next : Option Written = begun m (Some n) (with_bytes bs old) in
    let after : Wrote next (with_bytes bs old) r new =
    subst (λ x. Wrote (begun m (Some n) (record { bytes = x; due = old.due })) (record { bytes = x; due = old.due }) r new) is wrote in
    named name next old new r text (begun_after (is_length n) (record { bytes = (old.bytes ++ bs) ++ head m n; due = n ∷ old.due }) old new bs r room after)
