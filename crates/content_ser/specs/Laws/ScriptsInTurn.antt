-- What the calls and the stop of two scripts made in turn are.
use Rattle.std.specs.Prelude.{◌≡◌, ℕ, List, ◌∷◌, ◌++◌, Some, None, refl}
use Rattle.std.proofs.Common.{ap}
use Rattle.content_ser.specs.Scripts.Script.{Script, done, stop_with, call_then, calls_of, stop_of}
use Rattle.content_ser.specs.Scripts.Script.{and_then}

-- where the first has no stop, all calls are made
pub calls_of_both : (a b : Script) → stop_of a ≡ None → calls_of (and_then a b) ≡ calls_of a ++ calls_of b
calls_of_both done b e = refl
calls_of_both (stop_with message) b e = absurd (cc e)
calls_of_both (call_then c a) b e = ap (λ es. c ∷ es) (calls_of_both a b e)

-- where the first has no stop, the stop is the second's
pub stop_of_both : (a b : Script) → stop_of a ≡ None → stop_of (and_then a b) ≡ stop_of b
stop_of_both done b e = refl
stop_of_both (stop_with message) b e = absurd (cc e)
stop_of_both (call_then c a) b e = stop_of_both a b e

-- where the first stops, it is all
pub stopped_both : (a b : Script) (message : List ℕ) → stop_of a ≡ Some message → and_then a b ≡ a
stopped_both done b message e = absurd (cc e)
stopped_both (stop_with t) b message e = refl
stopped_both (call_then c a) b message e = ap (call_then c) (stopped_both a b message e)

-- where both together have no stop, the first has none
pub no_stop_first : (a b : Script) → stop_of (and_then a b) ≡ None → stop_of a ≡ None
no_stop_first done b e = refl
no_stop_first (stop_with message) b e = e
no_stop_first (call_then c a) b e = no_stop_first a b e

-- where both together have no stop, the second has none
pub no_stop_second : (a b : Script) → stop_of (and_then a b) ≡ None → stop_of b ≡ None
no_stop_second done b e = e
no_stop_second (stop_with message) b e = absurd (cc e)
no_stop_second (call_then c a) b e = no_stop_second a b e
