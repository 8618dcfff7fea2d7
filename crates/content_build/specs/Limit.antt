-- A partial tree within a limit on how deep trees nest, and the step that each call takes in it.
use Rattle.std.specs.Prelude.{ℕ, suc, nat_lt, Bool, true, cond, List, Option, Some, None}
use Rattle.std.specs.Prelude.{option_map}
use Rattle.content_ser.specs.Calls.Event.{Event}
use Rattle.content_ser.specs.Grammar.Token as token
use Rattle.content_ser.specs.Grammar.Token.{Token}
use Rattle.content_ser.specs.Serializers.Step as serializer
use Rattle.content_build.specs.Partial as partial
use Rattle.content_build.specs.Partial.{Partial, open_count, step_token}

-- a partial tree, and the limit, if there is one
pub record Limited : Type 0 where
  pub limit : Option ℕ
  pub tree : Partial

-- whether the tree that this call announces, if it announces one, keeps the limit where this many are open
abbrev pub fits : Option ℕ → ℕ → Token → Bool
fits None count call = true
fits (Some limit) count (token.wrap w) = nat_lt (suc count) limit
fits (Some limit) count (token.item m) = nat_lt count limit
fits (Some limit) count (token.field k) = nat_lt count limit
fits (Some limit) count token.key = nat_lt count limit
fits (Some limit) count token.value = nat_lt count limit
fits (Some limit) count token.entry = nat_lt count limit
fits (Some limit) count call = true

-- a call of this token: the step of the partial tree, if it fits
abbrev pub step_within : Option ℕ → Partial → Token → Option Partial
step_within limit s call = cond (fits limit (open_count s) call) (step_token s call) None

-- a call
abbrev pub step : Limited → Event → Option Limited
step s call =
    option_map (λ next. record { limit = s.limit; tree = next }) (step_within s.limit s.tree (token.token_of call))

-- no call yet, within this limit
abbrev pub fresh_within : Option ℕ → Limited
fresh_within limit = record { limit = limit; tree = partial.fresh }

-- no call yet, and no limit
abbrev pub fresh : Limited
fresh = fresh_within None

-- calls, one after another
abbrev pub run : Limited → List Event → Option Limited
run = serializer.run step
