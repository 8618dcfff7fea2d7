use Rattle.std.proofs.Common.{◌≡◌, None, Ok, refl, ap, sym, subst}
use Rattle.content_tree.specs.declared.cow.CowStr.{CowStr}
use Rattle.content_tree.specs.declared.cow.CowBytes.{CowBytes}
use Rattle.content_ser.specs.Calls.Call.{event_of, text_part, IsOwned}
use Rattle.content_ser.specs.declared.call.Call.{Call}
use Rattle.content_ser.specs.declared.call.Call.TheVariants as call
use Rattle.content_ser.proofs.call.Call.into_owned.Goals as goal

-- what is no text and no bytes holds none
no_part : (c : Call) → ((s : CowStr) → c ≡ call.Str s → ⊥) → ((s : CowBytes) → c ≡ call.Bytes s → ⊥) → text_part c ≡ None
no_part (call.Str s) text bytes = absurd (text s refl)
no_part (call.Bytes s) text bytes = absurd (bytes s refl)
no_part _ text bytes = refl

pub returns-in_default : goal.returns-in_default
returns-in_default c =
    let none : text_part c.args.self ≡ None = no_part c.args.self c.in_default.not-Str c.in_default.not-Bytes in
    let same : c.bare.result ≡ c.args.self = c.bare.ensures none in
    record { value = ap event_of same; owned = subst IsOwned (sym same) (rw none tt); moved = λ _. ap Ok same; memory = tt }
