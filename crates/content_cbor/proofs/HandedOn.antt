-- Errors that are handed on.
use Rattle.std.proofs.Common.{◌≡◌, ℕ, Result, Ok, Err, IfErr, IsErrAnd, sym, subst}
use Rattle.std.specs.declared.alloc.Global.{Global}
use Rattle.std.specs.declared.vec.Vec.{Vec}
use Rattle.content_tree.specs.declared.error.Error.{Error}
use Rattle.content_ser.specs.Scripts.Script.{Script}
use Rattle.content_build.specs.Serializer.{Serialized}
use Rattle.content_cbor.specs.Encoded.{Encoded}

-- the error of serialising is that of encoding
pub handed_on : (script : Script) (e : Error) (r : Result (Vec ℕ Global) Error) → Serialized script (Err e)
    → IsErrAnd r (λ x. x ≡ e) → Encoded script r
handed_on script e (Ok bytes) why is = absurd is
handed_on script e (Err x) why is = subst (λ y. Encoded script (Err y)) (sym is) why

-- what holds of an error holds of what hands it on
pub holds_on : {A E : Type 0} (p : E → Type 0) (e : E) (r : Result A E) → p e → IsErrAnd r (λ x. x ≡ e) → IfErr r p
holds_on p e (Ok x) holds is = tt
holds_on p e (Err x) holds is = subst p (sym is) holds
