-- What a serialiser makes of a tree is its canonical form.
use Rattle.std.proofs.Common.{◌≡◌, Some, None, IsSome, sym, subst, ◌∙◌, ⊎_elim}
use Rattle.content_tree.specs.Values.Tree.{owned}
use Rattle.content_tree.specs.Values.Value.{tree_of}
use Rattle.content_ser.specs.Scripts.Script.{calls_of}
use Rattle.content_ser.specs.Sending.TreeScript.{loose_script}
use Rattle.content_ser.proofs.Canonically.{canonical_spelled, canonical_or_stops}
use Rattle.content_build.specs.Canonical.{CanonicalBuilt, CanonicalStopped}
use Rattle.content_build.proofs.Agreement.{one_tree}

pub canonical_built : CanonicalBuilt
canonical_built t readable v (none, spelled) =
    ⊎_elim
    (λ has. (has.0, has.1, one_tree (calls_of (loose_script t readable)) (tree_of v) (owned has.0) spelled (canonical_spelled t has.0 readable has.1).1))
    (λ stops. absurd (cc (subst IsSome none stops.1)))
    (canonical_or_stops t readable)

pub canonical_stopped : CanonicalStopped
canonical_stopped t readable e answer enough c is =
    ⊎_elim enough (λ stop. let clash : Some stop.0 ≡ None = sym stop.1 ∙ (canonical_spelled t c readable is).0 in absurd (cc clash)) answer
