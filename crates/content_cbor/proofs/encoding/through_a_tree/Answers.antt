use Rattle.std.proofs.Common.{false, Err, subst}
use Rattle.content_build.specs.Serializer.{Serialized}
use Rattle.content_cbor.proofs.HandedOn.{handed_on}
use Rattle.content_cbor.proofs.encoding.through_a_tree.Goals as goal

pub returns-in_err-tree : goal.returns-in_err-tree
returns-in_err-tree g c =
    let e = c.in_err-tree.field-0.0 in
    let why = c.in_err-tree.ensures.unlimited c.new.ensures.limit in
    handed_on (g.T.Serialize.script c.args.value.now false) e c.from_residual.result
    (subst (λ readable. Serialized (g.T.Serialize.script c.args.value.now readable) (Err e)) c.new.ensures.readable why)
    c.from_residual.ensures.1
