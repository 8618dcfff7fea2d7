use Rattle.std.proofs.Common.{Err, ap, sym, subst, ◌∙◌, arith}
use Rattle.content_tree.specs.Values.Value.{tree_of}
use Rattle.content_cbor.specs.Decoded.{IsPlaced, StopsAt}
use Rattle.content_cbor.specs.Inner.Reading.{whole_at}
use Rattle.content_cbor.proofs.Read.Memory.{whole_read}
use Rattle.content_cbor.proofs.Read.Place.{no_memory, stops, whole_is_placed}
use Rattle.content_cbor.proofs.Read.Steps.{ok_is}
use Rattle.content_cbor.proofs.Read.Whole.{whole_sound, whole_complete}
use Rattle.content_cbor.proofs.decoding.decode.Goals as goal

pub returns-in-Ok-clause-value : goal.returns-in-Ok-clause-value
returns-in-Ok-clause-value c = whole_sound c.args.depth_limit c.args.bytes.now (tree_of c.in-Ok.value) (λ i. omega (arith, c.type_inv.bytes i)) c.in-Ok.ensures.value

pub returns-in-Ok-clause-only : goal.returns-in-Ok-clause-only
returns-in-Ok-clause-only c = λ t is. ok_is (tree_of c.in-Ok.value) t (sym c.in-Ok.ensures.value ∙ whole_complete c.args.depth_limit c.args.bytes.now t is)

pub returns-in-Err-clause-only : goal.returns-in-Err-clause-only
returns-in-Err-clause-only c = λ t is. c.error_of.ensures ∙ no_memory c.args.depth_limit c.args.bytes.now c.in-Err.stop t c.in-Err.ensures.value is

pub returns-in-Err-clause-fault : goal.returns-in-Err-clause-fault
returns-in-Err-clause-fault c =
    subst (λ e. StopsAt c.args.bytes.now e (whole_at c.args.depth_limit c.args.bytes.now)) (sym c.error_of.ensures)
    (stops c.args.bytes.now c.in-Err.stop (whole_at c.args.depth_limit c.args.bytes.now) c.in-Err.ensures.value)

pub returns-in-Err-clause-place : goal.returns-in-Err-clause-place
returns-in-Err-clause-place c =
    subst (IsPlaced c.args.depth_limit c.args.bytes.now) (sym c.error_of.ensures)
    (whole_is_placed c.args.depth_limit c.args.bytes.now c.in-Err.stop (λ i. omega (arith, c.type_inv.bytes i)) c.in-Err.ensures.value)

pub returns-in-Err-clause-succeeds : goal.returns-in-Err-clause-succeeds
returns-in-Err-clause-succeeds c = λ t codes none.
    absurd (whole_read c.args.depth_limit c.args.bytes.now c.in-Err.stop t c.in-Err.ensures.value (λ short. c.in-Err.ensures.memory (ap Err short)) codes none)
