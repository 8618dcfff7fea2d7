use Rattle.std.proofs.Common.{Err, ap, sym, subst, ◌∙◌, arith}
use Rattle.content_tree.specs.Values.Value.{tree_of}
use Rattle.content_cbor.specs.Decoded.{IsPlaced}
use Rattle.content_cbor.proofs.Read.Memory.{front_read}
use Rattle.content_cbor.proofs.Read.Place.{front_coded, front_is, item_is_placed, no_memory_in_front}
use Rattle.content_cbor.proofs.decoding.decode_prefix.Goals as goal

pub returns-in-Ok-clause-value : goal.returns-in-Ok-clause-value
returns-in-Ok-clause-value c =
    front_coded c.args.depth_limit c.args.bytes.now (tree_of c.in-Ok.value) c.in-Ok.rest.now c.saturating_sub.result (λ i. omega (arith, c.type_inv.bytes i)) c.in-Ok.ensures.value
    (omega (arith, c.saturating_sub.ensures))

pub returns-in-Ok-clause-only : goal.returns-in-Ok-clause-only
returns-in-Ok-clause-only c = λ t front rest codes split.
    front_is c.args.depth_limit c.args.bytes.now (tree_of c.in-Ok.value) t c.in-Ok.rest.now front rest c.saturating_sub.result c.in-Ok.ensures.value (omega (arith, c.saturating_sub.ensures)) codes split

pub returns-in-Err-clause-only : goal.returns-in-Err-clause-only
returns-in-Err-clause-only c = λ t front rest codes split.
    c.error_of.ensures ∙ no_memory_in_front c.args.depth_limit c.args.bytes.now front rest c.in-Err.stop t split c.in-Err.ensures.value codes

pub returns-in-Err-clause-place : goal.returns-in-Err-clause-place
returns-in-Err-clause-place c =
    subst (IsPlaced c.args.depth_limit c.args.bytes.now) (sym c.error_of.ensures)
    (item_is_placed c.args.depth_limit c.args.bytes.now c.in-Err.stop (λ i. omega (arith, c.type_inv.bytes i)) c.in-Err.ensures.value)

pub returns-in-Err-clause-succeeds : goal.returns-in-Err-clause-succeeds
returns-in-Err-clause-succeeds c = λ t front rest codes split none.
    absurd (front_read c.args.depth_limit c.args.bytes.now front rest c.in-Err.stop t c.in-Err.ensures.value (λ short. c.in-Err.ensures.memory (ap Err short)) codes split none)
