use Rattle.std.proofs.Common.{rules, false, IsErrAnd, subst}
use Rattle.serde_content.specs.RoundTrip.{flags}
use Rattle.content_cbor.specs.Decoded.{IsFaultOf}
use Rattle.content_cbor.specs.Item.{item}
use Rattle.content_cbor.proofs.Returned.{item_in, kept_in, memory_fault, none_kept, only_memory}
use Rattle.content_cbor.proofs.laws.write_and_read_back.Goals as goal

pub returns-in_err-bytes-clause-memory : goal.returns-in_err-bytes-clause-memory
returns-in_err-bytes-clause-memory g c = λ t spelled le.
    only_memory (g.T.Serialize.script c.args.value.now false) _ _
    ((g.met.T.RoundTrip c.lifetimes (search rules)).comes_back.of_value c.args.value.now c.known.ensures (flags false false)) c.in_err-bytes.ensures c.from_residual.ensures.1

pub returns-in_err-bytes-clause-refused : goal.returns-in_err-bytes-clause-refused
returns-in_err-bytes-clause-refused g c = λ t spelled past.
    memory_fault c.args.depth_limit (item t) (g.T.Serialize.script c.args.value.now false) _ _
    ((g.met.T.RoundTrip c.lifetimes (search rules)).comes_back.of_value c.args.value.now c.known.ensures (flags false false)) c.in_err-bytes.ensures c.from_residual.ensures.1

pub returns-clause-value : goal.returns-clause-value
returns-clause-value g c = λ t spelled le.
    let there = kept_in (g.T.Serialize.script c.args.value.now false) c.args.depth_limit c.in_ok-bytes.field-0 _ t spelled le c.in_ok-bytes.ensures c.deref.ensures.value in
    c.read_back.ensures.value c.args.value.now there.0 c.known.ensures there.1 there.2

pub returns-clause-memory : goal.returns-clause-memory
returns-clause-memory g c = λ t spelled le.
    let there = kept_in (g.T.Serialize.script c.args.value.now false) c.args.depth_limit c.in_ok-bytes.field-0 _ t spelled le c.in_ok-bytes.ensures c.deref.ensures.value in
    c.read_back.ensures.memory c.args.value.now there.0 c.known.ensures there.1 there.2

pub returns-clause-refused : goal.returns-clause-refused
returns-clause-refused g c = λ t spelled past.
    let script = g.T.Serialize.script c.args.value.now false in
    let bytes = c.in_ok-bytes.field-0 in
    subst (λ bs. IsErrAnd c.read_back.result (λ e. IsFaultOf c.args.depth_limit bs e))
    (item_in script bytes _ t spelled c.in_ok-bytes.ensures c.deref.ensures.value)
    (c.read_back.ensures.fault (none_kept script c.args.depth_limit bytes _ t spelled past c.in_ok-bytes.ensures c.deref.ensures.value))
