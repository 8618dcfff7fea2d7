use Rattle.std.proofs.Common.{◌++◌, Ok, length, drop, false, ap, sym, ◌∙◌, append-nil, append_assoc, rules}
use Rattle.std.specs.List.{concat}
use Rattle.std.proofs.lemmas.Result.{err_from_is_err_and}
use Rattle.content_cbor.specs.declared.stop.Stop.TheVariants as stop
use Rattle.content_cbor.specs.Inner.Reading.{chunk_at, chunks_at}
use Rattle.content_cbor.proofs.Read.Loops.{until_goes_on, until_fails, until_break, until_ended, chunks_begin}
use Rattle.content_cbor.proofs.strings.read_chunks_of_bytes.Goals as goal

pub loop-init : goal.loop-init
loop-init c = rw c.new-whole.ensures.items (chunks_begin false c.args.bytes.now)

pub returns-in-Some : goal.returns-in-Some
returns-in-Some c =
    let l = c.loop in
    until_break (λ xs. l.whole.items ++ concat xs) (chunk_at false) (length c.args.bytes.now) l.index l.rest.now (chunks_at false c.args.bytes.now)
    c.loop-test.true c.in-Some.ensures.some.0 l.invariant
    ∙ ap (λ xs. Ok (xs, drop 1 l.rest.now)) (append-nil l.whole.items) ∙ ap (λ r. Ok (l.whole.items, r)) (sym c.in-Some.ensures.some.1)

pub returns-in_err-chunk : goal.returns-in_err-chunk
returns-in_err-chunk c =
    let l = c.loop in
    let p = err_from_is_err_and c.from_residual.result c.from_residual.ensures.1 in
    rw (p.1, p.2) (until_fails (λ xs. l.whole.items ++ concat xs) (chunk_at false) (stop.Refused c.in_err-chunk.field-0.0) (length c.args.bytes.now) l.index l.rest.now
    (chunks_at false c.args.bytes.now) c.loop-test.true (search rules) c.in_err-chunk.ensures l.invariant)

pub loop-preserved : goal.loop-preserved
loop-preserved c =
    let l = c.loop in
    let chunk = c.in_ok-chunk.chunk.now in
    rw c.in_ok-extend_from_slice.ensures.items (until_goes_on (λ xs. l.whole.items ++ concat xs) (λ xs. (l.whole.items ++ chunk) ++ concat xs) (chunk_at false)
    (length c.args.bytes.now) l.index l.rest.now c.in_ok-chunk.behind.now chunk (chunks_at false c.args.bytes.now)
    c.loop-test.true (search rules) c.in_ok-chunk.ensures (λ xs. sym (append_assoc l.whole.items chunk (concat xs))) l.invariant)

pub returns : goal.returns
returns c =
    let l = c.loop in
    rw c.stop_at.ensures (until_ended (λ xs. l.whole.items ++ concat xs) (chunk_at false) (length c.args.bytes.now) l.index l.rest.now
    (chunks_at false c.args.bytes.now) c.loop-test.false l.invariant)
