use Rattle.std.proofs.Common.{◌≤◌, false, length, Ok, ap, sym, subst, ◌∙◌, rules}
use Rattle.std.proofs.lemmas.Result.{err_from_is_err_and}
use Rattle.content_cbor.specs.declared.digits.Range.{Range}
use Rattle.content_cbor.specs.Inner.Numbers.{between, digits_at}
use Rattle.content_cbor.specs.Inner.Reading.{digits_until, length_at}
use Rattle.content_cbor.proofs.Read.Bytewise.{chunks_break, chunks_ended, chunks_go_on, chunks_no_digits, chunks_no_length}
use Rattle.content_cbor.proofs.Read.Tags.{chunk_fits}
use Rattle.content_cbor.proofs.numbers.read_chunks_of_digits.Goals as goal

pub returns-in-Some-clause-value : goal.returns-in-Some-clause-value
returns-in-Some-clause-value c =
    let l = c.loop in
    chunks_break c.args.is_negative (length c.args.bytes.now) l.index l.number l.rest.now (digits_until c.args.is_negative 0 (length c.args.bytes.now) c.args.bytes.now)
    c.loop-test.true c.in-Some.ensures.some.0 l.invariant.value
    ∙ ap (λ r. Ok (l.number, r)) (sym c.in-Some.ensures.some.1)

pub returns-in_err-due-clause-value : goal.returns-in_err-due-clause-value
returns-in_err-due-clause-value c =
    let l = c.loop in
    let p = err_from_is_err_and c.from_residual.result c.from_residual.ensures.1 in
    rw (p.1, p.2) (chunks_no_length c.args.is_negative c.in_err-due.field-0.0 (length c.args.bytes.now) l.index l.number l.rest.now
    (digits_until c.args.is_negative 0 (length c.args.bytes.now) c.args.bytes.now) c.loop-test.true (search rules) (ap (λ b. length_at false b l.rest.now) (sym c.lengths_behind.ensures.bounds) ∙ c.in_err-due.ensures) l.invariant.value)

pub read_digits-requires-clause-begins : goal.read_digits-requires-clause-begins
read_digits-requires-clause-begins c =
    let l = c.loop in
    rw c.room.ensures (chunk_fits c.args.is_negative l.number l.rest.now c.in_ok-due.due c.in_ok-due.behind.now l.invariant.room (ap (λ b. length_at false b l.rest.now) (sym c.lengths_behind.ensures.bounds) ∙ c.in_ok-due.ensures))

pub returns-in_err-longer-clause-value : goal.returns-in_err-longer-clause-value
returns-in_err-longer-clause-value c =
    let l = c.loop in
    let p = err_from_is_err_and c.from_residual-in_err-longer.result c.from_residual-in_err-longer.ensures.1 in
    rw (p.1, p.2) (chunks_no_digits c.args.is_negative c.in_err-longer.field-0.0 (length c.args.bytes.now) l.index l.number c.in_ok-due.due l.rest.now c.in_ok-due.behind.now
    (digits_until c.args.is_negative 0 (length c.args.bytes.now) c.args.bytes.now) c.loop-test.true (search rules) (ap (λ b. length_at false b l.rest.now) (sym c.lengths_behind.ensures.bounds) ∙ c.in_ok-due.ensures)
    (ap (λ (r : Range). digits_at (between r.least r.most r.«fault») c.in_ok-due.due l.number c.in_ok-due.behind.now) (sym c.room.ensures) ∙ c.in_err-longer.ensures.value)
    l.invariant.value)

pub loop-preserved : goal.loop-preserved
loop-preserved c =
    let l = c.loop in
    record {
      value = chunks_go_on c.args.is_negative (length c.args.bytes.now) l.index l.number c.in_ok-due.due c.in_ok-longer.longer l.rest.now c.in_ok-due.behind.now c.in_ok-longer.behind.now
          (digits_until c.args.is_negative 0 (length c.args.bytes.now) c.args.bytes.now) c.loop-test.true (search rules) (ap (λ b. length_at false b l.rest.now) (sym c.lengths_behind.ensures.bounds) ∙ c.in_ok-due.ensures)
          (ap (λ (r : Range). digits_at (between r.least r.most r.«fault») c.in_ok-due.due l.number c.in_ok-due.behind.now) (sym c.room.ensures) ∙ c.in_ok-longer.ensures.value)
          l.invariant.value;
      room = subst (λ (r : Range). c.in_ok-longer.longer ≤ r.most) c.room.ensures c.in_ok-longer.ensures.room;
    }

pub returns-clause-value : goal.returns-clause-value
returns-clause-value c =
    let l = c.loop in
    rw c.stop_at.ensures (chunks_ended c.args.is_negative (length c.args.bytes.now) l.index l.number l.rest.now
    (digits_until c.args.is_negative 0 (length c.args.bytes.now) c.args.bytes.now) c.loop-test.false l.invariant.value)
