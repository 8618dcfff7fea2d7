use Rattle.std.proofs.Common.{◌+◌, ◌-◌, ◌*◌, ◌<◌, sym, ◌∙◌, ap, arith, inl, inr}
use Rattle.content_cbor.specs.Inner.Numbers.{between, digits_at}
use Rattle.content_cbor.proofs.Read.Bytewise.{digit_ended, digit_off, digit_on, longer_fits, no_digits, rest_of}
use Rattle.content_cbor.proofs.digits.read_digits.Goals.{then-longer-leading-via-then-longer-leading, then-longer-leading-via-else-longer-leading+then-leading-longer}
use Rattle.content_cbor.proofs.digits.read_digits.Goals as goal

pub returns-in_default-clause-value : goal.returns-in_default-clause-value
returns-in_default-clause-value c =
    let l = c.loop-due in
    rw c.stop_at.ensures (sym l.invariant.value
    ∙ digit_ended c.args.range.least c.args.range.most c.args.range.«fault» l.due l.number l.rest.now c.loop-due-test.true c.in_default.len_below)

pub overflow_mul-longer : goal.overflow_mul-longer
overflow_mul-longer c =
    let l = c.loop-due in
    omega (arith, longer_fits l.due l.number c.args.range.most 0 c.loop-due-test.true l.invariant.room c.requires.fits (omega arith))

pub overflow_add-longer : goal.overflow_add-longer
overflow_add-longer c =
    let l = c.loop-due in
    let small : c.from.result < 256 = omega (arith, c.from.ensures, c.type_inv.bytes 0) in
    omega (arith, longer_fits l.due l.number c.args.range.most c.from.result c.loop-due-test.true l.invariant.room c.requires.fits small)

pub returns-then-longer-leading-clause-value : goal.returns-then-longer-leading-clause-value
returns-then-longer-leading-clause-value c =
    let l = c.loop-due in
    rw c.stop_at-then-longer-leading.ensures (sym l.invariant.value
    ∙ digit_off c.args.range.least c.args.range.most c.args.range.«fault» l.due l.number l.rest.now c.loop-due-test.true c.in-len1-up.len_at_least
    (elim c.then-longer-leading.branch [
      | then-longer-leading-via-then-longer-leading w ↦ inl (omega (arith, w.if-longer-leading.true, c.leading.ensures, c.from.ensures))
      | then-longer-leading-via-else-longer-leading+then-leading-longer w ↦ inr (omega (arith, w.if-leading-longer.true, w.leading-else-longer-leading.ensures, c.from.ensures))
    ]))

pub loop-due-preserved : goal.loop-due-preserved
loop-due-preserved c =
    let l = c.loop-due in
    record {
      value = ap (λ n. digits_at (between c.args.range.least c.args.range.most c.args.range.«fault») (l.due - 1) (l.number * 256 + n) (rest_of l.rest.now)) c.from.ensures
          ∙ digit_on c.args.range.least c.args.range.most c.args.range.«fault» l.due l.number l.rest.now c.loop-due-test.true c.in-len1-up.len_at_least
          (omega (arith, c.if-longer-leading.false, c.leading.ensures, c.from.ensures))
          (omega (arith, c.if-leading-longer.false, c.leading-else-longer-leading.ensures, c.from.ensures))
          ∙ l.invariant.value;
      room = omega (arith, c.if-leading-longer.false, c.leading-else-longer-leading.ensures);
    }

pub returns-clause-value : goal.returns-clause-value
returns-clause-value c =
    let l = c.loop-due in
    sym l.invariant.value ∙ no_digits c.args.range.least c.args.range.most c.args.range.«fault» l.due l.number l.rest.now c.loop-due-test.false
