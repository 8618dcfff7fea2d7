use Rattle.std.proofs.Common.{◌≡◌, ◌+◌, ◌*◌, ◌∙◌, sym, rules}
use Rattle.content_json.specs.Inner.Numbers.{digits_at}
use Rattle.content_json.proofs.Runs.{digits_end, digits_go, digits_stop}
use Rattle.content_json.proofs.numbers.read_digits.Goals as goal

pub returns-clause-value : goal.returns-clause-value
returns-clause-value c =
    let l = c.loop-digit in
    sym l.invariant.same ∙ digits_end c.args.most l.size l.rest.now (search rules)

pub returns-in_default-with_digit-clause-value : goal.returns-in_default-with_digit-clause-value
returns-in_default-with_digit-clause-value c =
    let l = c.loop-digit in
    rw c.stop_at.ensures (sym l.invariant.same ∙ digits_stop c.args.most l.size c.in-Some.digit l.rest.now c.in-Some.ensures.some.0 (search rules))

pub loop-digit-preserved : goal.loop-digit-preserved
loop-digit-preserved c =
    let l = c.loop-digit in
    let longer = c.in-Some-with_digit.longer in
    let is : longer ≡ l.size * 10 + c.in-Some.digit = c.in-Some-with_digit.ensures.some.0 in
    record {
      room = c.in-Some-with_digit.ensures.some.1;
      same =
          (λ i. digits_at c.args.most (is i) (c.in-Some.ensures.some.1 i))
          ∙ sym (digits_go c.args.most l.size c.in-Some.digit l.rest.now c.in-Some.ensures.some.0 (search rules)) ∙ l.invariant.same;
    }
