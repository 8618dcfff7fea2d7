use Rattle.std.proofs.Common.{rules}
use Rattle.serde_content.specs.Names.Words.{no_flags}
use Rattle.content_uses.proofs.Placing.{at_the_end, handed_on}
use Rattle.content_uses.proofs.laws.put_and_get.Goals as goal

pub returns-in_err-number-clause-memory : goal.returns-in_err-number-clause-memory
returns-in_err-number-clause-memory g c =
    handed_on _ _
    (c.in_err-number.ensures.memory ((g.met.T.RoundTrip c.lifetimes (search rules)).comes_back.of_value c.args.item.now c.known.ensures no_flags).free)
    c.from_residual.ensures.1

pub returns-clause-value : goal.returns-clause-value
returns-clause-value g c =
    let put = c.in_ok-number.ensures.put in
    c.put_is_got.ensures.value c.args.item.now put.0 c.known.ensures (at_the_end _ _ put.0 _ put.3 put.4) put.2

pub returns-clause-memory : goal.returns-clause-memory
returns-clause-memory g c =
    let put = c.in_ok-number.ensures.put in
    c.put_is_got.ensures.memory c.args.item.now put.0 c.known.ensures (at_the_end _ _ put.0 _ put.3 put.4) put.2
