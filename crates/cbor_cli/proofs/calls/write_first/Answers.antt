use Rattle.serde_content.specs.Names.Words.{events_of, kind_of}
use Rattle.cbor_cli.proofs.Telling.{refused_first}
use Rattle.cbor_cli.proofs.calls.write_first.Goals as goal

pub returns-in_ok-write_refusal-in-Err-clause-told : goal.returns-in_ok-write_refusal-in-Err-clause-told
returns-in_ok-write_refusal-in-Err-clause-told c =
    let refusal = c.in-Err.refusal in
    let said = c.in_ok-write_refusal-in-Err.ensures in
    (refusal.at, kind_of refusal.error, refused_first (events_of c.args.calls.now) refusal.at (kind_of refusal.error) c.in-Err.ensures.answer said.cause, said.line)
