use Rattle.std.proofs.Common.{refl, sym, subst}
use Rattle.serde_content.specs.Names.Words.{kind_of, tree_of, IsRefusalWithin}
use Rattle.content_lines.specs.Lines.{limit_of, body_of, calls_of}
use Rattle.content_cli.proofs.Earned.{taken_earns, refused_earns}
use Rattle.content_cli.proofs.answer.finished.Goals as goal

pub returns-in-Ok : goal.returns-in-Ok
returns-in-Ok c input good taken counted =
    let calls = calls_of (body_of input) in
    taken_earns input calls (tree_of c.in-Ok.value) c.taken.result good refl (c.in-Ok.ensures.exact (limit_of input) calls taken) c.taken.ensures.line c.taken.ensures.status

pub returns-in-Err : goal.returns-in-Err
returns-in-Err c input good taken counted =
    let calls = calls_of (body_of input) in
    refused_earns input calls c.args.count (kind_of c.in-Err.error) c.refused.result good refl
    (λ _. subst (λ n. IsRefusalWithin (limit_of input) calls n (kind_of c.in-Err.error)) (sym counted) (c.in-Err.ensures.exact (limit_of input) calls taken))
    c.refused.ensures.cause c.refused.ensures.line c.refused.ensures.status
