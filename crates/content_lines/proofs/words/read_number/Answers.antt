use Rattle.std.proofs.Common.{◌≡◌, rules, sym, subst, tests}
use Rattle.content_lines.specs.Views.{Spells}
use Rattle.content_lines.specs.Words.{of_number, of_named}
use Rattle.content_lines.proofs.words.read_number.Goals as goal

pub returns-in_default : goal.returns-in_default
returns-in_default c =
    let same : of_number c.args.word.now c.args.rest.now ≡ of_named c.args.word.now c.args.rest.now = search (rules, tests) in
    subst (Spells c.read_named.result) (sym same) c.read_named.ensures
