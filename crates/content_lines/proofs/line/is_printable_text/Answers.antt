use Rattle.std.proofs.Common.{refl, rules}
use Rattle.std.proofs.lemmas.List.Recursion.{and_is}
use Rattle.std.specs.List.{list_all}
use Rattle.content_lines.specs.Forms.{is_printable}
use Rattle.content_lines.proofs.line.is_printable_text.Goals as goal

pub returns : goal.returns
returns c = and_is (list_all is_printable) is_printable refl (λ _ _. refl) c.args.line.now 0 _ (search rules) (search rules)
