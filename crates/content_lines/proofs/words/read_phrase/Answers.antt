use Rattle.std.proofs.Common.{◌≡◌, false, rules, sym, subst, ◌∙◌}
use Rattle.std.proofs.lemmas.Bool.{cond-false}
use Rattle.std.specs.Prelude.{codes}
use Rattle.std.specs.Str.{bytes_eq}
use Rattle.content_lines.specs.Views.{Reads}
use Rattle.content_lines.specs.Words.{of_phrase, of_number}
use Rattle.content_lines.proofs.words.read_phrase.Goals as goal

pub returns-in_default : goal.returns-in_default
returns-in_default c =
    let w = c.args.word.now in
    let no_bool : bytes_eq w (codes "bool") ≡ false = search rules in
    let no_char : bytes_eq w (codes "char") ≡ false = search rules in
    let no_str : bytes_eq w (codes "str") ≡ false = search rules in
    let no_bytes : bytes_eq w (codes "bytes") ≡ false = search rules in
    let same : of_phrase w c.args.rest.now ≡ of_number w c.args.rest.now = cond-false _ _ _ no_bool ∙ (cond-false _ _ _ no_char ∙ (cond-false _ _ _ no_str ∙ cond-false _ _ _ no_bytes)) in
    subst (Reads c.line_of.result) (sym same) (c.line_of.ensures _ c.read_number.ensures)
