use Rattle.std.proofs.Common.{refl, rules}
use Rattle.std.proofs.lemmas.List.Recursion.{and_is}
use Rattle.std.specs.List.{list_all}
use Rattle.content_lines.specs.Numerals.{is_lower_hex_digit}
use Rattle.content_lines.proofs.hex.are_lower_digits.Goals as goal

pub returns : goal.returns
returns c = and_is (list_all is_lower_hex_digit) is_lower_hex_digit refl (λ _ _. refl) c.args.text.now 0 _ (search rules) (search rules)
