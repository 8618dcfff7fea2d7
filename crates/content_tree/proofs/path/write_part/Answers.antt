use Rattle.std.proofs.Common.{◌++◌, ◌∙◌, append_assoc, ap, sym, rules}
use Rattle.std.proofs.Output.{has_written_styled_append, has_written_styled_of_eq}
use Rattle.content_tree.specs.Values.Paths.{escaped, escape}
use Rattle.content_tree.proofs.Printing.{two_writes}
use Rattle.content_tree.proofs.path.write_part.Goals as goal

pub loop-plain-preserved : goal.loop-plain-preserved
loop-plain-preserved g c = (
  search rules,
  λ flush.
      let now = c.loop-plain.invariant.1 flush in
      let as_it_is = c.in-Some.plain.now in
      let one = escaped c.in-Some.byte in
      let left = escape c.in-Some.after.now in (
        now.0 ++ (as_it_is ++ one),
        has_written_styled_append _ _ now.0 _ (as_it_is ++ one) _ now.1 (search (rules, two_writes)),
        append_assoc now.0 (as_it_is ++ one) left ∙ ap (λ r. now.0 ++ r) (append_assoc as_it_is one left ∙ sym c.in-Some.ensures.spelt) ∙ now.2,
      ),
)

pub returns : goal.returns
returns g c = λ flush ok.
    let now = c.loop-plain.invariant.1 flush in
    has_written_styled_of_eq _ _ _ _ _ (ap (λ r. now.0 ++ r) (sym c.in_default.ensures.spelt) ∙ now.2) (has_written_styled_append _ _ now.0 _ _ _ now.1 (c.write_str-2.ensures.styled (search rules) ok))
