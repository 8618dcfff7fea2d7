use Rattle.std.proofs.Common.{◌∙◌}
use Rattle.content_tree.specs.Values.Tree as tree
use Rattle.content_tree.specs.Values.Text.{text_of}
use Rattle.content_tree.specs.Values.Lookups.{is_text}
use Rattle.content_tree.specs.Values.Value.{tree_of}
use Rattle.content_de.proofs.Named.{there_seen}
use Rattle.content_de.proofs.by_name.Left.has.Goals as goal

pub returns-in-Pairs : goal.returns-in-Pairs
returns-in-Pairs c = rw c.in-Pairs.is (c.is_some.ensures ∙ there_seen (is_text c.args.name.now) tree_of tree_of c.in-Pairs.pairs.items _ c.place_of.ensures.there)

pub returns-in-Fields : goal.returns-in-Fields
returns-in-Fields c = rw c.in-Fields.is (c.is_some-in-Fields.ensures ∙ there_seen (is_text c.args.name.now) (λ k. tree.text (text_of k)) tree_of c.in-Fields.fields.items _ c.place_of-in-Fields.ensures.there)
