use Rattle.std.proofs.Common.{◌∙◌, ap, option_map, map}
use Rattle.content_tree.specs.Values.Tree as tree
use Rattle.content_tree.specs.Values.Text.{text_of}
use Rattle.content_tree.specs.Values.Lookups.{is_text}
use Rattle.content_tree.specs.Values.Value.{tree_of, pair_tree}
use Rattle.content_de.specs.Accesses.ByName.{field_entry}
use Rattle.content_de.proofs.Named.{found_seen, left_seen}
use Rattle.content_de.proofs.by_name.Left.take_first.Goals as goal

pub returns-in-Pairs-clause-value : goal.returns-in-Pairs-clause-value
returns-in-Pairs-clause-value c = rw c.in-Pairs.is (ap (option_map tree_of) c.take_named.ensures.value ∙ found_seen (is_text c.args.name.now) tree_of tree_of c.in-Pairs.pairs.items)

pub returns-in-Pairs-clause-rest : goal.returns-in-Pairs-clause-rest
returns-in-Pairs-clause-rest c = rw c.in-Pairs.is (ap (map pair_tree) c.take_named.ensures.rest ∙ left_seen (is_text c.args.name.now) tree_of tree_of c.in-Pairs.pairs.items)

pub returns-in-Fields-clause-value : goal.returns-in-Fields-clause-value
returns-in-Fields-clause-value c = rw c.in-Fields.is (ap (option_map tree_of) c.take_named-in-Fields.ensures.value ∙ found_seen (is_text c.args.name.now) (λ k. tree.text (text_of k)) tree_of c.in-Fields.fields.items)

pub returns-in-Fields-clause-rest : goal.returns-in-Fields-clause-rest
returns-in-Fields-clause-rest c = rw c.in-Fields.is (ap (map field_entry) c.take_named-in-Fields.ensures.rest ∙ left_seen (is_text c.args.name.now) (λ k. tree.text (text_of k)) tree_of c.in-Fields.fields.items)
