use Rattle.std.proofs.Common.{ap, ◌∙◌}
use Rattle.content_tree.specs.Values.Text.{static_name}
use Rattle.content_tree.specs.Values.Value.{fields_view}
use Rattle.content_tree.specs.declared.value.NamedValue as value
use Rattle.content_tree.proofs.Views.{tree_of-Number}
use Rattle.content_build.specs.Partial.{push_field}
use Rattle.content_build.proofs.Pushes.{fields_view-push}
use Rattle.content_build.proofs.leaves.push_number_field.Goals as goal

pub returns-clause-fields : goal.returns-clause-fields
returns-clause-fields c =
    ap fields_view c.push_reserved.ensures.items
    ∙ (fields_view-push c.args.fields.now.items (_, value.Number c.args.number) ∙ ap (push_field (fields_view c.args.fields.now.items) (static_name c.args.key.now)) (tree_of-Number c.args.number))
