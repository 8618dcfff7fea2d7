use Rattle.std.proofs.Common.{drop, ap, sym, subst, ◌∙◌}
use Rattle.content_tree.specs.Values.Tree as tree
use Rattle.content_tree.specs.Values.Value.{tree_data_of}
use Rattle.content_tree.specs.declared.value.NamedData as held
use Rattle.content_tree.proofs.Views.{tree_data_of-Tuple, tree_data_of-Struct}
use Rattle.content_build.specs.Inner.Frames.{cells_of, sort_view}
use Rattle.content_build.specs.Inner.Leaves.{HoldsAs}
use Rattle.content_build.proofs.FlatNodes.{many-holds, fields-hold}
use Rattle.content_build.proofs.flat.flat_data.Goals as goal

pub returns-in_ok-values-in-Many : goal.returns-in_ok-values-in-Many
returns-in_ok-values-in-Many c =
    let cs = drop c.args.from (cells_of c.args.frames.now.items) in
    let made = c.in_ok-values-in-Many.ensures in (
      made.1,
      subst (λ s. HoldsAs (sort_view s) cs (tree_data_of (held.Tuple c.in_ok-values-in-Many.values))) (sym c.in-Many.is) (many-holds cs _ (c.are_leaves.ensures (cc)) (tree_data_of-Tuple c.in_ok-values-in-Many.values ∙ ap tree.many made.0)),
    )

pub returns-in_ok-fields-in-Fields : goal.returns-in_ok-fields-in-Fields
returns-in_ok-fields-in-Fields c =
    let cs = drop c.args.from (cells_of c.args.frames.now.items) in
    let made = c.in_ok-fields-in-Fields.ensures in (
      made.1,
      subst (λ s. HoldsAs (sort_view s) cs (tree_data_of (held.Struct c.in_ok-fields-in-Fields.fields))) (sym c.in-Fields.is) (fields-hold cs _ (c.are_fields.ensures (cc)) (tree_data_of-Struct c.in_ok-fields-in-Fields.fields ∙ ap tree.named made.0)),
    )
