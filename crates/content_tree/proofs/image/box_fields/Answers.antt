use Rattle.std.proofs.Common.{ap, ◌∙◌}
use Rattle.content_tree.specs.Images.Found.{image_data_view}
use Rattle.content_tree.proofs.FoundViews.{image_data_view-Struct}
use Rattle.content_tree.proofs.image.box_fields.Goals as goal

pub returns : goal.returns
returns c = ap image_data_view c.in_ok-new.ensures.ok ∙ image_data_view-Struct c.args.fields
