use Rattle.content_tree.specs.Values.Value.{tree_of}
use Rattle.check_callers.proofs.Points.{point_calls, point_tree, point_spelled, read_back}
use Rattle.check_callers.proofs.returning.same_point.Goals as goal

pub returns : goal.returns
returns c =
    let x = c.args.point.now.x in
    let y = c.args.point.now.y in
    let same = c.one_tree.ensures (point_calls x y) (tree_of c.in_ok-value.value) (point_tree x y) (c.in_ok-value.ensures.unlimited c.new.ensures.limit).1 (point_spelled x y) in
    read_back x y _ _ _ _ c.new-2.ensures same c.deserialize.ensures.value
