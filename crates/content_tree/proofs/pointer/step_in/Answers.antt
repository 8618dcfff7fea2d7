use Rattle.std.proofs.Common.{◌∙◌, sym, ap, option_map}
use Rattle.content_tree.proofs.Views.{tree_of-Map}
use Rattle.content_tree.specs.Values.Paths.{unescape}
use Rattle.content_tree.specs.Values.Places.{found_step_in}
use Rattle.content_tree.specs.Values.Pointers.{at}
use Rattle.content_tree.specs.Values.Value.{tree_of}
use Rattle.content_tree.proofs.pointer.step_in.Goals as goal

pub returns-in_ok-last_spelled_key-in-Map : goal.returns-in_ok-last_spelled_key-in-Map
returns-in_ok-last_spelled_key-in-Map c =
    let found = rw c.deref-in-Map.ensures.value at c.in_ok-last_spelled_key-in-Map.ensures in
    ap (option_map at) found ∙ sym (ap (found_step_in (unescape c.args.piece.now)) (ap tree_of c.in-Map.is ∙ tree_of-Map c.in-Map.pairs))
