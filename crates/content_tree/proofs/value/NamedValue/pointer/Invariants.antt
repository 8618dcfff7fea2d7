use Rattle.std.proofs.Common.{◌≡◌, length}
use Rattle.content_tree.proofs.Following.{value_after, left_after}
use Rattle.content_tree.specs.Values.Places.{place_view}
use Rattle.content_tree.specs.Values.Pointers.{pointer}
use Rattle.content_tree.specs.Values.Value.{tree_of}
use Rattle.content_tree.proofs.value.NamedValue.pointer.Given as goal

-- the pieces that are left lead from this place to what the path leads to
abbrev pub invariant-loop-piece : goal.invariant-loop-piece
invariant-loop-piece l =
    pointer l.fn.path (tree_of l.fn.self) ≡ value_after (left_after (length l.yielded) l.fn.path) (place_view l.place)
