use Rattle.std.proofs.Common.{◌≡◌, ◌≤◌, ◌+◌, [], drop, take, vec_len, vec_capacity}
use Rattle.content_tree.specs.Values.Value.{trees_view}
use Rattle.content_build.specs.Inner.Decoding.{all_trees}
use Rattle.content_build.specs.Inner.Forest.{read}
use Rattle.content_build.specs.Inner.Frames.{cells_of}
use Rattle.content_build.specs.Inner.Leaves.{AreLeaves}
use Rattle.content_build.proofs.Forward.{append_trees}
use Rattle.content_build.proofs.leaves.leaf_items.Given as goal

abbrev pub invariant-loop-at : goal.invariant-loop-at
invariant-loop-at l = record {
  len : vec_len l.frames ≡ vec_len l.fn.frames;
  low : l.from ≤ l.at;
  filled : vec_len l.items + l.from ≡ l.at;
  room : vec_capacity l.items + l.from ≡ vec_len l.fn.frames;
  kept : take l.from l.frames.items ≡ take l.from l.fn.frames.items;
  rest : drop l.at l.frames.items ≡ drop l.at l.fn.frames.items;
  leaves : AreLeaves (drop l.at (cells_of l.fn.frames.items));
  done : append_trees (trees_view l.items.items) (all_trees (read (drop l.at (cells_of l.fn.frames.items)) [])) ≡ all_trees (read (drop l.from (cells_of l.fn.frames.items)) []);
}
