use Rattle.std.proofs.Common.{◌≡◌, ◌≤◌, ◌+◌, ◌-◌, [], drop, take, vec_len, vec_capacity}
use Rattle.content_tree.specs.Values.Value.{pairs_view}
use Rattle.content_build.specs.Inner.Decoding.{all_pairs}
use Rattle.content_build.specs.Inner.Forest.{read}
use Rattle.content_build.specs.Inner.Frames.{cells_of}
use Rattle.content_build.specs.Inner.Leaves.{AreLeaves}
use Rattle.content_build.proofs.Forward.{append_pairs}
use Rattle.content_build.proofs.leaves.leaf_pairs.Given as goal

abbrev pub invariant-loop-at : goal.invariant-loop-at
invariant-loop-at l = record {
  len : vec_len l.frames ≡ vec_len l.fn.frames;
  low : l.from ≤ l.at;
  high : l.at ≤ vec_len l.frames;
  filled : (vec_len l.pairs + vec_len l.pairs) + l.from ≡ l.at;
  room : vec_len l.fn.frames ≤ ((vec_capacity l.pairs + vec_capacity l.pairs) + l.from) + 1;
  kept : take l.from l.frames.items ≡ take l.from l.fn.frames.items;
  rest : drop l.at l.frames.items ≡ drop l.at l.fn.frames.items;
  leaves : AreLeaves (drop l.at (cells_of l.fn.frames.items));
  done : append_pairs (pairs_view l.pairs.items) (all_pairs (read (drop l.at (cells_of l.fn.frames.items)) [])) ≡ all_pairs (read (drop l.from (cells_of l.fn.frames.items)) []);
}

abbrev pub decreases-loop-at : goal.decreases-loop-at
decreases-loop-at l = vec_len l.frames - l.at
