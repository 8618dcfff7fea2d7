use Rattle.std.proofs.Common.{◌≡◌, List, vec_len}
use Rattle.content_tree.specs.Values.Tree.{Tree}
use Rattle.content_build.specs.Partial.{Slot, fill}
use Rattle.content_build.specs.Inner.Sound.{IsWaiting}
use Rattle.content_build.proofs.settle.settle.Given as goal

-- what fills the slots that wait now fills those that waited first
abbrev pub invariant-loop-count : goal.invariant-loop-count
invariant-loop-count l = record {
  length : l.count ≡ vec_len l.openings;
  fills : (ps : List Slot) (t : Tree) → IsWaiting l.initial.frames.items l.initial.openings.items ps t
      → (qs : List Slot) × (u : Tree) × (fill ps t ≡ fill qs u) × IsWaiting l.frames.items l.openings.items qs u;
  waiting : (ps : List Slot) × (t : Tree) × IsWaiting l.initial.frames.items l.initial.openings.items ps t;
}

abbrev pub decreases-loop-count : goal.decreases-loop-count
decreases-loop-count l = l.count
