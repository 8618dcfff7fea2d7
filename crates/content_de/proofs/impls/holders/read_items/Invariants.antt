use Rattle.std.proofs.Common.{◌≡◌, ℕ, ◌+◌, List, ◌++◌}
use Rattle.std.specs.Vec.{vec_len, vec_capacity}
use Rattle.content_tree.specs.Values.Pointers.{item_of}
use Rattle.content_tree.specs.Values.Tree.{count}
use Rattle.content_de.specs.Accesses.Seq.{seq_view}
use Rattle.content_de.specs.Reads.Standard.{seq_refusal, SeqGives}
use Rattle.content_de.proofs.impls.holders.read_items.Given as goal

-- what is left is refused where all is, and what it may give, put after the items so far, all may give; the items
-- left are those of all after so many; there is room for what is left
abbrev pub invariant-loop-item : goal.invariant-loop-item
invariant-loop-item g l = record {
  refusal : seq_refusal g.T.Deserialize.refusal (seq_view l.from) ≡ seq_refusal g.T.Deserialize.refusal (seq_view l.initial.from);
  gives : (rest : List _) → SeqGives g.T.Deserialize.gives (seq_view l.from) rest → SeqGives g.T.Deserialize.gives (seq_view l.initial.from) (l.items.items ++ rest);
  items : (k : ℕ) → item_of (vec_len l.items + k) (seq_view l.initial.from).items ≡ item_of k (seq_view l.from).items;
  flags : (seq_view l.from).flags ≡ (seq_view l.initial.from).flags;
  room : vec_len l.items + count (seq_view l.from).items ≡ vec_capacity l.items;
}

abbrev pub decreases-loop-item : goal.decreases-loop-item
decreases-loop-item g l = count (seq_view l.from).items
