use Rattle.std.proofs.Common.{◌≡◌, ◌+◌, ◌≤◌, length, take}
use Rattle.std.specs.BTreeMap as btree
use Rattle.content_uses.specs.Merged.{merged_pairs}
use Rattle.content_uses.specs.Places.{places, keyed}
use Rattle.content_uses.proofs.Putting.{known, count}
use Rattle.content_uses.proofs.merging.places.Given as goal

abbrev pub invariant-loop-place : goal.invariant-loop-place
invariant-loop-place g l =
    (q : _) → btree.get (λ a b. g.K.Ord.cmp a.now b.now) l.index q
    ≡ known (g.K.Key.tree q.now) (keyed g.K.Key.tree (take l.place l.base))

abbrev pub invariant-loop-pair : goal.invariant-loop-pair
invariant-loop-pair g l = record {
  index : (q : _) → btree.get (λ a b. g.K.Ord.cmp a.now b.now) l.index q
      ≡ known (g.K.Key.tree q.now) (merged_pairs (keyed g.K.Key.tree (take l.pair-index l.over))
      (keyed g.K.Key.tree l.base));
  next : l.next ≡ count (merged_pairs (keyed g.K.Key.tree (take l.pair-index l.over))
      (keyed g.K.Key.tree l.base));
  few : l.next ≤ length l.base + l.pair-index;
  so_far : l.places.items
      ≡ places (keyed g.K.Key.tree (take l.pair-index l.over)) (keyed g.K.Key.tree l.base);
}
