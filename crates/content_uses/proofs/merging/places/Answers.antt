use Rattle.std.proofs.Common.{◌≡◌, ◌+◌, Some, None, take, ap, sym, ◌∙◌, arith, length, ◌<◌, cond}
use Rattle.std.proofs.lemmas.List.{take_all}
use Rattle.std.specs.Ordering.{is_eq}
use denote.Bor.{Bor}
use Rattle.std.specs.BTreeMap as btree
use Rattle.serde_content.specs.Names.Words.{Tree, tree_of}
use Rattle.serde_content.specs.Names.Tree.{Pairs}
use Rattle.content_uses.specs.Merged.{put, merged, merged_pairs}
use Rattle.content_uses.specs.Places.{place, keyed}
use Rattle.content_uses.proofs.Putting.{known, count_view, base_index, step_of, places_step}
use Rattle.content_uses.proofs.Putting.{is_known, place_new, found_index, found_count, new_index}
use Rattle.content_uses.proofs.Putting.{new_count, place_pushed}
use Rattle.content_uses.proofs.merging.places.Goals as goal
use Rattle.content_uses.proofs.merging.places.Goals.{in-Some+in_ok-push-in-Some}
use Rattle.content_uses.proofs.merging.places.Goals.{in-None+in_ok-insert-in-None+in_ok-push-in-None}

pub loop-place-preserved : goal.loop-place-preserved
loop-place-preserved g c = λ q.
    base_index g.K.Key.tree _ _ (g.K.Key.tree q.now) c.args.base.now c.loop-place.place
    c.index-base-place.result (omega arith) c.index-base-place.is (c.loop-place.invariant q)
    (c.in_ok-insert.ensures.updates.0 q
    ∙ ap (λ o. cond (is_eq o) (Some c.loop-place.place)
    (btree.get (λ a b. g.K.Ord.cmp a.now b.now) c.loop-place.index q))
    (g.met.K.Key.as_trees c.index-base-place.result.0 q.now))

pub loop-pair-init : goal.loop-pair-init
loop-pair-init g c = record {
  index = λ q.
      let all : take c.loop-place.place c.args.base.now ≡ c.args.base.now = take_all _ _ (omega arith) in
      c.loop-place.invariant q
      ∙ ap (λ xs. known (g.K.Key.tree q.now) (keyed g.K.Key.tree xs)) all;
  next = sym (count_view g.K.Key.tree c.args.base.now);
  few = omega arith;
  so_far = c.new-places.ensures.items;
}

pub loop-pair-preserved : goal.loop-pair-preserved
loop-pair-preserved g c =
    let k : Tree = g.K.Key.tree c.pair-item.result.0 in
    let u : Tree = tree_of c.pair-item.result.1 in
    let key : Bor g.row.K.Denot = record { ref_ptr = c.args.over.ref_ptr; now = c.pair-item.result.0 } in
    let base : Pairs = keyed g.K.Key.tree c.args.base.now in
    let now : Pairs
    = merged_pairs (keyed g.K.Key.tree (take c.loop-pair.pair-index c.args.over.now)) base in
    let small : c.loop-pair.pair-index < length c.args.over.now = omega arith in
    let step : merged_pairs (keyed g.K.Key.tree (take (c.loop-pair.pair-index + 1) c.args.over.now)) base
    ≡ put k u (merged u) now
    = step_of g.K.Key.tree c.args.over.now c.loop-pair.pair-index c.pair-item.result base small
    c.pair-item.is in
    elim c.match-get.branch [
      | in-Some+in_ok-push-in-Some w ↦
          let is : known k now ≡ Some w.in-Some.place.now
          = sym (c.loop-pair.invariant.index key) ∙ sym w.in-Some.ensures.value in
          record {
            index = λ q. ap (λ m. btree.get (λ a b. g.K.Ord.cmp a.now b.now) m q) w.index-is
                ∙ found_index k u (g.K.Key.tree q.now) now _ _ _ step is
                (c.loop-pair.invariant.index q);
            next = w.next-is ∙ found_count k u now _ _ _ step is c.loop-pair.invariant.next;
            few = omega (arith, w.next-is);
            so_far = ap (λ v. v.items) w.places-is
                ∙ place_pushed c.loop-pair.places.items _ _ _ _ (place k now)
                w.in_ok-push-in-Some.ensures.items c.loop-pair.invariant.so_far
                (is_known k now _ is).1 (places_step g.K.Key.tree c.args.over.now
                c.loop-pair.pair-index c.pair-item.result base small c.pair-item.is);
          }
      | in-None+in_ok-insert-in-None+in_ok-push-in-None w ↦
          let is : known k now ≡ None
          = sym (c.loop-pair.invariant.index key) ∙ sym w.in-None.ensures.value in
          record {
            index = λ q. ap (λ m. btree.get (λ a b. g.K.Ord.cmp a.now b.now) m q) w.index-is
                ∙ new_index k u (g.K.Key.tree q.now) now _ _ _ _ step is c.loop-pair.invariant.next
                (c.loop-pair.invariant.index q)
                (w.in_ok-insert-in-None.ensures.updates.0 q
                ∙ ap (λ o. cond (is_eq o) (Some c.loop-pair.next)
                (btree.get (λ a b. g.K.Ord.cmp a.now b.now) c.loop-pair.index q))
                (g.met.K.Key.as_trees c.pair-item.result.0 q.now));
            next = w.next-is ∙ new_count k u now _ _ step is c.loop-pair.invariant.next;
            few = omega (arith, w.next-is);
            so_far = ap (λ v. v.items) w.places-is
                ∙ place_pushed c.loop-pair.places.items _ _ _ _ (place k now)
                w.in_ok-push-in-None.ensures.items c.loop-pair.invariant.so_far
                (place_new k now is ∙ sym c.loop-pair.invariant.next)
                (places_step g.K.Key.tree c.args.over.now c.loop-pair.pair-index
                c.pair-item.result base small c.pair-item.is);
          }
    ]
