use Rattle.std.proofs.Common.{◌++◌, ◌∷◌, [], Ok, map, length, drop, ap, sym, subst, ◌∙◌, append-nil, rules, arith}
use Rattle.std.proofs.lemmas.Result.{err_from_is_err_and}
use Rattle.content_tree.specs.Values.Value.{tree_of, pair_tree}
use Rattle.content_tree.proofs.Views.{tree_of-Seq, tree_of-Map}
use Rattle.content_cbor.specs.Inner.Reading.{each_at, until_at, item_at, pair_at}
use Rattle.content_cbor.proofs.Read.Loops.{each_begins, each_goes_on, each_fails, each_done, until_begins, until_goes_on, until_fails, until_break, until_ended, one_more}
use Rattle.content_cbor.proofs.Read.Inside.{array_read, map_read, array_stops, map_stops}
use Rattle.content_cbor.proofs.Read.Memory.{Takes, item_takes, no_length}
use Rattle.content_cbor.proofs.decoding.+decode.Goals as goal

pub read_each_item-loop-init : goal.read_each_item-loop-init
read_each_item-loop-init t c = rw c.new-items.ensures.items (each_begins (item_at c.args.limit) c.args.count c.args.bytes.now)

pub read_each_item-returns-in_err-item : goal.read_each_item-returns-in_err-item
read_each_item-returns-in_err-item t c =
    let l = c.loop in
    let p = err_from_is_err_and c.from_residual.result c.from_residual.ensures.1 in
    rw (p.1, p.2) (each_fails (λ xs. map tree_of c.loop.items.items ++ xs) (item_at c.args.limit) c.in_err-item.field-0.0 c.args.count l.counter l.rest.now
    (each_at (item_at c.args.limit) c.args.count c.args.bytes.now) c.loop-test.true c.in_err-item.ensures.value l.invariant)

pub read_each_item-loop-preserved : goal.read_each_item-loop-preserved
read_each_item-loop-preserved t c =
    let l = c.loop in
    let v = c.in_ok-item.item in
    rw c.in_ok-push.ensures.items (each_goes_on (λ xs. map tree_of c.loop.items.items ++ xs) (λ xs. map tree_of (c.loop.items.items ++ (v ∷ [])) ++ xs) (item_at c.args.limit)
    c.args.count l.counter l.rest.now c.in_ok-item.behind.now (tree_of v) (each_at (item_at c.args.limit) c.args.count c.args.bytes.now)
    c.loop-test.true c.in_ok-item.ensures.value (one_more tree_of l.items.items v) l.invariant)

pub read_each_item-returns : goal.read_each_item-returns
read_each_item-returns t c =
    let l = c.loop in
    each_done (λ xs. map tree_of c.loop.items.items ++ xs) (item_at c.args.limit) c.args.count l.counter l.rest.now (each_at (item_at c.args.limit) c.args.count c.args.bytes.now) c.loop-test.false l.invariant
    ∙ ap (λ xs. Ok (xs, l.rest.now)) (append-nil (map tree_of l.items.items))

pub read_items_until_break-loop-init : goal.read_items_until_break-loop-init
read_items_until_break-loop-init t c = rw c.new-items.ensures.items (until_begins (item_at c.args.limit) (length c.args.bytes.now) c.args.bytes.now)

pub read_items_until_break-returns-in-Some : goal.read_items_until_break-returns-in-Some
read_items_until_break-returns-in-Some t c =
    let l = c.loop in
    until_break (λ xs. map tree_of c.loop.items.items ++ xs) (item_at c.args.limit) (length c.args.bytes.now) l.index l.rest.now (until_at (item_at c.args.limit) (length c.args.bytes.now) c.args.bytes.now) c.loop-test.true c.in-Some.ensures.some.0 l.invariant
    ∙ ap (λ xs. Ok (xs, drop 1 l.rest.now)) (append-nil (map tree_of l.items.items)) ∙ ap (λ r. Ok (map tree_of l.items.items, r)) (sym c.in-Some.ensures.some.1)

pub read_items_until_break-returns-in_err-item : goal.read_items_until_break-returns-in_err-item
read_items_until_break-returns-in_err-item t c =
    let l = c.loop in
    let p = err_from_is_err_and c.from_residual.result c.from_residual.ensures.1 in
    rw (p.1, p.2) (until_fails (λ xs. map tree_of c.loop.items.items ++ xs) (item_at c.args.limit) c.in_err-item.field-0.0 (length c.args.bytes.now) l.index l.rest.now
    (until_at (item_at c.args.limit) (length c.args.bytes.now) c.args.bytes.now) c.loop-test.true (search rules) c.in_err-item.ensures.value l.invariant)

pub read_items_until_break-loop-preserved : goal.read_items_until_break-loop-preserved
read_items_until_break-loop-preserved t c =
    let l = c.loop in
    let v = c.in_ok-item.item in
    rw c.in_ok-push.ensures.items (until_goes_on (λ xs. map tree_of c.loop.items.items ++ xs) (λ xs. map tree_of (c.loop.items.items ++ (v ∷ [])) ++ xs) (item_at c.args.limit)
    (length c.args.bytes.now) l.index l.rest.now c.in_ok-item.behind.now (tree_of v) (until_at (item_at c.args.limit) (length c.args.bytes.now) c.args.bytes.now)
    c.loop-test.true (search rules) c.in_ok-item.ensures.value (one_more tree_of l.items.items v) l.invariant)

pub read_items_until_break-returns : goal.read_items_until_break-returns
read_items_until_break-returns t c =
    let l = c.loop in
    rw c.stop_at.ensures (until_ended (λ xs. map tree_of c.loop.items.items ++ xs) (item_at c.args.limit) (length c.args.bytes.now) l.index l.rest.now (until_at (item_at c.args.limit) (length c.args.bytes.now) c.args.bytes.now) c.loop-test.false l.invariant)

pub read_each_pair-loop-init : goal.read_each_pair-loop-init
read_each_pair-loop-init t c = rw c.new-pairs.ensures.items (each_begins (pair_at (item_at c.args.limit)) c.args.count c.args.bytes.now)

pub read_each_pair-returns-in_err-pair : goal.read_each_pair-returns-in_err-pair
read_each_pair-returns-in_err-pair t c =
    let l = c.loop in
    let p = err_from_is_err_and c.from_residual.result c.from_residual.ensures.1 in
    rw (p.1, p.2) (each_fails (λ xs. map pair_tree c.loop.pairs.items ++ xs) (pair_at (item_at c.args.limit)) c.in_err-pair.field-0.0 c.args.count l.counter l.rest.now
    (each_at (pair_at (item_at c.args.limit)) c.args.count c.args.bytes.now) c.loop-test.true c.in_err-pair.ensures l.invariant)

pub read_each_pair-loop-preserved : goal.read_each_pair-loop-preserved
read_each_pair-loop-preserved t c =
    let l = c.loop in
    let v = c.in_ok-pair.pair in
    rw c.in_ok-push.ensures.items (each_goes_on (λ xs. map pair_tree c.loop.pairs.items ++ xs) (λ xs. map pair_tree (c.loop.pairs.items ++ (v ∷ [])) ++ xs) (pair_at (item_at c.args.limit))
    c.args.count l.counter l.rest.now c.in_ok-pair.behind.now (pair_tree v) (each_at (pair_at (item_at c.args.limit)) c.args.count c.args.bytes.now)
    c.loop-test.true c.in_ok-pair.ensures (one_more pair_tree l.pairs.items v) l.invariant)

pub read_each_pair-returns : goal.read_each_pair-returns
read_each_pair-returns t c =
    let l = c.loop in
    each_done (λ xs. map pair_tree c.loop.pairs.items ++ xs) (pair_at (item_at c.args.limit)) c.args.count l.counter l.rest.now (each_at (pair_at (item_at c.args.limit)) c.args.count c.args.bytes.now) c.loop-test.false l.invariant
    ∙ ap (λ xs. Ok (xs, l.rest.now)) (append-nil (map pair_tree l.pairs.items))

pub read_pairs_until_break-loop-init : goal.read_pairs_until_break-loop-init
read_pairs_until_break-loop-init t c = rw c.new-pairs.ensures.items (until_begins (pair_at (item_at c.args.limit)) (length c.args.bytes.now) c.args.bytes.now)

pub read_pairs_until_break-returns-in-Some : goal.read_pairs_until_break-returns-in-Some
read_pairs_until_break-returns-in-Some t c =
    let l = c.loop in
    until_break (λ xs. map pair_tree c.loop.pairs.items ++ xs) (pair_at (item_at c.args.limit)) (length c.args.bytes.now) l.index l.rest.now (until_at (pair_at (item_at c.args.limit)) (length c.args.bytes.now) c.args.bytes.now) c.loop-test.true c.in-Some.ensures.some.0 l.invariant
    ∙ ap (λ xs. Ok (xs, drop 1 l.rest.now)) (append-nil (map pair_tree l.pairs.items)) ∙ ap (λ r. Ok (map pair_tree l.pairs.items, r)) (sym c.in-Some.ensures.some.1)

pub read_pairs_until_break-returns-in_err-pair : goal.read_pairs_until_break-returns-in_err-pair
read_pairs_until_break-returns-in_err-pair t c =
    let l = c.loop in
    let p = err_from_is_err_and c.from_residual.result c.from_residual.ensures.1 in
    rw (p.1, p.2) (until_fails (λ xs. map pair_tree c.loop.pairs.items ++ xs) (pair_at (item_at c.args.limit)) c.in_err-pair.field-0.0 (length c.args.bytes.now) l.index l.rest.now
    (until_at (pair_at (item_at c.args.limit)) (length c.args.bytes.now) c.args.bytes.now) c.loop-test.true (search rules) c.in_err-pair.ensures l.invariant)

pub read_pairs_until_break-loop-preserved : goal.read_pairs_until_break-loop-preserved
read_pairs_until_break-loop-preserved t c =
    let l = c.loop in
    let v = c.in_ok-pair.pair in
    rw c.in_ok-push.ensures.items (until_goes_on (λ xs. map pair_tree c.loop.pairs.items ++ xs) (λ xs. map pair_tree (c.loop.pairs.items ++ (v ∷ [])) ++ xs) (pair_at (item_at c.args.limit))
    (length c.args.bytes.now) l.index l.rest.now c.in_ok-pair.behind.now (pair_tree v) (until_at (pair_at (item_at c.args.limit)) (length c.args.bytes.now) c.args.bytes.now)
    c.loop-test.true (search rules) c.in_ok-pair.ensures (one_more pair_tree l.pairs.items v) l.invariant)

pub read_pairs_until_break-returns : goal.read_pairs_until_break-returns
read_pairs_until_break-returns t c =
    let l = c.loop in
    rw c.stop_at.ensures (until_ended (λ xs. map pair_tree c.loop.pairs.items ++ xs) (pair_at (item_at c.args.limit)) (length c.args.bytes.now) l.index l.rest.now (until_at (pair_at (item_at c.args.limit)) (length c.args.bytes.now) c.args.bytes.now) c.loop-test.false l.invariant)

pub read_item-returns-in_err-items-in-Array-clause-value : goal.read_item-returns-in_err-items-in-Array-clause-value
read_item-returns-in_err-items-in-Array-clause-value t c =
    let p = err_from_is_err_and c.from_residual-in_err-items-in-Array.result c.from_residual-in_err-items-in-Array.ensures.1 in
    rw (p.1, p.2) (array_stops c.args.limit c.args.bytes.now c.in_ok-head.rest.now c.in_ok-head.head c.in_err-items-in-Array.field-0.0
    (omega (arith, c.if-limit-eq0.false)) c.in_ok-head.ensures c.in-Array.is c.in_err-items-in-Array.ensures)

pub read_item-returns-in_ok-items-in-Array-clause-value : goal.read_item-returns-in_ok-items-in-Array-clause-value
read_item-returns-in_ok-items-in-Array-clause-value t c =
    array_read c.args.limit c.args.bytes.now c.in_ok-head.rest.now _ c.in_ok-head.head _
    (omega (arith, c.if-limit-eq0.false)) c.in_ok-head.ensures c.in-Array.is c.in_ok-items-in-Array.ensures
    ∙ ap (λ u. Ok (u, c.in_ok-items-in-Array.rest.now)) (sym (tree_of-Seq c.in_ok-items-in-Array.items))

pub read_item-returns-in_err-pairs-in-Map-clause-value : goal.read_item-returns-in_err-pairs-in-Map-clause-value
read_item-returns-in_err-pairs-in-Map-clause-value t c =
    let p = err_from_is_err_and c.from_residual-in_err-pairs-in-Map.result c.from_residual-in_err-pairs-in-Map.ensures.1 in
    rw (p.1, p.2) (map_stops c.args.limit c.args.bytes.now c.in_ok-head.rest.now c.in_ok-head.head c.in_err-pairs-in-Map.field-0.0
    (omega (arith, c.if-limit-eq0.false)) c.in_ok-head.ensures c.in-Map.is c.in_err-pairs-in-Map.ensures)

pub read_item-returns-in_ok-pairs-in-Map-clause-value : goal.read_item-returns-in_ok-pairs-in-Map-clause-value
read_item-returns-in_ok-pairs-in-Map-clause-value t c =
    map_read c.args.limit c.args.bytes.now c.in_ok-head.rest.now _ c.in_ok-head.head _
    (omega (arith, c.if-limit-eq0.false)) c.in_ok-head.ensures c.in-Map.is c.in_ok-pairs-in-Map.ensures
    ∙ ap (λ u. Ok (u, c.in_ok-pairs-in-Map.rest.now)) (sym (tree_of-Map c.in_ok-pairs-in-Map.pairs))

pub read_item-returns-in_err-items-in-Array-clause-memory : goal.read_item-returns-in_err-items-in-Array-clause-memory
read_item-returns-in_err-items-in-Array-clause-memory t c = λ short u rest read.
    item_takes c.args.limit c.args.bytes.now c.in_ok-head.rest.now rest c.in_ok-head.head u (omega (arith, c.if-limit-eq0.false)) c.in_ok-head.ensures
    (subst (λ m. Takes m c.in_ok-head.head.number) (sym c.in-Array.is) tt) read

pub read_item-returns-in_err-pairs-in-Map-clause-memory : goal.read_item-returns-in_err-pairs-in-Map-clause-memory
read_item-returns-in_err-pairs-in-Map-clause-memory t c = λ short u rest read.
    item_takes c.args.limit c.args.bytes.now c.in_ok-head.rest.now rest c.in_ok-head.head u (omega (arith, c.if-limit-eq0.false)) c.in_ok-head.ensures
    (subst (λ m. Takes m c.in_ok-head.head.number) (sym c.in-Map.is) tt) read

pub read_item-returns-in_default-clause-memory : goal.read_item-returns-in_default-clause-memory
read_item-returns-in_default-clause-memory t c = λ short u rest read.
    item_takes c.args.limit c.args.bytes.now c.in_ok-head.rest.now rest c.in_ok-head.head u (omega (arith, c.if-limit-eq0.false)) c.in_ok-head.ensures
    (no_length c.in_ok-head.head.«major» c.in_ok-head.head.number (c.read_leaf.ensures.memory short)) read
