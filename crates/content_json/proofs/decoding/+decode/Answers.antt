use Rattle.std.proofs.Common.{◌++◌, ◌∷◌, [], Ok, map, length, ap, ◌∙◌, append-nil, rules}
use Rattle.std.proofs.lemmas.Result.{err_from_is_err_and}
use Rattle.content_tree.specs.Values.Value.{tree_of, pair_tree}
use Rattle.content_json.specs.Inner.Reading.{member_at, value_at}
use Rattle.content_json.proofs.Loops.{begins, ended, ends, fails, goes_on, next_fails, none, one_more}
use Rattle.content_json.proofs.decoding.+decode.Goals as goal

pub read_items-returns-in-Some : goal.read_items-returns-in-Some
read_items-returns-in-Some t c =
    rw c.new-items.ensures.items (none 93 (value_at c.args.limit) c.args.bytes.now _ c.in-Some.behind.now c.skip_blanks-start.ensures c.in-Some.ensures.some.0 c.in-Some.ensures.some.1)

pub read_items-loop-init : goal.read_items-loop-init
read_items-loop-init t c = rw c.new-items.ensures.items (begins 93 (value_at c.args.limit) c.args.bytes.now _ c.skip_blanks-start.ensures (search rules))

pub read_items-returns-in_err-item : goal.read_items-returns-in_err-item
read_items-returns-in_err-item t c =
    let l = c.loop in
    let p = err_from_is_err_and c.from_residual.result c.from_residual.ensures.1 in
    rw (p.1, p.2) (fails (λ xs. map tree_of l.items.items ++ xs) 93 (value_at c.args.limit) c.in_err-item.field-0.0 (length c.args.bytes.now) l.index l.rest.now _ c.loop-test.true c.in_err-item.ensures l.invariant)

pub read_items-returns-in_err-goes_on : goal.read_items-returns-in_err-goes_on
read_items-returns-in_err-goes_on t c =
    let l = c.loop in
    let p = err_from_is_err_and c.from_residual-in_err-goes_on.result c.from_residual-in_err-goes_on.ensures.1 in
    rw (p.1, p.2) (next_fails (λ xs. map tree_of l.items.items ++ xs) 93 (value_at c.args.limit) c.in_err-goes_on.field-0.0 (length c.args.bytes.now) l.index l.rest.now c.in_ok-item.behind.now _ (tree_of c.in_ok-item.item) _
    c.loop-test.true c.in_ok-item.ensures c.skip_blanks-next.ensures c.in_err-goes_on.ensures l.invariant)

pub read_items-returns-else-goes_on : goal.read_items-returns-else-goes_on
read_items-returns-else-goes_on t c =
    let l = c.loop in
    let last = c.in_ok-goes_on.ensures ∙ ap (λ b. Ok (b, c.in_ok-goes_on.after_next.now)) c.if-goes_on.false in
    rw c.in_ok-push.ensures.items
    (ends (λ xs. map tree_of l.items.items ++ xs) 93 (value_at c.args.limit) (length c.args.bytes.now) l.index l.rest.now c.in_ok-item.behind.now _ c.in_ok-goes_on.after_next.now (tree_of c.in_ok-item.item) _
    c.loop-test.true c.in_ok-item.ensures c.skip_blanks-next.ensures last l.invariant
    ∙ ap (λ xs. Ok (xs, c.in_ok-goes_on.after_next.now)) (one_more tree_of l.items.items c.in_ok-item.item [] ∙ append-nil (map tree_of (l.items.items ++ (c.in_ok-item.item ∷ [])))))

pub read_items-loop-preserved : goal.read_items-loop-preserved
read_items-loop-preserved t c =
    let l = c.loop in
    let more = c.in_ok-goes_on.ensures ∙ ap (λ b. Ok (b, c.in_ok-goes_on.after_next.now)) c.if-goes_on.true in
    rw c.in_ok-push.ensures.items
    (goes_on (λ xs. map tree_of l.items.items ++ xs) (λ xs. map tree_of (l.items.items ++ (c.in_ok-item.item ∷ [])) ++ xs) 93 (value_at c.args.limit) (length c.args.bytes.now) l.index l.rest.now c.in_ok-item.behind.now _
    c.in_ok-goes_on.after_next.now (tree_of c.in_ok-item.item) _ c.loop-test.true c.in_ok-item.ensures c.skip_blanks-next.ensures more (one_more tree_of l.items.items c.in_ok-item.item) l.invariant)

pub read_items-returns : goal.read_items-returns
read_items-returns t c =
    let l = c.loop in
    rw c.stop_at.ensures (ended (λ xs. map tree_of l.items.items ++ xs) 93 (value_at c.args.limit) (length c.args.bytes.now) l.index l.rest.now _ c.loop-test.false l.invariant)

pub read_members-returns-in-Some : goal.read_members-returns-in-Some
read_members-returns-in-Some t c =
    rw c.new-pairs.ensures.items (none 125 (member_at (value_at c.args.limit)) c.args.bytes.now _ c.in-Some.behind.now c.skip_blanks-start.ensures c.in-Some.ensures.some.0 c.in-Some.ensures.some.1)

pub read_members-loop-init : goal.read_members-loop-init
read_members-loop-init t c = rw c.new-pairs.ensures.items (begins 125 (member_at (value_at c.args.limit)) c.args.bytes.now _ c.skip_blanks-start.ensures (search rules))

pub read_members-returns-in_err-pair : goal.read_members-returns-in_err-pair
read_members-returns-in_err-pair t c =
    let l = c.loop in
    let p = err_from_is_err_and c.from_residual.result c.from_residual.ensures.1 in
    rw (p.1, p.2) (fails (λ xs. map pair_tree l.pairs.items ++ xs) 125 (member_at (value_at c.args.limit)) c.in_err-pair.field-0.0 (length c.args.bytes.now) l.index l.rest.now _ c.loop-test.true c.in_err-pair.ensures l.invariant)

pub read_members-returns-in_err-goes_on : goal.read_members-returns-in_err-goes_on
read_members-returns-in_err-goes_on t c =
    let l = c.loop in
    let p = err_from_is_err_and c.from_residual-in_err-goes_on.result c.from_residual-in_err-goes_on.ensures.1 in
    rw (p.1, p.2) (next_fails (λ xs. map pair_tree l.pairs.items ++ xs) 125 (member_at (value_at c.args.limit)) c.in_err-goes_on.field-0.0 (length c.args.bytes.now) l.index l.rest.now c.in_ok-pair.behind.now _ (pair_tree c.in_ok-pair.pair) _
    c.loop-test.true c.in_ok-pair.ensures c.skip_blanks-next.ensures c.in_err-goes_on.ensures l.invariant)

pub read_members-returns-else-goes_on : goal.read_members-returns-else-goes_on
read_members-returns-else-goes_on t c =
    let l = c.loop in
    let last = c.in_ok-goes_on.ensures ∙ ap (λ b. Ok (b, c.in_ok-goes_on.after_next.now)) c.if-goes_on.false in
    rw c.in_ok-push.ensures.items
    (ends (λ xs. map pair_tree l.pairs.items ++ xs) 125 (member_at (value_at c.args.limit)) (length c.args.bytes.now) l.index l.rest.now c.in_ok-pair.behind.now _ c.in_ok-goes_on.after_next.now (pair_tree c.in_ok-pair.pair) _
    c.loop-test.true c.in_ok-pair.ensures c.skip_blanks-next.ensures last l.invariant
    ∙ ap (λ xs. Ok (xs, c.in_ok-goes_on.after_next.now)) (one_more pair_tree l.pairs.items c.in_ok-pair.pair [] ∙ append-nil (map pair_tree (l.pairs.items ++ (c.in_ok-pair.pair ∷ [])))))

pub read_members-loop-preserved : goal.read_members-loop-preserved
read_members-loop-preserved t c =
    let l = c.loop in
    let more = c.in_ok-goes_on.ensures ∙ ap (λ b. Ok (b, c.in_ok-goes_on.after_next.now)) c.if-goes_on.true in
    rw c.in_ok-push.ensures.items
    (goes_on (λ xs. map pair_tree l.pairs.items ++ xs) (λ xs. map pair_tree (l.pairs.items ++ (c.in_ok-pair.pair ∷ [])) ++ xs) 125 (member_at (value_at c.args.limit)) (length c.args.bytes.now) l.index l.rest.now c.in_ok-pair.behind.now _
    c.in_ok-goes_on.after_next.now (pair_tree c.in_ok-pair.pair) _ c.loop-test.true c.in_ok-pair.ensures c.skip_blanks-next.ensures more (one_more pair_tree l.pairs.items c.in_ok-pair.pair) l.invariant)

pub read_members-returns : goal.read_members-returns
read_members-returns t c =
    let l = c.loop in
    rw c.stop_at.ensures (ended (λ xs. map pair_tree l.pairs.items ++ xs) 125 (member_at (value_at c.args.limit)) (length c.args.bytes.now) l.index l.rest.now _ c.loop-test.false l.invariant)
