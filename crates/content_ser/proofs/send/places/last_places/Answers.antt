use Rattle.std.proofs.Common.{◌≡◌, ◌<◌, length, ◌+◌, ◌∷◌, ◌++◌, [], map, take, Some, rules, subst}
use Rattle.std.specs.Prelude.{slice_get}
use Rattle.content_ser.specs.Sending.Loose.{sorted}
use Rattle.content_ser.specs.Sending.Places.{keyed_tree_of}
use Rattle.content_ser.proofs.Placing.{stands_insert, put_each-more, got_at, more_at}
use Rattle.content_ser.proofs.send.places.last_places.Goals as goal

pub loop-i-preserved : goal.loop-i-preserved
loop-i-preserved c =
    let fs = c.args.fields.now.items in
    let i = c.loop-i.i in
    let x = c.index.result.now in
    let below : i < length fs = (let n : c.len-i-end.result ≡ length fs = search rules in subst (λ m. i < m) n c.loop-i-test.true) in
    let got : slice_get (map keyed_tree_of fs) i ≡ Some (keyed_tree_of x) = got_at keyed_tree_of fs i x below c.index.ensures in
    let more : map keyed_tree_of (take (i + 1) fs) ≡ map keyed_tree_of (take i fs) ++ keyed_tree_of x ∷ [] = more_at keyed_tree_of fs i x below c.index.ensures in
    let next = stands_insert fs c.loop-i.places.entries (sorted (map keyed_tree_of (take i fs))) c.as_str.result i (keyed_tree_of x) got c.as_str.ensures c.loop-i.invariant in
    rw (c.in_ok-insert.ensures.entries, more, put_each-more) next
