use Rattle.std.proofs.Common.{◌≡◌, ◌++◌, ◌-◌, Ok, length, take, ap, sym, subst, ◌∙◌, append_assoc, rules}
use Rattle.content_tree.specs.Values.Value.{tree_of}
use Rattle.content_json.specs.Codes.{Codes}
use Rattle.content_json.specs.Decoded.{StopsAt}
use Rattle.content_json.specs.Inner.Reading.{after_blanks, value_at}
use Rattle.content_json.specs.Inner.Steps.{Fails}
use Rattle.content_json.proofs.Sound.{same_ok}
use Rattle.content_json.proofs.Stops.{before_rest, front_memory, front_read, front_there, stops}
use Rattle.content_json.proofs.decoding.decode_prefix.Goals as goal

pub returns-in-Ok-clause-value : goal.returns-in-Ok-clause-value
returns-in-Ok-clause-value c =
    let bs = c.args.bytes.now in
    let read : value_at c.args.depth_limit (after_blanks bs) ≡ Ok (tree_of c.in-Ok.value, c.in-Ok.rest.now) = ap (value_at c.args.depth_limit) (sym c.skip_blanks-start.ensures) ∙ c.in-Ok.ensures in
    let taken : c.saturating_sub.result ≡ length bs - length c.in-Ok.rest.now = search rules in
    subst (λ n. Codes c.args.depth_limit (tree_of c.in-Ok.value) (take n bs)) (sym taken) (front_read c.args.depth_limit (tree_of c.in-Ok.value) bs c.in-Ok.rest.now read)

pub returns-in-Ok-clause-only : goal.returns-in-Ok-clause-only
returns-in-Ok-clause-only c = λ t before front rest blank is ends all.
    let bs = c.args.bytes.now in
    let read : value_at c.args.depth_limit (after_blanks bs) ≡ Ok (tree_of c.in-Ok.value, c.in-Ok.rest.now) = ap (value_at c.args.depth_limit) (sym c.skip_blanks-start.ensures) ∙ c.in-Ok.ensures in
    let taken : c.saturating_sub.result ≡ length bs - length c.in-Ok.rest.now = search rules in
    let o = same_ok (tree_of c.in-Ok.value) t c.in-Ok.rest.now rest (sym read ∙ front_there c.args.depth_limit t bs before front rest blank is ends all) in
    (o.0, taken ∙ ap (λ r. length bs - length r) o.1 ∙ before_rest (before ++ front) rest bs (all ∙ sym (append_assoc before front rest)))

pub returns-in-Err-clause-only : goal.returns-in-Err-clause-only
returns-in-Err-clause-only c = λ t before front rest blank is ends all.
    let bs = c.args.bytes.now in
    let fails = subst (λ l. Fails c.in-Err.stop (value_at c.args.depth_limit l)) c.skip_blanks-start.ensures c.in-Err.ensures in
    c.error_of.ensures ∙ front_memory c.args.depth_limit bs c.in-Err.stop t rest fails (front_there c.args.depth_limit t bs before front rest blank is ends all)

pub returns-in-Err-clause-fault : goal.returns-in-Err-clause-fault
returns-in-Err-clause-fault c =
    let bs = c.args.bytes.now in
    let fails = subst (λ l. Fails c.in-Err.stop (value_at c.args.depth_limit l)) c.skip_blanks-start.ensures c.in-Err.ensures in
    subst (λ e. StopsAt bs e (value_at c.args.depth_limit (after_blanks bs))) (sym c.error_of.ensures)
    (stops bs c.in-Err.stop (value_at c.args.depth_limit (after_blanks bs)) fails)
