use Rattle.std.proofs.Common.{◌≡◌, ◌∙◌, ap, sym, subst, take, drop, arith}
use Rattle.std.specs.Str.{IsUtf8}
use Rattle.content_json.specs.Inner.Strings.{run_length}
use Rattle.content_json.proofs.Runs.{run_bad, run_good, run_le}
use Rattle.content_json.proofs.read_strings.read_run.Goals as goal

pub split_at-requires : goal.split_at-requires
split_at-requires c = omega (arith, run_le c.args.bytes.now, c.run_length.ensures)

pub returns-in-Ok : goal.returns-in-Ok
returns-in-Ok c =
    let bs = c.args.bytes.now in
    let front : c.in-Ok.text.now ≡ take (run_length bs) bs = c.in-Ok.ensures.cases.0 ∙ c.split_at.ensures.front ∙ ap (λ n. take n bs) c.run_length.ensures in
    let back = c.split_at.ensures.back ∙ ap (λ n. drop n bs) c.run_length.ensures in
    run_good bs c.in-Ok.text.now _ front back (subst IsUtf8 (sym c.in-Ok.ensures.cases.0) c.in-Ok.ensures.cases.1)

pub returns-in-Err : goal.returns-in-Err
returns-in-Err c =
    let bs = c.args.bytes.now in
    rw c.stop_in_text.ensures (run_bad bs _ (c.split_at.ensures.front ∙ ap (λ n. take n bs) c.run_length.ensures) c.in-Err.ensures.cases.0)
