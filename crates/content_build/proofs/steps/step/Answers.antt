use Rattle.std.proofs.Common.{ap, sym, subst, ◌≡◌, ◌∙◌}
use Rattle.content_ser.specs.Calls.Head.{head_of}
use Rattle.content_ser.specs.Grammar.Token as token
use Rattle.content_build.specs.Partial.{step_token}
use Rattle.content_build.specs.Inner.Cells.{child, in_series, in_record}
use Rattle.content_build.specs.Inner.Frames.{label_view, wait_view}
use Rattle.content_build.specs.Inner.Sound.{meaning}
use Rattle.content_build.specs.Inner.Steps.{Opens}
use Rattle.content_build.specs.Inner.Taken.{TakenTo}
use Rattle.content_build.specs.Inner.Tokens.{token_view, wrap_view, series_view}
use Rattle.content_build.specs.declared.frame.Label.{Label}
use Rattle.content_build.specs.declared.frame.Waits.{Waits}
use Rattle.content_build.proofs.Calling.{opens_wrap, opens_series, opens_map, opens_record}
use Rattle.content_build.proofs.steps.step.Goals as goal
use Rattle.content_build.proofs.steps.step.Goals.{in-Wrap+in-Present, in-Wrap+in-Head, in-Series+in-Seq, in-Series+in-Tuple, in-Series+in-Head-series, in-Map, in-Record}

pub returns : goal.returns
returns c =
    let said = λ (call : token.Token). TakenTo (step_token (meaning c.args.frames.now.items c.args.openings.now.items) call) c.open.result c.open.new.frames.items c.open.new.openings.items in
    let answered : (call : token.Token) (p : Label × Waits) → c.match-call.label ≡ p → Opens call (label_view p.0) (wait_view p.1) → said call =
    λ call p e o. c.open.ensures call (subst (λ q. Opens call (label_view q.0) (wait_view q.1)) (sym e) o) in
    elim c.match-call.branch [
      | in-Wrap+in-Present w ↦ subst said (sym (ap token_view w.in-Wrap.is ∙ ap (λ x. token.wrap (wrap_view x)) w.in-Present.is))
          (answered (token.wrap token.in_some) _ w.label-is (opens_wrap token.in_some))
      | in-Wrap+in-Head w ↦ let head = head_of w.in-Head.head in
          subst said (sym (ap token_view w.in-Wrap.is ∙ ap (λ x. token.wrap (wrap_view x)) w.in-Head.is))
          (answered (token.wrap (token.in_head head)) _ w.label-is (subst (λ n. Opens (token.wrap (token.in_head head)) n child) (sym w.headed.ensures) (opens_wrap (token.in_head head))))
      | in-Series+in-Seq w ↦ subst said (sym (ap token_view w.in-Series.is ∙ ap (λ x. token.open_series (series_view x)) w.in-Seq.is))
          (answered (token.open_series token.series_seq) _ w.label-is (opens_series token.series_seq))
      | in-Series+in-Tuple w ↦ subst said (sym (ap token_view w.in-Series.is ∙ ap (λ x. token.open_series (series_view x)) w.in-Tuple.is))
          (answered (token.open_series token.series_tuple) _ w.label-is (opens_series token.series_tuple))
      | in-Series+in-Head-series w ↦ let head = head_of w.in-Head-series.head in
          subst said (sym (ap token_view w.in-Series.is ∙ ap (λ x. token.open_series (series_view x)) w.in-Head-series.is))
          (answered (token.open_series (token.series_head head)) _ w.label-is (subst (λ n. Opens (token.open_series (token.series_head head)) n (in_series token.tuple_field)) (sym w.headed-in-Head-series.ensures) (opens_series (token.series_head head))))
      | in-Map w ↦ subst said (sym (ap token_view w.in-Map.is)) (answered token.open_map _ w.label-is opens_map)
      | in-Record w ↦ let head = head_of w.in-Record.head in
          subst said (sym (ap token_view w.in-Record.is))
          (answered (token.open_record head) _ w.label-is (subst (λ n. Opens (token.open_record head) n in_record) (sym w.headed-in-Record.ensures) (opens_record head)))
    ]
