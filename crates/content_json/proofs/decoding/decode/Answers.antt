use Rattle.std.proofs.Common.{sym, subst, ◌∙◌}
use Rattle.content_tree.specs.Values.Value.{tree_of}
use Rattle.content_json.specs.Decoded.{StopsAt}
use Rattle.content_json.specs.Inner.Reading.{whole_at}
use Rattle.content_json.proofs.CompleteValues.{whole_there}
use Rattle.content_json.proofs.Sound.{ok_is}
use Rattle.content_json.proofs.SoundValues.{whole_read}
use Rattle.content_json.proofs.Stops.{no_memory, stops}
use Rattle.content_json.proofs.decoding.decode.Goals as goal

pub returns-in-Ok-clause-value : goal.returns-in-Ok-clause-value
returns-in-Ok-clause-value c = whole_read c.args.depth_limit (tree_of c.in-Ok.value) c.args.bytes.now c.in-Ok.ensures

pub returns-in-Ok-clause-only : goal.returns-in-Ok-clause-only
returns-in-Ok-clause-only c = λ t is. ok_is (tree_of c.in-Ok.value) t (sym c.in-Ok.ensures ∙ whole_there c.args.depth_limit t c.args.bytes.now is)

pub returns-in-Err-clause-only : goal.returns-in-Err-clause-only
returns-in-Err-clause-only c = λ t is. c.error_of.ensures ∙ no_memory c.args.depth_limit c.args.bytes.now c.in-Err.stop t c.in-Err.ensures is

pub returns-in-Err-clause-fault : goal.returns-in-Err-clause-fault
returns-in-Err-clause-fault c =
    subst (λ e. StopsAt c.args.bytes.now e (whole_at c.args.depth_limit c.args.bytes.now)) (sym c.error_of.ensures)
    (stops c.args.bytes.now c.in-Err.stop (whole_at c.args.depth_limit c.args.bytes.now) c.in-Err.ensures)
