use Rattle.std.proofs.Common.{rules, ap, ◌∙◌}
use Rattle.content_ser.specs.Scripts.Script.{calls_of}
use Rattle.content_build.proofs.Agreement.{one_tree}
use Rattle.content_de.specs.Sources.Origin.{tree_under}
use Rattle.serde_content.specs.RoundTrip.{flags}
use Rattle.serde_content.proofs.ComingBack.{sent_or_memory, returned, read_such}
use Rattle.serde_content.proofs.ComingBack.{read_given, read_or_memory}
use Rattle.serde_content.proofs.round.round_trip.Goals as goal

pub returns-in_err-sent-clause-memory : goal.returns-in_err-sent-clause-memory
returns-in_err-sent-clause-memory g c =
    sent_or_memory (g.T.Serialize.script c.args.value.now c.args.human_readable) _ _
    ((g.met.T.RoundTrip c.lifetimes (search rules)).comes_back.of_value c.args.value.now c.known.ensures (flags c.args.human_readable c.args.coerce)) c.in_err-sent.ensures c.from_residual.ensures.1

pub returns-clause-value : goal.returns-clause-value
returns-clause-value g c =
    read_such g.T.Deserialize.refusal g.T.Deserialize.gives _ _ _
    (returned (g.met.T.RoundTrip c.lifetimes (search rules)).comes_back c.args.value.now c.known.ensures (flags c.args.human_readable c.args.coerce) _ c.in_ok-sent.ensures)
    c.under.ensures c.deserialize.ensures.value

pub returns-clause-memory : goal.returns-clause-memory
returns-clause-memory g c =
    read_or_memory g.T.Deserialize.refusal g.T.Deserialize.gives _ _ _
    (returned (g.met.T.RoundTrip c.lifetimes (search rules)).comes_back c.args.value.now c.known.ensures (flags c.args.human_readable c.args.coerce) _ c.in_ok-sent.ensures)
    c.under.ensures c.deserialize.ensures.value

pub returns-clause-given : goal.returns-clause-given
returns-clause-given g c t spelled =
    read_given g.T.Deserialize.refusal g.T.Deserialize.gives _ _ _
    (c.under.ensures ∙ ap (tree_under (flags c.args.human_readable c.args.coerce)) (one_tree (calls_of (g.T.Serialize.script c.args.value.now c.args.human_readable)) _ t c.in_ok-sent.ensures.1 spelled))
    c.deserialize.ensures.value
