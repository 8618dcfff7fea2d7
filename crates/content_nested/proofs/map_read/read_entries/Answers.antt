use Rattle.std.proofs.Common.{sym, ap, ◌∙◌, option_map}
use Rattle.content_de.specs.Outcomes.{cause}
use Rattle.content_de.specs.Sources.Deserializer.{subject}
use Rattle.content_nested.proofs.Entries.{entries_refused}
use Rattle.content_nested.proofs.map_read.read_entries.Goals as goal

pub returns-in-Err : goal.returns-in-Err
returns-in-Err g c = λ known.
    sym c.loop-entries.invariant.refusal ∙ entries_refused g.K.Deserialize.refusal (g.L.ReadsWithin.refusal c.args.levels.now) _ _ (subject c.in-Some.entry.0) (subject c.in-Some.entry.1)
    (cause c.in-Err.error) (cause c.refused_value.result) (ap (option_map (λ e. (subject e.0, subject e.1))) (sym c.in-Some.is) ∙ c.in_ok-entry.ensures.value) c.in-Err.ensures
    c.refused_value.ensures.cause known
