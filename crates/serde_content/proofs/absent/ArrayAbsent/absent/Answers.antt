use Rattle.std.proofs.Common.{rules, subst, sym, ◌<◌}
use Rattle.std.proofs.lemmas.List.Elements.{recursion_from_All}
use Rattle.serde_content.proofs.absent.ArrayAbsent.absent.Goals as goal

pub returns : goal.returns
returns g c =
    let made = c.from_fn.ensures.items in
    recursion_from_All g.T.Absent.is_absent c.from_fn.result (λ i d below.
    let call = made.at i d (subst (λ n. i < n) made.long below) in
    search (rules, call.2))
