use Rattle.std.proofs.Common.{rules, subst, false}
use Rattle.content_tree.specs.Values.Value.{tree_of}
use Rattle.content_de.specs.Reads.Read.{Reads}
use Rattle.serde_content.specs.RoundTrip.{flags}
use Rattle.serde_content.proofs.ComingBack.{returned_tree, read_such, read_or_memory}
use Rattle.serde_content.proofs.values.from_value.Goals as goal

pub returns-clause-read : goal.returns-clause-read
returns-clause-read g c =
    subst (λ s. Reads (g.T.Deserialize.refusal s) (g.T.Deserialize.gives s) c.deserialize.result) c.under.ensures c.deserialize.ensures.value

pub returns-clause-value : goal.returns-clause-value
returns-clause-value g c x real spelled =
    read_such g.T.Deserialize.refusal g.T.Deserialize.gives _ _ _
    (returned_tree (g.met.T.RoundTrip c.lifetimes (search rules)).comes_back x real (flags c.args.human_readable false) (tree_of c.args.value) spelled)
    c.under.ensures c.deserialize.ensures.value

pub returns-clause-memory : goal.returns-clause-memory
returns-clause-memory g c x real spelled =
    read_or_memory g.T.Deserialize.refusal g.T.Deserialize.gives _ _ _
    (returned_tree (g.met.T.RoundTrip c.lifetimes (search rules)).comes_back x real (flags c.args.human_readable false) (tree_of c.args.value) spelled)
    c.under.ensures c.deserialize.ensures.value
