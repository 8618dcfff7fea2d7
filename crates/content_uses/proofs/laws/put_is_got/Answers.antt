use Rattle.std.proofs.Common.{refl, rules}
use Rattle.serde_content.proofs.ComingBack.{read_such, read_or_memory, returned_tree}
use Rattle.serde_content.specs.Names.Words.{no_flags}
use Rattle.content_uses.proofs.laws.put_is_got.Goals as goal

pub returns-clause-value : goal.returns-clause-value
returns-clause-value g c x t real at spelled =
    read_such g.T.Deserialize.refusal g.T.Deserialize.gives _ _ _
    (returned_tree (g.met.T.RoundTrip c.lifetimes (search rules)).comes_back x real no_flags t spelled) refl (c.get.ensures.value t at)

pub returns-clause-memory : goal.returns-clause-memory
returns-clause-memory g c x t real at spelled =
    read_or_memory g.T.Deserialize.refusal g.T.Deserialize.gives _ _ _
    (returned_tree (g.met.T.RoundTrip c.lifetimes (search rules)).comes_back x real no_flags t spelled) refl (c.get.ensures.value t at)
