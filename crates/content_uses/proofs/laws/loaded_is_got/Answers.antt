use Rattle.std.proofs.Common.{inl, inr, refl, rules}
use Rattle.serde_content.proofs.ComingBack.{read_such, read_or_memory, returned_tree}
use Rattle.content_cbor.specs.Decoded.{read_flags}
use Rattle.content_cbor.proofs.Returned.{kept_back}
use Rattle.content_uses.proofs.laws.loaded_is_got.Goals as goal

pub returns-clause-value : goal.returns-clause-value
returns-clause-value g c x t real at loaded =
    let back = g.met.T.CborRoundTrip c.lifetimes (search rules) in
    let trip = g.met.T.RoundTrip c.lifetimes (search rules) in
    read_such g.T.Deserialize.refusal g.T.Deserialize.gives _ _ _
    (elim loaded [
      | inl spelled ↦ returned_tree trip.comes_back x real read_flags t spelled
      | inr kept ↦ kept_back back.kept x real t kept
    ]) refl (c.get_coerced.ensures.value t at)

pub returns-clause-memory : goal.returns-clause-memory
returns-clause-memory g c x t real at loaded =
    let back = g.met.T.CborRoundTrip c.lifetimes (search rules) in
    let trip = g.met.T.RoundTrip c.lifetimes (search rules) in
    read_or_memory g.T.Deserialize.refusal g.T.Deserialize.gives _ _ _
    (elim loaded [
      | inl spelled ↦ returned_tree trip.comes_back x real read_flags t spelled
      | inr kept ↦ kept_back back.kept x real t kept
    ]) refl (c.get_coerced.ensures.value t at)
