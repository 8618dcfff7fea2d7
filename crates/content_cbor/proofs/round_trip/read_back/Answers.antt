use Rattle.std.proofs.Common.{rules, refl}
use Rattle.serde_content.proofs.ComingBack.{read_such, read_or_memory}
use Rattle.content_cbor.proofs.Returned.{kept_back}
use Rattle.content_cbor.proofs.round_trip.read_back.Goals as goal

pub returns-clause-value : goal.returns-clause-value
returns-clause-value g c x t real kept codes =
    read_such g.T.Deserialize.refusal g.T.Deserialize.gives _ _ _
    (kept_back (g.met.T.CborRoundTrip c.lifetimes (search rules)).kept x real t kept) refl (c.from_bytes.ensures.value t codes)

pub returns-clause-memory : goal.returns-clause-memory
returns-clause-memory g c x t real kept codes =
    read_or_memory g.T.Deserialize.refusal g.T.Deserialize.gives _ _ _
    (kept_back (g.met.T.CborRoundTrip c.lifetimes (search rules)).kept x real t kept) refl (c.from_bytes.ensures.value t codes)
