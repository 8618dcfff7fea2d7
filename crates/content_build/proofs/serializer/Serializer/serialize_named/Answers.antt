use Rattle.content_build.proofs.Serializing.{made_whole, made_within}
use Rattle.content_build.proofs.serializer.Serializer.serialize_named.Goals as goal

pub returns-in-Ok-clause-unlimited : goal.returns-in-Ok-clause-unlimited
returns-in-Ok-clause-unlimited g c = λ none. made_whole c.in-Ok.ensures

pub returns-in-Ok-clause-within : goal.returns-in-Ok-clause-within
returns-in-Ok-clause-within g c = λ limit is positive. made_within (c.room.ensures limit is positive) c.in-Ok.ensures
