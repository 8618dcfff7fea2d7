use Rattle.content_build.proofs.Recording.{sent_is_listed}
use Rattle.content_build.proofs.laws.sent_is_listed.Goals as goal

pub returns : goal.returns
returns c = sent_is_listed
