use Rattle.content_build.specs.Builder.{seen_of}
use Rattle.content_build.proofs.Stepwise.{ends_exactly}
use Rattle.content_build.proofs.builder.Builder.finish.Goals as goal

pub returns-clause-exact : goal.returns-clause-exact
unfolding seen_of
returns-clause-exact c limit calls taken = ends_exactly limit calls _ c.finish_named.result taken c.finish_named.ensures
