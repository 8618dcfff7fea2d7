use Rattle.std.proofs.Common.{◌-◌, arith, refl}
use Rattle.content_build.proofs.Growing.{key-given}
use Rattle.content_build.proofs.grow.give_key.Goals as goal

pub returns-then-count-gt0 : goal.returns-then-count-gt0
returns-then-count-gt0 c =
    key-given c.args.grown.now.items (c.len-count.result - 1) c.index_mut-last.result.now _ c.args.key.now
    (omega (arith, c.args.grown.now.ok.0)) c.index_mut-last.ensures.value refl
