use Rattle.std.proofs.Common.{◌∙◌}
use Rattle.content_build.proofs.Calling.{counted}
use Rattle.content_build.proofs.tape.Tape.open_count.Goals as goal

pub returns : goal.returns
returns c =
    let tape = c.args.self.now in
    counted tape.failed tape.frames.items tape.openings.items c.len.result tape.kept (c.len.ensures ∙ tape.openings.ok.0)
