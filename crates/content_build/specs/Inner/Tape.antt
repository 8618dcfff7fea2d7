-- The partial tree that a tape represents.
use Rattle.std.specs.Prelude.{Option}
use Rattle.content_build.specs.Partial.{Partial}
use Rattle.content_build.specs.Inner.Sound.{viewed}
use Rattle.content_build.specs.declared.tape.Tape.{Tape}

-- the partial tree, or nothing after a refusal
abbrev pub partial_tree : Tape → Option Partial
partial_tree t = viewed t.failed t.frames.items t.openings.items
