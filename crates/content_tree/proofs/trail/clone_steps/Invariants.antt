use Rattle.std.proofs.Common.{◌≡◌, take, map}
use Rattle.content_tree.specs.Errors.Where.{place_of}
use Rattle.content_tree.proofs.trail.clone_steps.Given as goal

abbrev pub invariant-loop-step : goal.invariant-loop-step
invariant-loop-step l = map place_of l.copies.items ≡ map place_of (take l.step-index l.steps.items)
