use Rattle.std.proofs.Common.{◌≡◌}
use Rattle.content_nested.specs.Levels.{levels_of}
use Rattle.content_nested.proofs.levels.all_levels.Given as goal

-- there are as many as were made
abbrev pub invariant-loop-made : goal.invariant-loop-made
invariant-loop-made l = levels_of l.levels ≡ l.made
