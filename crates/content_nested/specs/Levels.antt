-- How many levels of values in values of their own type are read.
use Rattle.std.specs.Prelude.{ℕ, suc}
use Rattle.content_nested.specs.declared.levels.Levels.{Levels, fold-Levels}
use Rattle.content_nested.specs.declared.levels.Levels.TheOpen as open_
use Rattle.content_nested.specs.declared.levels.Levels.TheOpen.{Levels-F}

-- one more than those below it
abbrev pub one_more : Levels-F ℕ → ℕ
one_more open_.Out = 0
one_more (open_.More b) = suc b.value

-- how many are left
abbrev pub levels_of : Levels → ℕ
levels_of = fold-Levels ℕ one_more

-- how many there are at first
unfoldable pub most_levels : ℕ
most_levels = 128
