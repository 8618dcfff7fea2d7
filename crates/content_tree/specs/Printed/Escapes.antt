-- What isn't printed as it is.
use Rattle.std.specs.Prelude.{ℕ, Bool, nat_lt, ◌==◌, ◌||◌}

-- whether a character of a quoted text, or a byte of it, is printed as anything but itself
abbrev pub has_escape : ℕ → Bool
has_escape c = nat_lt c 32 || (c == 34 || (c == 92 || c == 127))
