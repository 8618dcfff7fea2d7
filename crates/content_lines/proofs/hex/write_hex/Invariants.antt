use Rattle.std.proofs.Common.{◌≡◌, ◌++◌, length}
use Rattle.std.specs.String.{string_bytes}
use Rattle.content_lines.specs.Numerals.{hex_of}
use Rattle.content_lines.proofs.hex.write_hex.Given as goal

abbrev pub invariant-bytes : goal.invariant-bytes
invariant-bytes l = string_bytes l.out ++ hex_of l.rest ≡ string_bytes l.initial.out ++ hex_of l.bytes

abbrev pub decreases-bytes : goal.decreases-bytes
decreases-bytes l = length l.rest
