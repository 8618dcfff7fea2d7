use Rattle.std.proofs.Common.{◌≡◌, ℕ, List, [], ◌++◌, drop}
use denote.Text.{Utf8}
use denote.Shadow.{shadow}
use Rattle.std.specs.Fmt.{HasWrittenStyled, IsFlush}
use Rattle.content_tree.specs.Printed.Images.{byte_list}
use Rattle.content_tree.proofs.display.write_byte_list.Given as goal

abbrev pub invariant-loop-byte : goal.invariant-loop-byte
invariant-loop-byte g l =
    shadow (Utf8 l.lead) × (IsFlush l.fn.f → (done : List ℕ) × HasWrittenStyled g.W.Write.write_str_gives l.fn.f done l.f
    × (done ++ byte_list l.lead (drop l.byte-index l.bytes) ≡ byte_list [] l.bytes))
