use Rattle.std.proofs.Common.{◌≡◌, ◌++◌, codes, drop, map, string_bytes}
use Rattle.std.specs.Fmt.{decimal}
use denote.Text.{Utf8}
use denote.Shadow.{shadow}
use Rattle.content_json.specs.Layout.{line}
use Rattle.content_json.proofs.Writing.{led}
use Rattle.content_json.proofs.encoding.write_bytes.Given as goal

abbrev pub invariant-loop-byte : goal.invariant-loop-byte
invariant-loop-byte l = record {
  utf8 : shadow (Utf8 l.lead);
  written :
      string_bytes l.out ++ led l.lead (line l.inner) (map decimal (drop l.byte-index l.bytes))
      ≡ string_bytes l.fn.out ++ led (codes "[") (line l.inner) (map decimal l.bytes);
}
