use Rattle.std.proofs.Common.{◌≡◌, ◌++◌, length, flat_map, string_bytes}
use denote.Text.{Utf8}
use denote.Shadow.{shadow}
use Rattle.content_json.specs.Strings.{escaped}
use Rattle.content_json.proofs.strings.write_escaped.Given as goal

abbrev pub invariant-loop-plain : goal.invariant-loop-plain
invariant-loop-plain l = record {
  utf8 : shadow (Utf8 l.rest);
  written : string_bytes l.out ++ flat_map escaped l.rest ≡ string_bytes l.fn.out ++ flat_map escaped l.text;
}

abbrev pub decreases-loop-plain : goal.decreases-loop-plain
decreases-loop-plain l = length l.rest
